use Rattle.scan.proofs.Basics.{rules}
use Rattle.react.proofs.AllTimes.{filling-start}
use Rattle.react.proofs.times.Timed.times.Goals as goal

pub loop-n-init : goal.loop-n-init
loop-n-init c = filling-start c.args.self.now.schedule.now.judged.mapped c.args.self.now.passed c.nodes-n-end.ensures.size (search rules)
