use Rattle.scan.proofs.Basics.{rules}
use Rattle.text.proofs.Joined.{one-digit, two-put, two-more}
use Rattle.text.proofs.buffer.+decimal.Goals as goal

pub returns-then-n-lt10 : goal.returns-then-n-lt10
returns-then-n-lt10 t c = one-digit _ c.if-n-lt10.true c.byte.ensures

pub returns-then-n-lt100 : goal.returns-then-n-lt100
returns-then-n-lt100 t c = search (two-put, rules)

pub returns : goal.returns
returns t c = search (two-more, rules)
