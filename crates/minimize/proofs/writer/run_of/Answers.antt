-- `minimize::writer::run_of` meets its contract.
use Rattle.scan.proofs.Basics.{arith, rules}
use Rattle.minimize.specs.Runs.{run_from, run_size}
use Rattle.minimize.proofs.Runs.{runs-rise}
use Rattle.minimize.proofs.writer.run_of.Goals as goal

pub overflow_sub-result : goal.overflow_sub-result
unfolding run_from
overflow_sub-result c =
    let p = c.requires in
    omega (arith, runs-rise p.rising p.fits c.args.key c.args.width)

pub returns : goal.returns
unfolding run_from run_size
returns c = (search rules, search rules)
