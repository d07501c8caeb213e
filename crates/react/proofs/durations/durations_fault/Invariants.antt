-- `react::durations::durations_fault` meets its contract: the transitions before the counter pass.
use Rattle.react.proofs.Lasting.{Passing}
use Rattle.react.proofs.durations.durations_fault.Given as goal

abbrev pub invariant-loop-t : goal.invariant-loop-t
invariant-loop-t l = Passing l.words l.transitions l.t
