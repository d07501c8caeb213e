-- `net::word_pass::weights_pass` meets its contract: where nothing was found, the weights before the counter pass.
use Rattle.scan.proofs.Basics.{◌≤◌, ◌≡◌, true}
use Rattle.net.specs.Known.{WeightsPass}
use Rattle.net.proofs.word_pass.weights_pass.Given as goal

abbrev pub invariant-loop-i : goal.invariant-loop-i
invariant-loop-i l = (l.i ≤ l.entries) × (l.pass ≡ true → WeightsPass l.net.words.now l.i)
