-- `firmware::decoded::run` meets its contract.
use Rattle.scan.proofs.Basics.{ℕ, length-replicate}
use Rattle.schedule.specs.Calls.{run_core}
use Rattle.octets.specs.Words.{all_words}
use Rattle.firmware.proofs.Cut.{written-cut, run-asks}
use Rattle.firmware.proofs.decoded.run.Goals as goal

pub returns : goal.returns
returns c =
    let firings = c.args.firings.now in
    written-cut (λ n s. run_core n s (all_words firings)) (run-asks _) _ _
    (rw (c.words_in.ensures, c.words_in-2.ensures, length-replicate {A = ℕ} 4228 0, length-replicate {A = ℕ} 8195 0) at c.run.ensures)
