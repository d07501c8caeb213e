-- `replay::replay_into` meets its contract.
use Rattle.scan.proofs.Basics.{arith, refl, sym, ap, ◌∙◌}
use Rattle.refusal.specs.Verdict.{verdict_alone}
use Rattle.refusal.proofs.Verdicts.{passed_on}
use Rattle.lending.proofs.Lent.{room-holds}
use Rattle.lending.proofs.Laws.{refused-words}
use Rattle.replay.proofs.Replays.{countable}
use Rattle.replay.proofs.Done.{taken-short, put-short, all-written}
use Rattle.replay.proofs.replay_into.Goals as goal

pub returns-in_err-entry : goal.returns-in_err-entry
returns-in_err-entry c = rw (passed_on _ c.from_residual.ensures.1) (refused-words (sym c.checked.ensures.reply ∙ ap verdict_alone c.in_err-entry.was) refl)

pub returns-in_err-output_fault : goal.returns-in_err-output_fault
returns-in_err-output_fault c =
    rw (passed_on _ c.from_residual-in_err-output_fault.ensures.1)
    (taken-short _ _ _ _ _ (sym c.checked.ensures.reply ∙ ap verdict_alone c.in_ok-entry.was) c.places-places.ensures c.output_fault.ensures c.in_err-output_fault.was)

pub returns-in_err-output_fault-2 : goal.returns-in_err-output_fault-2
returns-in_err-output_fault-2 c =
    rw (passed_on _ c.from_residual-in_err-output_fault-2.ensures.1)
    (put-short _ _ _ _ _ (sym c.checked.ensures.reply ∙ ap verdict_alone c.in_ok-entry.was) c.places-places.ensures c.output_fault-2.ensures c.in_err-output_fault-2.was)

pub totals_into-totals-requires : goal.totals_into-totals-requires
totals_into-totals-requires c =
    let x = room-holds _ _ (sym c.output_fault.ensures ∙ c.in_ok-output_fault.was) in
    let y = room-holds _ _ (sym c.output_fault-2.ensures ∙ c.in_ok-output_fault-2.was) in
    let k = countable _ _ _ (sym c.checked.ensures.reply ∙ ap verdict_alone c.in_ok-entry.was) in
    record { countable = k; rooms = record { taken_room = omega arith; put_room = omega arith } }

pub returns : goal.returns
returns c =
    all-written _ _ _ _ _ (sym c.checked.ensures.reply ∙ ap verdict_alone c.in_ok-entry.was) c.places-places.ensures (c.checked.ensures.entry _ c.in_ok-entry.was)
    c.output_fault.ensures c.in_ok-output_fault.was c.output_fault-2.ensures c.in_ok-output_fault-2.was c.totals_into-totals.ensures
