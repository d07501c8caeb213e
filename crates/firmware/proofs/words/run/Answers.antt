-- `firmware::words::run` meets its contract.
use Rattle.std.specs.Prelude.{Ok}
use Rattle.scan.proofs.Basics.{ℕ, arith, refl, sym, ap, ◌∙◌, List, take}
use lib.Seq.{length-take-le}
use Rattle.refusal.specs.Verdict.{verdict_alone}
use Rattle.refusal.proofs.Verdicts.{answer-none, then_next, then-refused, passed_on}
use Rattle.net.specs.Net.{place_count}
use Rattle.sequential.specs.Petri.{petri_net}
use Rattle.sequential.specs.Words.{marking}
use Rattle.graph.proofs.Readable.{known}
use Rattle.graph.proofs.Rows.{marking-right}
use Rattle.judge.proofs.Judged.{accepted-readable}
use Rattle.schedule.proofs.BoundRows.{end_row_lem}
use Rattle.schedule.proofs.Following.{run_ends}
use Rattle.schedule.specs.declared.Ran.{Ran}
use Rattle.scan.specs.Placed.{placed}
use Rattle.octets.specs.Bytes.{bytes_of}
use Rattle.firmware.proofs.Cut.{refused-written}
use Rattle.firmware.proofs.Results.{refused-room, answered-room}
use Rattle.firmware.proofs.words.run.Goals as goal

pub returns-in_err-verdict : goal.returns-in_err-verdict
returns-in_err-verdict c =
    let e = sym c.verdict.ensures ∙ c.in_err-verdict.was in
    refused-written (then-refused _ _ _ e ∙ e) (passed_on _ c.from_residual.ensures.1)

pub follow-requires : goal.follow-requires
follow-requires c = accepted-readable _ _ (sym c.verdict.ensures ∙ c.in_ok-verdict.was)

pub returns-in_err-ran : goal.returns-in_err-ran
returns-in_err-ran c =
    refused-written
    (then_next _ _ (sym c.verdict.ensures ∙ c.in_ok-verdict.was) ∙ sym c.follow.ensures.reply ∙ ap verdict_alone c.in_err-ran.was)
    (passed_on _ c.from_residual-in_err-ran.ensures.1)

pub overflow_cast-places : goal.overflow_cast-places
overflow_cast-places c = omega (arith, c.places-places.type_inv)

pub returns-in_err-output_fault : goal.returns-in_err-output_fault
returns-in_err-output_fault c =
    let h = sym c.verdict.ensures ∙ c.in_ok-verdict.was in
    let f = sym c.follow.ensures.reply ∙ ap verdict_alone c.in_ok-ran.was in
    let z = run_ends _ _ _ h (answer-none _ f) in
    refused-room refl (then_next _ _ h ∙ f) (rw (c.places-places.ensures, ← z.long) at (sym c.output_fault.ensures ∙ c.in_err-output_fault.was))
    (passed_on _ c.from_residual-in_err-output_fault.ensures.1)

pub slice_bounds-row-end : goal.slice_bounds-row-end
slice_bounds-row-end c = let k = known _ _ (accepted-readable _ _ (sym c.verdict.ensures ∙ c.in_ok-verdict.was)) in omega arith

pub slice_bounds-write_words-end : goal.slice_bounds-write_words-end
slice_bounds-write_words-end c = sym (length-take-le _ _ (let k = known _ _ (accepted-readable _ _ (sym c.verdict.ensures ∙ c.in_ok-verdict.was)) in omega arith))

pub returns : goal.returns
returns c =
    let h = sym c.verdict.ensures ∙ c.in_ok-verdict.was in
    let ok = sym c.follow.ensures.reply ∙ ap verdict_alone c.in_ok-ran.was in
    let e = c.follow.ensures.ran _ c.in_ok-ran.was in
    let n = ap (λ (r : Ran). r.node) e in
    let r = accepted-readable _ _ h in
    let z = run_ends _ _ _ h (answer-none _ ok) in
    let room = sym c.output_fault.ensures ∙ c.in_ok-output_fault.was in
    answered-room refl (then_next _ _ h ∙ ok) (rw (z.long, ← c.places-places.ensures) room) (ap Ok e)
    (c.write_words.ensures ∙ ap (λ (x : List ℕ). placed c.args.out.now 0 (bytes_of 4 x))
    (ap (λ (k : ℕ). take k c.marking-row.result) c.places-places.ensures
    ∙ ap (take (place_count c.args.net.now)) (c.marking-row.ensures ∙ marking-right _ _ r.arcs _ (rw n z.low))
    ∙ end_row_lem _ _ _ (rw n z.low) (known _ _ r).few_places ∙ ap (marking (petri_net c.args.net.now) c.args.sheet.now) n ∙ z.counts))
