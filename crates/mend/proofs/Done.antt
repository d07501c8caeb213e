-- The paths of the call's code after measuring: a buffer is too short, or both results are written.
use Rattle.std.specs.Prelude.{Result, Err, Ok}
use Rattle.refusal.specs.Refusal.{Verdict}
use Rattle.refusal.specs.Verdict.{verdict_alone}
use Rattle.scan.proofs.Basics.{ℕ, ◌+◌, ◌*◌, ◌≤◌, arith, ◌≡◌, refl, sym, ap, ◌∙◌, List, length, length-append}
use Rattle.scan.specs.Placed.{placed}
use Rattle.scan.proofs.Placed.{placed-front}
use Rattle.refusal.specs.declared.Refusal.{Refusal}
use Rattle.sequential.specs.Petri.{petri_net}
use Rattle.sequential.specs.Words.{graph}
use Rattle.encoding.specs.declared.Section.TheVariants.{CountKeys}
use Rattle.encoding.proofs.Encoded.{encoded-entries, encoded-length}
use Rattle.lending.specs.Call.{room_fault}
use Rattle.lending.proofs.Lent.{room-holds}
use Rattle.lending.proofs.Laws.{refused-first, refused-second, answered-two}
use Rattle.mended.specs.Counts.{mended_graph}
use Rattle.mended.specs.Mend.{mend_verdict, mended_words}
use Rattle.mended.specs.Changes.{changed_keys, changed_counts, change_list, changes as change_words}
use Rattle.mended.specs.Call.{MendWritten}
use Rattle.mended.proofs.Changes.{paired}
use Rattle.mend.specs.Measure.{Ready, Measured}
use Rattle.mend.specs.declared.measure.Measure.{Measure}
use Rattle.mend.specs.declared.writer.Part.TheVariants.{Changes}
use Rattle.mend.proofs.Writes.{change-keys, part-most}
use Rattle.mend.proofs.Measuring.{entries_are}

-- so both buffers' lengths are small numbers
pub few : {net sheet : List ℕ} {m : Measure} → Ready net sheet m → (m.entries ≤ 4096) × (m.changes ≤ 4096)
few k = (k.few_entries, omega (arith, k.changes_are, part-most _ _ k.mendable.fitting.readable Changes CountKeys))

module _ (net sheet out list : List ℕ) {answer : Result Measure Refusal} (d : Measured net sheet answer) {m : Measure} (a : answer ≡ Ok m) where
  abbrev k : Ready net sheet m
  k = d.ready m a

  sheet-long : length (mended_words net sheet) ≡ 2 + 2 * m.entries
  unfolding mended_words
  sheet-long =
      let M = mended_graph (petri_net net) (graph (petri_net net) sheet) in
      omega (arith, encoded-length (petri_net net) M, encoded-entries (petri_net net) M, entries_are net sheet k.mendable.fitting.readable, k.entries_are)

  list-long : length (change_words net sheet) ≡ 1 + 2 * m.changes
  unfolding change_words change_list
  list-long =
      let p = paired (petri_net net) sheet in
      omega (arith, length-append (changed_keys (petri_net net) sheet) (changed_counts (petri_net net) sheet), p, k.changes_are, ap length (change-keys net sheet k.mendable.fitting.readable))

  accepted : mend_verdict net sheet ≡ Ok tt
  accepted = sym d.reply ∙ ap verdict_alone a

  pub sheet-short : {w : Verdict} {r : Refusal} → w ≡ room_fault (length out) (2 + 2 * m.entries) → w ≡ Err r → MendWritten net sheet out list (Err r) out list
  sheet-short h k = refused-first refl accepted (rw sheet-long (sym h ∙ k)) refl

  pub list-short : {w : Verdict} {r : Refusal} → w ≡ room_fault (length list) (1 + 2 * m.changes) → w ≡ Err r → MendWritten net sheet out list (Err r) out list
  list-short h k = refused-second refl accepted (rw list-long (sym h ∙ k)) refl

  pub both-written : {w x : Verdict} {out' list' : List ℕ} → w ≡ room_fault (length out) (2 + 2 * m.entries) → w ≡ Ok tt → x ≡ room_fault (length list) (1 + 2 * m.changes)
      → x ≡ Ok tt
      → out' ≡ placed out 0 (mended_words net sheet) → list' ≡ placed list 0 (change_words net sheet)
      → MendWritten net sheet out list (Ok (record { sheet = 2 + 2 * m.entries; list = 1 + 2 * m.changes })) out' list'
  both-written h k i j o l =
      let f : room_fault (length out) (length (mended_words net sheet)) ≡ Ok tt = rw sheet-long (sym h ∙ k) in
      let g : room_fault (length list) (length (change_words net sheet)) ≡ Ok tt = rw list-long (sym i ∙ j) in
      answered-two refl accepted f g (rw (sheet-long, list-long))
      (o ∙ placed-front (mended_words net sheet) out (room-holds _ _ f)) (l ∙ placed-front (change_words net sheet) list (room-holds _ _ g))
