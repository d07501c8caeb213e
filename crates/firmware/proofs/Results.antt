-- A result that is written as bytes: 22 counts whole words. The minimal form is first written to an array of words that has room for any.
use Rattle.std.specs.Prelude.{Err, Ok}
use Rattle.refusal.specs.Refusal.{Verdict}
use Rattle.scan.proofs.Basics.{ℕ, ◌/◌, ◌≤◌, arith, ◌≡◌, refl, sym, ◌∙◌, List, [], ◌∷◌, ◌++◌, length, take, drop, length-append}
use lib.Seq.{take-append_seam}
use Rattle.scan.specs.Scan.{tabulate}
use Rattle.scan.specs.Placed.{placed}
use Rattle.refusal.specs.declared.Refusal.{Refusal}
use Rattle.sequential.specs.Check.{schedule_reply}
use Rattle.lending.specs.Call.{Core, room_fault, output_fault, words_verdict, written_at}
use Rattle.lending.proofs.Lent.{room-enough, room-holds}
use Rattle.minimal.specs.Minimal.{minimal_form}
use Rattle.minimal.specs.Form.{form_core, FormWritten, FormAnswer}
use Rattle.minimal.proofs.Minimal.{form-short}
use Rattle.octets.specs.Bytes.{bytes_of}
use Rattle.octets.proofs.Decoding.{words_count}
use Rattle.octets.proofs.Writing.{bytes-over}
use Rattle.firmware.specs.Parts.{Written}
use Rattle.firmware.proofs.Cut.{refused-written}

-- ---- of a call with one output buffer

module _ {Answer : Type 0} {core : Core Answer} {result out : List ℕ} {a : Answer} where
  pub refused-room : {r : Refusal} → core.results ≡ result ∷ [] → core.verdict ≡ Ok tt → room_fault (length out / 4) (length result) ≡ Err r
      → a ≡ core.refused r → Written core out a out
  unfolding words_verdict output_fault
  refused-room q e f h = let k = words_count out in record { answered = rw (e, q, k, f) h; written = rw (e, q, k, f) }

  pub answered-room : {out' : List ℕ} → core.results ≡ result ∷ [] → core.verdict ≡ Ok tt → room_fault (length out / 4) (length result) ≡ Ok tt
      → a ≡ core.accepted → out' ≡ placed out 0 (bytes_of 4 result) → Written core out a out'
  unfolding words_verdict output_fault
  answered-room q e f h w =
      let k = words_count out in
      record { answered = rw (e, q, k, f) h; written = rw (e, q, k, f) (w ∙ bytes-over 4 result out (omega (arith, room-holds _ _ f))) }

-- ---- the minimal form

pub record Formed (net sheet form' : List ℕ) (k : ℕ) : Type 0 where
  pub accepted : schedule_reply net sheet ≡ Ok tt
  pub count : k ≡ length (minimal_form net sheet)
  pub front : take k form' ≡ minimal_form net sheet
  pub fits : k ≤ length form'

module _ (net sheet words words' : List ℕ) (a : FormAnswer) where
  by-refusal : (r : Refusal) → schedule_reply net sheet ≡ Err r → FormWritten net sheet words a words' → a ≡ Err r
  unfolding words_verdict
  by-refusal r e d = rw e at d.reply

  by-room : length words ≡ 8194 → schedule_reply net sheet ≡ Ok tt → FormWritten net sheet words a words'
      → (a ≡ Ok (length (minimal_form net sheet))) × (words' ∷ [] ≡ (minimal_form net sheet ++ drop (length (minimal_form net sheet)) words) ∷ [])
  unfolding words_verdict output_fault tabulate written_at
  by-room l e d =
      let o = room-enough (length words) (length (minimal_form net sheet)) (omega (arith, form-short net sheet e)) in
      (d.reply ∙ rw (e, o), d.written ∙ rw (e, o))

  pub form-written : (k : ℕ) → length words ≡ 8194 → FormWritten net sheet words a words' → a ≡ Ok k → Formed net sheet words' k
  form-written k l d q = go (schedule_reply net sheet) refl
    where
      go : (v : Verdict) → schedule_reply net sheet ≡ v → Formed net sheet words' k
      go (Ok tt) e =
          let (x, y) = by-room l e d in
          let count : k ≡ length (minimal_form net sheet) = cc in
          let held : words' ≡ minimal_form net sheet ++ drop (length (minimal_form net sheet)) words = cc in
          record {
            accepted = e;
            count = count;
            front = rw (count, held) (take-append_seam (minimal_form net sheet) _);
            fits = rw (count, held) (omega (arith, length-append (minimal_form net sheet) (drop (length (minimal_form net sheet)) words)));
          }
      go (Err r) e = let x = by-refusal r e d in let z : ◌≡◌ {A = ℕ} 0 1 = cc in absurd (omega arith)

  pub form-refused : (out : List ℕ) (r : Refusal) → length words ≡ 8194 → FormWritten net sheet words a words' → a ≡ Err r
      → Written (form_core net sheet) out (Err r) out
  form-refused out r l d q = go (schedule_reply net sheet) refl
    where
      go : (v : Verdict) → schedule_reply net sheet ≡ v → Written (form_core net sheet) out (Err r) out
      go (Ok tt) e = let (x, y) = by-room l e d in let z : ◌≡◌ {A = ℕ} 0 1 = cc in absurd (omega arith)
      go (Err x) e = refused-written e (sym q ∙ by-refusal x e d)
