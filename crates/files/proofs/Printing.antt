-- What is printed for an answer, whether there is room for the minimal form or not; and that the program's buffers hold all of it.
use Rattle.std.specs.Prelude.{Err, Ok}
use Rattle.minimal.specs.Form.{FormAnswer}
use Rattle.refusal.specs.Refusal.{Verdict}
use Rattle.scan.proofs.Basics.{ℕ, ◌≤◌, arith, ◌≡◌, refl, ap, ◌∙◌, List, [], ◌∷◌, length, take}
use Rattle.text.specs.Buffer.{Put}
use Rattle.text.specs.Lines.{accepted_lines}
use Rattle.scan.specs.Scan.{tabulate}
use Rattle.refusal.specs.declared.Refusal.{Refusal}
use Rattle.lending.specs.Call.{Core, room_fault, output_fault, words_verdict, answer_of, written_over, written_at, outs_after, WordsDone}
use Rattle.lending.proofs.Done.{written-front, written-length}
use Rattle.lending.proofs.Lent.{room-holds}
use Rattle.judge.specs.declared.Counts.{Counts}
use Rattle.net.specs.Net.{place_count}
use Rattle.sequential.specs.Petri.{petri_net}
use Rattle.sequential.specs.Bounds.{bounds}
use Rattle.sequential.specs.Check.{schedule_reply}
use Rattle.graph.specs.Readable.{Readable}
use Rattle.graph.proofs.Readable.{known}
use Rattle.judge.proofs.Judged.{accepted-readable}
use Rattle.schedule.specs.Rows.{bounds_row}
use Rattle.schedule.proofs.BoundRows.{bounds-right, bounds-row}
use Rattle.minimal.specs.Minimal.{minimal_form}
use Rattle.files.specs.Printed.{refused_text, text_of, WordsPrinted}

-- ---- the minimal form of accepted words, which has room or not

-- what writes it, whichever checks it asks
abbrev writing : Verdict → List ℕ → Core FormAnswer
writing v result = record { verdict = v; accepted = Ok (length result); refused = Err; results = result ∷ [] }

pub record Formed (result form form' : List ℕ) (k : ℕ) : Type 0 where
  pub room : room_fault (length form) (length result) ≡ Ok tt
  pub count : k ≡ length result
  pub held : form' ≡ written_over result form

pub record NotFormed (result form form' : List ℕ) (r : Refusal) : Type 0 where
  pub room : room_fault (length form) (length result) ≡ Err r
  pub held : form' ≡ form

module _ {v : Verdict} {result form form' : List ℕ} {a : FormAnswer} (h : v ≡ Ok tt) (d : WordsDone (writing v result) (form ∷ []) a (form' ∷ [])) where
  by-room : (w : Verdict) → room_fault (length form) (length result) ≡ w → (a ≡ answer_of (writing v result) w) × (form' ∷ [] ≡ outs_after w (result ∷ []) (form ∷ []))
  unfolding words_verdict output_fault
  by-room (Ok tt) q = (d.reply ∙ rw (h, q), d.written ∙ rw (h, q))
  by-room (Err r) q = (d.reply ∙ rw (h, q), d.written ∙ rw (h, q))

  pub written-form : (k : ℕ) → a ≡ Ok k → Formed result form form' k
  unfolding tabulate written_at
  written-form k e = go (room_fault (length form) (length result)) refl
    where
      go : (w : Verdict) → room_fault (length form) (length result) ≡ w → Formed result form form' k
      go (Ok tt) q = let (x, y) = by-room _ q in record { room = q; count = cc; held = cc }
      go (Err r) q = let (x, y) = by-room _ q in let z : ◌≡◌ {A = ℕ} 0 1 = cc in absurd (omega arith)

  pub refused-form : (r : Refusal) → a ≡ Err r → NotFormed result form form' r
  refused-form r e = go (room_fault (length form) (length result)) refl
    where
      go : (w : Verdict) → room_fault (length form) (length result) ≡ w → NotFormed result form form' r
      go (Ok tt) q = let (x, y) = by-room _ q in let z : ◌≡◌ {A = ℕ} 0 1 = cc in absurd (omega arith)
      go (Err s) q = let (x, y) = by-room _ q in let same : s ≡ r = cc in record { room = rw (← same) q; held = cc }

module _ {result form form' : List ℕ} {k : ℕ} (f : Formed result form form' k) where
  pub form-fits : k ≤ length form'
  form-fits = let l = room-holds _ _ f.room in omega (arith, f.count, ap (length {A = ℕ}) f.held ∙ written-length result form l)

  pub form-front : take k form' ≡ result
  form-front = rw (f.count, f.held) (written-front result form)

-- ---- what is printed for accepted words

pub bounds-fit : (net sheet row : List ℕ) {places : ℕ} → schedule_reply net sheet ≡ Ok tt → places ≡ place_count net → length row ≡ 32 → places ≤ length row
bounds-fit net sheet row h e l = let k = known net sheet (accepted-readable net sheet h) in omega arith

module _ (counts : Counts) (net sheet form form' out out' : List ℕ) (r : ℕ) where
  pub too-long-printed : (x : Refusal) → NotFormed (minimal_form net sheet) form form' x → Put out 0 (refused_text x) r out' → WordsPrinted (Ok counts) net sheet form out r form' out'
  unfolding text_of
  too-long-printed x f p = record { text = rw f.room p; form-after = f.held ∙ rw f.room }

  pub accepted-printed : (k places : ℕ) (row : List ℕ) → Formed (minimal_form net sheet) form form' k → Readable net sheet → places ≡ place_count net → row ≡ bounds_row net sheet
      → Put out 0 (accepted_lines counts.nodes counts.arcs counts.awaits (take places row) (take k form')) r out' → WordsPrinted (Ok counts) net sheet form out r form' out'
  unfolding text_of
  accepted-printed k places row f h e q p =
      let b : take places row ≡ bounds (petri_net net) sheet = rw (e, q, bounds-right net sheet h) (bounds-row (petri_net net) sheet (known net sheet h).few_places) in
      record { text = rw (f.room, ← b, ← (form-front f)) p; form-after = f.held ∙ rw f.room }
