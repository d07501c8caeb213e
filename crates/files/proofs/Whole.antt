-- The program's buffers hold all that is handed on and printed, so that what is printed for what was read is what is printed for the files.
use Rattle.std.specs.Prelude.{Err, Ok}
use Rattle.judge.specs.Answer.{CheckAnswer}
use Rattle.scan.proofs.Basics.{ℕ, ◌*◌, ◌≤◌, arith, ◌≡◌, refl, sym, ◌∙◌, List, length, take}
use lib.Seq.{length-take-le}
use Rattle.text.specs.Buffer.{Put}
use Rattle.text.proofs.Put.{all-put, put_front, same_length}
use Rattle.lending.proofs.Lent.{room-enough}
use Rattle.sequential.specs.Check.{schedule_reply}
use Rattle.judge.specs.declared.Counts.{Counts}
use Rattle.minimal.specs.Minimal.{minimal_form}
use Rattle.minimal.proofs.Minimal.{form-short}
use Rattle.octets.specs.Words.{words_of, cut}
use Rattle.files.specs.Words.{net_read, sheet_read}
use Rattle.files.specs.Program.{files_answer, program_answer}
use Rattle.files.specs.Printed.{printed, form_most, Buffers, Reads, room_answer, FilesPrinted}
use Rattle.files.specs.Demands.{ReadPrints}
use Rattle.octets.proofs.Decoding.{read-as-cut}
use Rattle.files.proofs.Replies.{read-passed}
use Rattle.files.proofs.Longest.{printed-fits}

-- a longer file is answered, and printed for, as its cut
module _ (net sheet : List ℕ) where
  pub cut-answers : program_answer (cut net_read net) (cut sheet_read sheet) ≡ program_answer net sheet
  unfolding files_answer program_answer
  cut-answers =
      let n = read-as-cut net_read net in
      let s = read-as-cut sheet_read sheet in
      rw (n.words, n.ragged, s.words, s.ragged)

  pub cut-prints : printed (cut net_read net) (cut sheet_read sheet) ≡ printed net sheet
  unfolding printed
  cut-prints = rw (cut-answers, (read-as-cut net_read net).words, (read-as-cut sheet_read sheet).words)

-- a buffer of so many bytes is enough for a file
read-cut : (most n : ℕ) (file buffer : List ℕ) → length buffer ≡ 4 * most → Reads file buffer n → take n buffer ≡ cut most file
unfolding cut
read-cut most n file buffer l h = sym h ∙ rw l

pub read-prints : ReadPrints
read-prints netFile sheetFile netBuffer sheetBuffer n s k l a b = rw (read-cut net_read n netFile netBuffer k a, read-cut sheet_read s sheetFile sheetBuffer l b) (cut-prints netFile sheetFile)

-- 22 is not given
room-for-form : (answer : CheckAnswer) (net sheet : List ℕ) → ((c : Counts) → answer ≡ Ok c → schedule_reply net sheet ≡ Ok tt)
    → room_answer answer form_most (minimal_form net sheet) ≡ answer
room-for-form (Err r) net sheet h = refl
room-for-form (Ok c) net sheet h = rw (room-enough form_most (length (minimal_form net sheet)) (form-short net sheet (h c refl)))

module _ (netBytes sheetBytes netBuffer sheetBuffer net sheet form out net' sheet' form' out' : List ℕ) (r : ℕ) (b : Buffers netBuffer sheetBuffer net sheet form out)
    (h : FilesPrinted netBytes sheetBytes net sheet form out r net' sheet' form' out') where
  text-put : Put out 0 (printed netBytes sheetBytes) r out'
  unfolding files_answer program_answer printed
  text-put =
      let room = room-for-form (program_answer netBytes sheetBytes) (words_of net_read netBytes) (words_of sheet_read sheetBytes) (λ c e. (read-passed _ _ _ _ c e).0) in
      rw (b.net_words, b.sheet_words, b.form_words, room) at h.words.text

  pub prints-whole : take r out' ≡ printed netBytes sheetBytes
  prints-whole = put_front (omega (arith, b.text_bytes, printed-fits netBytes sheetBytes)) text-put

  pub text-counted : (r ≤ length out') × (r ≡ length (take r out'))
  text-counted =
      let f = printed-fits netBytes sheetBytes in
      let l : r ≤ length out' = omega (
        arith,
        all-put (omega (arith, b.text_bytes)) text-put,
        b.text_bytes,
        same_length text-put,
      ) in
      (l, sym (length-take-le r out' l))
