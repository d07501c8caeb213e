-- What is promised of the reading of files and of what is printed for them, as statements. proofs/Demands has a term for each.
use Rattle.refusal.specs.declared.Reason.TheVariants.{NetLength, ScheduleLength}
use Rattle.std.specs.Prelude.{ℕ, ◌*◌, ◌≤◌, ◌≡◌, List, true, false, length, take, Err, Ok}
use Rattle.text.specs.Lines.{answer_line, accepted_lines}
use Rattle.refusal.specs.Refusal.{refusal, kind_of, index_of, refusal_number}
use Rattle.net.specs.Check.{net_reply}
use Rattle.refusal.specs.declared.Position.TheVariants.{Nothing}
use Rattle.refusal.specs.declared.Refusal.{Refusal}
use Rattle.sequential.specs.Petri.{petri_net}
use Rattle.sequential.specs.Words.{node_count}
use Rattle.sequential.specs.Check.{arc_count, await_count, schedule_reply}
use Rattle.sequential.specs.Bounds.{bounds}
use Rattle.judge.specs.Answer.{counts_of, check_answer}
use Rattle.judge.specs.declared.Counts.{Counts}
use Rattle.minimal.specs.Minimal.{minimal_form}
use Rattle.octets.specs.Words.{ReadAsCut, is_ragged, words_of, cut}
use Rattle.files.specs.Words.{net_read, sheet_read}
use Rattle.files.specs.Program.{program_answer}
use Rattle.files.specs.Printed.{printed, text_most, Buffers, Reads, FilesPrinted}

abbrev pub CutReads : Type 0
CutReads = (most : ℕ) (bytes : List ℕ) → ReadAsCut most bytes

-- a longer file is answered as its front is: 16,912 bytes of the net and 32,780 of the sheet are enough (§12.3)
abbrev pub CutAnswers : Type 0
CutAnswers = (net sheet : List ℕ) → program_answer (cut net_read net) (cut sheet_read sheet) ≡ program_answer net sheet

-- words that are not handed on change no answer: §12.5. The words that are handed on are still one word too long (§1.7).
abbrev pub CutChecks : Type 0
CutChecks = (net sheet : List ℕ) → schedule_reply (take net_read net) (take sheet_read sheet) ≡ schedule_reply net sheet

-- what is answered, in this order: the net's tail, the net, the sheet's tail, the sheet: §12.4
pub record AnswersFiles (net sheet : List ℕ) : Type 0 where
  pub net_tail : is_ragged net_read net ≡ true → program_answer net sheet ≡ Err (refusal NetLength Nothing)
  pub net_refused : is_ragged net_read net ≡ false → (r : Refusal) → net_reply (words_of net_read net) ≡ Err r → program_answer net sheet ≡ Err r
  pub sheet_tail : is_ragged net_read net ≡ false → net_reply (words_of net_read net) ≡ Ok tt → is_ragged sheet_read sheet ≡ true
      → program_answer net sheet ≡ Err (refusal ScheduleLength Nothing)
  pub no_tail : is_ragged net_read net ≡ false → is_ragged sheet_read sheet ≡ false → program_answer net sheet
      ≡ check_answer (schedule_reply (words_of net_read net) (words_of sheet_read sheet)) (counts_of (words_of net_read net) (words_of sheet_read sheet))

abbrev pub AnswersInOrder : Type 0
AnswersInOrder = (net sheet : List ℕ) → AnswersFiles net sheet

-- ---- what is printed

-- line 1, the counts, the bounds and the minimal form of accepted words: §12.7
unfoldable pub accepted_text : List ℕ → List ℕ → List ℕ
accepted_text net sheet = accepted_lines (node_count sheet) (arc_count (petri_net net) sheet) (await_count (petri_net net) sheet) (bounds (petri_net net) sheet) (minimal_form net sheet)

-- a refusal prints line 1 only: §12.6
pub record PrintsFiles (net sheet : List ℕ) : Type 0 where
  pub refused : (r : Refusal) → program_answer net sheet ≡ Err r → printed net sheet ≡ answer_line (refusal_number r) (kind_of r.at) (index_of r.at)
  pub accepted : (c : Counts) → program_answer net sheet ≡ Ok c → printed net sheet ≡ accepted_text (words_of net_read net) (words_of sheet_read sheet)

abbrev pub PrintsInOrder : Type 0
PrintsInOrder = (net sheet : List ℕ) → PrintsFiles net sheet

-- the program's buffer for the text is long enough, whatever the files
abbrev pub TextFits : Type 0
TextFits = (net sheet : List ℕ) → length (printed net sheet) ≤ text_most

-- no more of the files has to be read than the program's buffers hold: §12.3
abbrev pub ReadPrints : Type 0
ReadPrints = (netFile sheetFile netBuffer sheetBuffer : List ℕ) (n s : ℕ) → length netBuffer ≡ 4 * net_read → length sheetBuffer ≡ 4 * sheet_read
    → Reads netFile netBuffer n → Reads sheetFile sheetBuffer s → printed (take n netBuffer) (take s sheetBuffer) ≡ printed netFile sheetFile

-- what the function leaves in the program's buffers is the text, whole
abbrev pub PrintsWhole : Type 0
PrintsWhole = (netBytes sheetBytes netBuffer sheetBuffer net sheet form out net' sheet' form' out' : List ℕ) (r : ℕ) → Buffers netBuffer sheetBuffer net sheet form out
    → FilesPrinted netBytes sheetBytes net sheet form out r net' sheet' form' out' → take r out' ≡ printed netBytes sheetBytes
