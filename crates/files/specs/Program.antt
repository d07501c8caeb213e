-- What the program answers for its two files: §12.4, §12.5.
use Rattle.std.specs.Prelude.{ℕ, ◌≡◌, List, Bool, true, false, length, Err, Ok}
use Rattle.refusal.specs.Refusal.{refusal, Verdict}
use Rattle.net.specs.Check.{net_reply}
use Rattle.refusal.specs.declared.Position.TheVariants.{Nothing}
use Rattle.refusal.specs.declared.Reason.{Reason}
use Rattle.refusal.specs.declared.Reason.TheVariants.{NetLength, ScheduleLength}
use Rattle.refusal.specs.Verdict.{and_then}
use Rattle.sequential.specs.Check.{schedule_reply}
use Rattle.judge.specs.Answer.{counts_of, check_answer, CheckAnswer}
use Rattle.octets.specs.Words.{is_ragged, word_count, words_of, decoded}
use Rattle.files.specs.Words.{net_read, sheet_read}
use Rattle.files.specs.declared.FilesAnswer.{FilesAnswer}

-- a tail is refused for the reason of its file: §12.4
abbrev pub tail_reply : Bool → Reason → Verdict
tail_reply true reason = Err (refusal reason Nothing)
tail_reply false reason = Ok tt

-- the checks in their order: the net's tail, the net, the sheet's tail, the sheet: §12.4
unfoldable pub read_reply : Bool → Bool → List ℕ → List ℕ → Verdict
read_reply netRagged sheetRagged net sheet =
    and_then (tail_reply netRagged NetLength) (and_then (net_reply net) (and_then (tail_reply sheetRagged ScheduleLength) (schedule_reply net sheet)))

unfoldable pub read_answer : Bool → Bool → List ℕ → List ℕ → CheckAnswer
read_answer netRagged sheetRagged net sheet = check_answer (read_reply netRagged sheetRagged net sheet) (counts_of net sheet)

-- the answer to the bytes of two files, for given limits of the words that are handed on
unfoldable pub files_answer : ℕ → ℕ → List ℕ → List ℕ → CheckAnswer
files_answer netMost sheetMost netBytes sheetBytes =
    read_answer (is_ragged netMost netBytes) (is_ragged sheetMost sheetBytes) (words_of netMost netBytes) (words_of sheetMost sheetBytes)

-- the answer with the program's limits: §1.7, §12.5
unfoldable pub program_answer : List ℕ → List ℕ → CheckAnswer
program_answer netBytes sheetBytes = files_answer net_read sheet_read netBytes sheetBytes

-- The postcondition: what the call is handed, what it answers, and what the two buffers hold afterwards.
pub record FilesRead (netBytes sheetBytes net sheet : List ℕ) (r : FilesAnswer) (net' sheet' : List ℕ) : Type 0 where
  pub answer : r.answer ≡ files_answer (length net) (length sheet) netBytes sheetBytes
  pub net_words : r.net ≡ word_count (length net) netBytes
  pub sheet_words : r.sheet ≡ word_count (length sheet) sheetBytes
  pub net_decoded : net' ≡ decoded netBytes net
  pub sheet_decoded : sheet' ≡ decoded sheetBytes sheet
