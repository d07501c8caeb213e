-- All that the program prints for its two files: §12.6, §12.7.
use Rattle.std.specs.Prelude.{ℕ, ◌+◌, ◌*◌, ◌≡◌, List, length, take, Err, Ok}
use Rattle.text.specs.Buffer.{Put}
use Rattle.text.specs.Lines.{answer_line, accepted_lines}
use Rattle.refusal.specs.Limits.{most_places, most_entries}
use Rattle.refusal.specs.Refusal.{kind_of, index_of, refusal_number}
use Rattle.refusal.specs.declared.Refusal.{Refusal}
use Rattle.lending.specs.Call.{room_fault, written_over}
use Rattle.sequential.specs.Petri.{petri_net}
use Rattle.sequential.specs.Bounds.{bounds}
use Rattle.judge.specs.Answer.{check_answer, CheckAnswer}
use Rattle.minimal.specs.Minimal.{minimal_form}
use Rattle.octets.specs.Words.{words_of, decoded}
use Rattle.files.specs.Words.{net_read, sheet_read}
use Rattle.files.specs.Program.{files_answer, program_answer}

-- line 1, all that a refusal prints: §12.6
unfoldable pub refused_text : Refusal → List ℕ
refused_text r = answer_line (refusal_number r) (kind_of r.at) (index_of r.at)

-- what is printed for the check's answer to words: line 1, and on acceptance the counts, the bounds and the minimal form (§12.7)
unfoldable pub text_of : CheckAnswer → List ℕ → List ℕ → List ℕ
text_of (Err r) net sheet = refused_text r
text_of (Ok c) net sheet = accepted_lines c.nodes c.arcs c.awaits (bounds (petri_net net) sheet) (minimal_form net sheet)

-- what is printed for the bytes of two files: §12.5, §12.9
unfoldable pub printed : List ℕ → List ℕ → List ℕ
printed netBytes sheetBytes = text_of (program_answer netBytes sheetBytes) (words_of net_read netBytes) (words_of sheet_read sheetBytes)

-- ---- the program's buffers: room for all of it (§12.9)

-- the longest minimal form
abbrev pub form_most : ℕ
form_most = 2 + 2 * most_entries

-- the longest text: no number in it has more than ten digits
abbrev pub text_most : ℕ
text_most = 93 + 34 * most_places + 11 * form_most

-- the lengths of the buffers: for the bytes of both files (§12.3), the words of both, the minimal form and the text
pub record Buffers (netBytes sheetBytes net sheet form out : List ℕ) : Type 0 where
  pub net_bytes : length netBytes ≡ 4 * net_read
  pub sheet_bytes : length sheetBytes ≡ 4 * sheet_read
  pub net_words : length net ≡ net_read
  pub sheet_words : length sheet ≡ sheet_read
  pub form_words : length form ≡ form_most
  pub text_bytes : length out ≡ text_most

-- what a read leaves at the front of a buffer: as much of the file as the buffer holds
abbrev pub Reads : List ℕ → List ℕ → ℕ → Type 0
Reads file buffer n = take (length buffer) file ≡ take n buffer

-- ---- buffers of any length

-- 22 comes last (§7.54), if the buffer is too short for the minimal form
abbrev pub room_answer : CheckAnswer → ℕ → List ℕ → CheckAnswer
room_answer (Err r) room form = Err r
room_answer (Ok c) room form = check_answer (room_fault room (length form)) c

abbrev pub form_after : CheckAnswer → List ℕ → List ℕ → List ℕ
form_after (Err r) result form = form
form_after (Ok c) result form = written_over result form

-- what is printed for words and the check's answer to them
pub record WordsPrinted (answer : CheckAnswer) (net sheet form out : List ℕ) (r : ℕ) (form' out' : List ℕ) : Type 0 where
  pub text : Put out 0 (text_of (room_answer answer (length form) (minimal_form net sheet)) net sheet) r out'
  pub form-after : form' ≡ form_after (room_answer answer (length form) (minimal_form net sheet)) (minimal_form net sheet) form

-- The postcondition: what the call is handed, what it answers, and what the four buffers hold afterwards.
pub record FilesPrinted (netBytes sheetBytes net sheet form out : List ℕ) (r : ℕ) (net' sheet' form' out' : List ℕ) : Type 0 where
  pub words : WordsPrinted (files_answer (length net) (length sheet) netBytes sheetBytes) (words_of (length net) netBytes) (words_of (length sheet) sheetBytes) form out r form' out'
  pub net_decoded : net' ≡ decoded netBytes net
  pub sheet_decoded : sheet' ≡ decoded sheetBytes sheet
