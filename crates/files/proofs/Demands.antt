-- The promises of the reading of files and of what is printed for them, each proved.
use Rattle.scan.proofs.Basics.{arith, sym}
use Rattle.sequential.proofs.Cut.{cut-reply-both}
use Rattle.judge.specs.Answer.{counts_of}
use Rattle.files.specs.Program.{files_answer, program_answer}
use Rattle.octets.specs.Words.{is_ragged, words_of}
use Rattle.files.specs.Words.{net_read, sheet_read}
use Rattle.files.specs.Printed.{refused_text, text_of, printed}
use Rattle.files.specs.Demands.{CutReads, CutAnswers, CutChecks, AnswersInOrder, accepted_text, PrintsInOrder, TextFits, ReadPrints, PrintsWhole}
use Rattle.octets.proofs.Decoding.{read-as-cut}
use Rattle.files.proofs.Replies.{net_tail, net_refused, sheet_tail, no_tail, read-passed}
use Rattle.files.proofs.Longest.{printed-fits}
use Rattle.files.proofs.Whole as whole

pub cut-reads : CutReads
cut-reads = read-as-cut

pub cut-answers : CutAnswers
cut-answers = whole.cut-answers

pub cut-checks : CutChecks
cut-checks net sheet = cut-reply-both net_read sheet_read (omega arith) (omega arith) net sheet

pub answers-in-order : AnswersInOrder
unfolding files_answer program_answer
answers-in-order net sheet =
    let n = words_of net_read net in
    let s = words_of sheet_read sheet in
    let a = is_ragged net_read net in
    let b = is_ragged sheet_read sheet in
    record {
      net_tail = λ p. sym (net_tail n s a b p);
      net_refused = λ p r h. sym (net_refused n s a b p r h);
      sheet_tail = λ p h q. sym (sheet_tail n s a b p q h);
      no_tail = λ p q. sym (no_tail n s a b p q);
    }

pub prints-in-order : PrintsInOrder
unfolding files_answer program_answer refused_text text_of printed accepted_text counts_of
prints-in-order net sheet = record {
  refused = λ r e. rw e;
  accepted = λ c e. let (a, q) = read-passed (is_ragged net_read net) (is_ragged sheet_read sheet) (words_of net_read net) (words_of sheet_read sheet) c e in rw (e, ← q);
}

pub text-fits : TextFits
text-fits = printed-fits

pub read-prints : ReadPrints
read-prints = whole.read-prints

pub prints-whole : PrintsWhole
prints-whole = whole.prints-whole
