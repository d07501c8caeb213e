-- The answer if a file has a tail, and if none has.
use Rattle.std.specs.Prelude.{Err, Ok}
use Rattle.refusal.specs.declared.Reason.TheVariants.{NetLength, ScheduleLength}
use Rattle.scan.proofs.Basics.{ℕ, arith, ◌≡◌, refl, sym, ap, ◌∙◌, Bool, true, false, List, length, take}
use Rattle.refusal.specs.Refusal.{refusal, Verdict}
use Rattle.refusal.specs.Verdict.{verdict_of, and_then}
use Rattle.refusal.proofs.Verdicts.{then-accepted}
use Rattle.net.specs.Check.{net_reply}
use Rattle.refusal.specs.declared.Position.TheVariants.{Nothing}
use Rattle.refusal.specs.declared.Refusal.{Refusal}
use Rattle.sequential.specs.Petri.{petri_net}
use Rattle.sequential.specs.Check.{schedule_fault, schedule_reply}
use Rattle.judge.specs.Answer.{counts_of, check_answer, CheckAnswer}
use Rattle.judge.specs.declared.Counts.{Counts}
use Rattle.text.specs.Buffer.{Put}
use Rattle.octets.specs.Words.{words_of, FileRead}
use Rattle.files.specs.Program.{tail_reply, read_reply, read_answer, files_answer, FilesRead}
use Rattle.files.specs.Printed.{refused_text, text_of, WordsPrinted, FilesPrinted}
use Rattle.octets.specs.declared.Reading.{Reading}
use Rattle.files.specs.declared.FilesAnswer.{FilesAnswer}
use Rattle.octets.proofs.Decoding.{words_are}

then-twice : (v w : Verdict) → and_then v w ≡ and_then v (and_then v w)
then-twice (Ok tt) w = refl
then-twice (Err r) w = refl

module _ (net sheet : List ℕ) (a b : Bool) where
  -- 1, whatever the other file
  pub net_tail : a ≡ true → Err (refusal NetLength Nothing) ≡ read_answer a b net sheet
  unfolding read_reply read_answer
  net_tail p = rw p

  -- the net's refusal, whatever the other file, and then 6
  pub net_refused : a ≡ false → (r : Refusal) → net_reply net ≡ Err r → Err r ≡ read_answer a b net sheet
  unfolding read_reply read_answer
  net_refused p r h = rw (p, h)

  pub sheet_tail : a ≡ false → b ≡ true → net_reply net ≡ Ok tt → Err (refusal ScheduleLength Nothing) ≡ read_answer a b net sheet
  unfolding read_reply read_answer
  sheet_tail p q h = rw (p, q, h)

  -- the check of the sheet asks the net again
  pub no_tail : a ≡ false → b ≡ false → check_answer (schedule_reply net sheet) (counts_of net sheet) ≡ read_answer a b net sheet
  unfolding read_reply read_answer schedule_reply
  no_tail p q = rw (p, q) (ap (λ (v : Verdict). check_answer v (counts_of net sheet)) (then-twice (net_reply net) (verdict_of (schedule_fault (petri_net net) sheet))))

-- both files decoded, and their words checked
pub files-read : (netBytes sheetBytes net sheet net' sheet' : List ℕ) (x y : Reading) (a : CheckAnswer)
    → FileRead netBytes net x net' → FileRead sheetBytes sheet y sheet'
    → a ≡ read_answer x.ragged y.ragged (take x.words net') (take y.words sheet')
    → FilesRead netBytes sheetBytes net sheet (record { answer = a; net = x.words; sheet = y.words }) net' sheet'
unfolding files_answer
files-read netBytes sheetBytes net sheet net' sheet' x y a n s h =
    record {
      answer = h ∙ rw (
        n.ragged,
        s.ragged,
        words_are netBytes net x.words net' n.words n.written,
        words_are sheetBytes sheet y.words sheet' s.words s.written,
      );
      net_words = n.words;
      sheet_words = s.words;
      net_decoded = n.written;
      sheet_decoded = s.written;
    }

-- ---- what passes is accepted, and what fails is refused

pub check-passed : (v : Verdict) (numbers c : Counts) → check_answer v numbers ≡ Ok c → (v ≡ Ok tt) × (numbers ≡ c)
check-passed (Ok tt) numbers c e = (refl, cc)
check-passed (Err r) numbers c e = let z : ◌≡◌ {A = ℕ} 0 1 = cc in absurd (omega arith)

pub check-failed : (v : Verdict) (numbers : Counts) (r : Refusal) → check_answer v numbers ≡ Err r → v ≡ Err r
check-failed (Ok tt) numbers r e = let z : ◌≡◌ {A = ℕ} 0 1 = cc in absurd (omega arith)
check-failed (Err s) numbers r e = let q : s ≡ r = cc in rw q

pub read-accepted : (a b : Bool) (net sheet : List ℕ) → read_reply a b net sheet ≡ Ok tt → schedule_reply net sheet ≡ Ok tt
unfolding read_reply
read-accepted a b net sheet v =
    let p = (then-accepted (tail_reply a NetLength) _ v).1 in
    let q = (then-accepted (net_reply net) _ p).1 in
    (then-accepted (tail_reply b ScheduleLength) (schedule_reply net sheet) q).1

pub read-passed : (a b : Bool) (net sheet : List ℕ) (c : Counts) → read_answer a b net sheet ≡ Ok c → (schedule_reply net sheet ≡ Ok tt) × (counts_of net sheet ≡ c)
unfolding read_answer
read-passed a b net sheet c e = let (v, q) = check-passed (read_reply a b net sheet) (counts_of net sheet) c e in (read-accepted a b net sheet v, q)

-- ---- what the decoded words give

module _ (netBytes sheetBytes net sheet net' sheet' : List ℕ) (x : FilesAnswer) (h : FilesRead netBytes sheetBytes net sheet x net' sheet') where
  net-is : take x.net net' ≡ words_of (length net) netBytes
  net-is = words_are netBytes net x.net net' h.net_words h.net_decoded

  sheet-is : take x.sheet sheet' ≡ words_of (length sheet) sheetBytes
  sheet-is = words_are sheetBytes sheet x.sheet sheet' h.sheet_words h.sheet_decoded

  pub files-accepted : (c : Counts) → x.answer ≡ Ok c → schedule_reply (take x.net net') (take x.sheet sheet') ≡ Ok tt
  unfolding files_answer
  files-accepted c e = rw (net-is, sheet-is) (read-passed _ _ _ _ c (sym h.answer ∙ e)).0

  -- ---- all that is printed for them

  module _ (form out out' : List ℕ) (k : ℕ) where
    pub refused-files : (r : Refusal) → x.answer ≡ Err r → Put out 0 (refused_text r) k out' → FilesPrinted netBytes sheetBytes net sheet form out k net' sheet' form out'
    unfolding text_of
    refused-files r e p =
        let q = sym h.answer ∙ e in
        record { words = rw q (record { text = p; form-after = refl }); net_decoded = h.net_decoded; sheet_decoded = h.sheet_decoded }

    pub accepted-files : (form' : List ℕ) (c : Counts) → x.answer ≡ Ok c → WordsPrinted (Ok c) (take x.net net') (take x.sheet sheet') form out k form' out'
        → FilesPrinted netBytes sheetBytes net sheet form out k net' sheet' form' out'
    accepted-files form' c e p =
        let q = sym h.answer ∙ e in
        record { words = rw (q, ← net-is, ← sheet-is) p; net_decoded = h.net_decoded; sheet_decoded = h.sheet_decoded }
