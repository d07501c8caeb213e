-- A single firing: the node to which it leads, and its answer told as one number.
use Rattle.std.specs.Prelude.{Result, Err, Ok}
use Rattle.schedule.specs.Plain.{FireAnswer}
use Rattle.refusal.specs.Refusal.{Verdict, refusal_number}
use Rattle.scan.proofs.Basics.{ℕ, ◌+◌, arith, ◌≡◌, refl, sym, ap, ◌∙◌, List, [], length, take}
use Rattle.refusal.specs.declared.Refusal.{Refusal}
use Rattle.sequential.specs.Check.{schedule_reply}
use Rattle.sequential.proofs.Cut.{cut-reply-both}
use Rattle.graph.specs.Rows.{marking_row}
use Rattle.lending.specs.Call.{words_verdict, output_fault}
use Rattle.schedule.specs.Walker.{walker}
use Rattle.schedule.specs.Calls.{StepDone}
use Rattle.schedule.specs.declared.Walker.{Walker}
use Rattle.schedule.specs.declared.Step.{Step}
use Rattle.octets.specs.Words.{all_words}
use Rattle.firmware.specs.Bytes.{broken_fault, bytes_verdict, bytes_answer}
use Rattle.firmware.specs.Calls.{own_core, fire_bytes, one_number}
use Rattle.firmware.specs.Parts.{early_verdict, next_node, next_of_words, next_of_bytes}
use Rattle.firmware.proofs.Early.{early-first, answer-same}
use Rattle.firmware.proofs.Cut.{handed-whole}

-- ---- of words

module _ (net sheet : List ℕ) (n t : ℕ) (counts : List ℕ) (answer : FireAnswer) (next : Walker) (e : counts ≡ marking_row net sheet n)
    (d : StepDone net sheet (walker n counts) t answer next) where
  next_told : next_node (answer, next) ≡ next_of_words net sheet n t
  unfolding next_of_words
  next_told = ap next_node (rw e at d).reply

  pub next-fired : (s : Step) → answer ≡ Ok s → Ok next.node ≡ next_of_words net sheet n t
  next-fired s h = ap (λ (a : FireAnswer). next_node (a, next)) (sym h) ∙ next_told

  pub next-refused : (r : Refusal) → answer ≡ Err r → Err r ≡ next_of_words net sheet n t
  next-refused r h = ap (λ (a : FireAnswer). next_node (a, next)) (sym h) ∙ next_told

-- ---- the words that are not handed on change no answer

refused-next : (net sheet : List ℕ) (n t : ℕ) (r : Refusal) → schedule_reply net sheet ≡ Err r → next_of_words net sheet n t ≡ Err r
unfolding next_of_words words_verdict
refused-next net sheet n t r e = rw e

pub next-cut : (net sheet : List ℕ) (n t : ℕ) → next_of_words (take 4228 net) (take 8195 sheet) n t ≡ next_of_words net sheet n t
next-cut net sheet n t = go (schedule_reply net sheet) refl
  where
    go : (v : Verdict) → schedule_reply net sheet ≡ v → next_of_words (take 4228 net) (take 8195 sheet) n t ≡ next_of_words net sheet n t
    go (Ok tt) e = let (a, b) = handed-whole net sheet e in rw (a, b)
    go (Err r) e =
        refused-next (take 4228 net) (take 8195 sheet) n t r (cut-reply-both 4228 8195 (omega arith) (omega arith) net sheet ∙ e) ∙ sym (refused-next net sheet n t r e)

-- ---- 21 and 31 first

module _ (net sheet : List ℕ) (n t lent : ℕ) {v : Verdict} (q : v ≡ early_verdict lent (length net) (length sheet) 0) where
  pub next-early : {r : Refusal} → v ≡ Err r → Err r ≡ next_of_bytes net sheet n t lent
  unfolding next_of_bytes
  next-early {r} e =
      let f : bytes_verdict (fire_bytes net sheet n t) [] lent ≡ Err r = early-first (own_core (all_words net) (all_words sheet) n t) lent (length net) (length sheet) 0 [] ∙ rw (← q, e) in rw f

  pub next-words : {a : Result ℕ Refusal} → v ≡ Ok tt → a ≡ next_of_words (all_words net) (all_words sheet) n t → a ≡ next_of_bytes net sheet n t lent
  unfolding next_of_words next_of_bytes words_verdict output_fault
  next-words e h =
      let f : bytes_verdict (fire_bytes net sheet n t) [] lent ≡ words_verdict (own_core (all_words net) (all_words sheet) n t) []
      = early-first (own_core (all_words net) (all_words sheet) n t) lent (length net) (length sheet) 0 [] ∙ rw (← q, e) in
      h ∙ rw f (ap next_node (sym (answer-same (own_core (all_words net) (all_words sheet) n t) (broken_fault (length net) (length sheet) 0)
      (words_verdict (own_core (all_words net) (all_words sheet) n t) []))))

-- ---- told as one number

number-of : (x : FireAnswer × Walker) (a : Result ℕ Refusal) → a ≡ next_node x → ((m : ℕ) → a ≡ Ok m → m ≡ one_number x) × ((r : Refusal) → a ≡ Err r → 2147483648 + refusal_number r ≡ one_number x)
number-of (Ok e, w) a h = (λ m q. cc, λ r q. cc)
number-of (Err s, w) a h = (λ m q. cc, λ r q. let same : s ≡ r = cc in rw same)

module _ (net sheet : List ℕ) (n t lent : ℕ) (a : Result ℕ Refusal) (h : a ≡ next_of_bytes net sheet n t lent) where
  pub number-fired : (m : ℕ) → a ≡ Ok m → m ≡ one_number (bytes_answer (fire_bytes net sheet n t) [] lent)
  unfolding next_of_bytes
  number-fired = (number-of (bytes_answer (fire_bytes net sheet n t) [] lent) a h).0

  pub number-refused : (r : Refusal) → a ≡ Err r → 2147483648 + refusal_number r ≡ one_number (bytes_answer (fire_bytes net sheet n t) [] lent)
  unfolding next_of_bytes
  number-refused = (number-of (bytes_answer (fire_bytes net sheet n t) [] lent) a h).1
