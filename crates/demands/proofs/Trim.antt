-- What is promised of trimming, proved.
use Rattle.std.specs.Prelude.{Ok}
use Rattle.scan.proofs.Basics.{ℕ, ◌≤◌, ◌<◌, arith, ◌≡◌, refl, ◌∙◌, ◌↔◌, List, length}
use mathlib.Core.Logic.Iff
use Rattle.automaton.specs.Reach.{Reachable}
use Rattle.refusal.specs.Limits.{scratch_limit}
use Rattle.refusal.proofs.Judges.{pass-append}
use Rattle.net.specs.Checks.{net_checks, IsNet}
use Rattle.sequential.specs.Petri.{petri_net}
use Rattle.sequential.specs.Words.{node_count}
use Rattle.sequential.specs.Checks.{word_checks, WordsPass}
use Rattle.sequential.proofs.Words.{words-hold}
use Rattle.sequential.proofs.Accepted.{accepts}
use Rattle.graph.specs.Readable.{words_reply}
use Rattle.judge.specs.Answer.{plain_check, CheckAnswer}
use Rattle.schedule.specs.Calls.{CheckDone}
use Rattle.schedule.proofs.Done.{check-law}
use Rattle.lending.specs.Demands.{number}
use Rattle.lending.proofs.Lent.{room-two}
use Rattle.lending.proofs.Done.{done-zero}
use Rattle.lending.proofs.Demands.{every-call-none, every-call-two}
use Rattle.trimmed.specs.Trim.{new_number, trimmed_words, kept_list}
use Rattle.sequential.specs.OnReached.{HoldsOnReached}
use Rattle.trimmed.specs.Call.{plain_trim, TrimDone, TrimAnswer}
use Rattle.trimmed.proofs.Words.{result-trimming, result-list, list-old, list-size, result-unique, result-lists, result-reached, result-accepted, all-on-reached}
use Rattle.trimmed.proofs.Words.{result-spared, reached-itself, reached-list, result-short, list-short}
use Rattle.trimmed.proofs.Done.{words-judged, trim-law}
use Rattle.demands.specs.Terms.{said, Accepted}
use Rattle.demands.specs.Trim.{TrimCall, trimmed_by, kept_by, CutDown, up_to, TrimDemand}
use Rattle.demands.proofs.Calls.{call-zero, unread-two, own-size, own-front, own-rest, own-fits}
use Rattle.demands.proofs.Capacities.{not-answered}
use Rattle.demands.proofs.Checked.{accepted-reply, reply-accepted}

exact : (net sheet out list s out' list' s' : List ℕ) (a : TrimAnswer) → TrimDone net sheet out list s a out' list' s'
    → scratch_limit ≤ length s → length sheet ≤ length out → node_count sheet ≤ length list → (number (plain_trim a) ≡ 0) ↔ (IsNet net × WordsPass (petri_net net) sheet)
exact net sheet out list s out' list' s' a d l m k = (
  λ z. (pass-append (net_checks net) (word_checks (petri_net net) sheet)).0 ((words-judged net sheet).accepts.0 ((call-zero (trim-law net sheet) d).0 z).1),
  λ p.
      let h = (words-judged net sheet).accepts.1 ((pass-append (net_checks net) (word_checks (petri_net net) sheet)).1 p) in
      (call-zero (trim-law net sheet) d).1 (l, h, (room-two _ _ out list).0 (omega (arith, result-short net sheet h), omega (arith, list-short net sheet h))),
)

-- ---- a call that answered 0

module _ (net sheet : List ℕ) (c : TrimCall net sheet) where
  trimmed-is : trimmed_by c ≡ trimmed_words net sheet
  trimmed-is = own-front (trim-law net sheet) c.done c.zero 0 refl

  list-is : kept_by c ≡ kept_list net sheet
  list-is = own-front (trim-law net sheet) c.done c.zero 1 refl

  passed : words_reply net sheet ≡ Ok tt
  passed = (done-zero (trim-law net sheet) c.done c.zero).passed

  cut : CutDown net sheet (trimmed_by c) (kept_by c)
  cut = rw (trimmed-is, list-is) (record {
    new = new_number (said net sheet);
    trimming = result-trimming net sheet passed;
    back = list-old net sheet passed;
    size = list-size net sheet passed;
    only = λ other f w. result-unique net sheet passed other f (words-hold (petri_net net) other w);
  })

  accepted : Accepted net (trimmed_by c) ↔ HoldsOnReached (petri_net net) (said net sheet)
  accepted = rw trimmed-is (
    λ a. (result-accepted net sheet passed).0 (accepted-reply net (trimmed_words net sheet) a),
    λ s. reply-accepted net (trimmed_words net sheet) ((result-accepted net sheet passed).1 s),
  )

  never_16 : (s s' : List ℕ) (a : CheckAnswer) → CheckDone net (trimmed_by c) s a s' → number (plain_check a) ≡ 16 → ⊥
  never_16 s s' a d =
      not-answered 16 (λ e. omega (arith, e)) (λ (e : 21 ≡ 16). absurd (omega (arith, e)), rw trimmed-is (result-spared net sheet passed))
      ((every-call-none (check-law net (trimmed_by c)) {limit = scratch_limit} refl).by_numbers s s' a _ d)

  -- where all nodes are reached
  reached : ((n : ℕ) → n < node_count sheet → Reachable (said net sheet) n) → (trimmed_by c ≡ sheet) × (kept_by c ≡ up_to (node_count sheet))
  reached all = (trimmed-is ∙ reached-itself net sheet passed all, list-is ∙ reached-list net sheet passed all)

-- ---- all of it

pub trim-demand : TrimDemand
trim-demand = record {
  every = λ net sheet. record {
    for_sheet = length (trimmed_words net sheet);
    for_list = length (kept_list net sheet);
    every = λ out list. every-call-two (trim-law net sheet) refl (λ p. Iff.rfl);
    answered = λ c. let size = own-size (trim-law net sheet) c.done c.zero in (size 0 refl, size 1 refl);
  };
  unread = λ net sheet. unread-two (trim-law net sheet) _ _ refl;
  exact = exact;
  cut = cut;
  lists = λ net sheet c. rw (list-is net sheet c) (result-list net sheet (passed net sheet c));
  same_lists = λ net sheet c. rw (trimmed-is net sheet c) (result-lists net sheet (passed net sheet c));
  accepted = accepted;
  by_16_alone = λ net sheet c s. (accepted net sheet c).1 (all-on-reached net sheet (passed net sheet c) s);
  never_16 = never_16;
  within = λ net sheet c.
      let rest = own-rest (trim-law net sheet) c.done c.zero in
      let fits = own-fits (trim-law net sheet) c.done c.zero in
      (rest 0 refl, rest 1 refl, fits 0 refl, fits 1 refl);
  itself = λ net sheet a c. reached net sheet c (accepts net sheet (accepted-reply net sheet a)).schedule.reached;
  twice = λ net sheet c d. reached net (trimmed_by c) d (rw (trimmed-is net sheet c) (result-reached net sheet (passed net sheet c)));
}
