-- What is promised of the comparison of two schedules, proved: what every call does, and what the postcondition says in the words of demand 3.
use Rattle.std.specs.Prelude.{Ok}
use Rattle.scan.proofs.Basics.{ℕ, ◌≤◌, arith, ◌≡◌, refl, sym, subst, ◌↔◌, List, [], ◌∷◌, length}
use mathlib.Core.Logic.Iff
use Rattle.scan.specs.Scan.{bit}
use Rattle.scan.proofs.Count.{bit-one, bit_le}
use Rattle.automaton.specs.Automaton.{SameLists}
use Rattle.refusal.specs.Limits.{scratch_limit}
use Rattle.sequential.specs.Check.{schedule_reply}
use Rattle.lending.specs.Call.{written_over}
use Rattle.lending.specs.Demands.{EveryCall}
use Rattle.lending.proofs.Lent.{room-two}
use Rattle.lending.proofs.Done.{Answered, done-zero, written-front}
use Rattle.lending.proofs.Demands.{every-call-two}
use Rattle.minimal.specs.Minimal.{minimal_form}
use Rattle.minimal.proofs.Minimal.{form-accepted, form-lists, form-short, forms-equal}
use Rattle.compare.specs.Compare.{same_forms, plain_compare, compare_core}
use Rattle.compare.specs.Means.{CompareDone}
use Rattle.compare.proofs.Words.{lists-same}
use Rattle.compare.proofs.Paths.{both-pass, both-accepted}
use Rattle.compare.proofs.Done.{compare-law}
use Rattle.compare.proofs.Says.{compare-done}
use Rattle.demands.specs.Terms.{said}
use Rattle.demands.specs.Demand3.{Merges}
use Rattle.demands.specs.Compare.{Comparing, first_size, second_size, told_same, first_form, second_form, all_compare_checks, FormOfSheet, CompareDemand}
use Rattle.demands.proofs.Calls.{call-zero, unread-two}
use Rattle.demands.proofs.Checked.{accepted-reply, reply-accepted, always-accepted}
use Rattle.demands.proofs.Demand3.{form-merges, merges-form, made-form}
use Rattle.demands.proofs.ToldIndex.{index-told}

-- ---- every call

module _ (net x y one two : List ℕ) where
  every : EveryCall {Left = List ℕ × List ℕ} scratch_limit plain_compare
      (all_compare_checks net x y ((length (minimal_form net x) ≤ length one) × (length (minimal_form net y) ≤ length two))) (one, two)
      (λ s a left s'. CompareDone net x y one two s a left.0 left.1 s')
  every =
      let e = every-call-two (compare-law net x y) {limit = scratch_limit} {out₁ = one} {out₂ = two} refl (λ p. Iff.rfl) in
      record {
        replies = λ s. let (a, left, s', d) = e.replies s in (a, left, s', compare-done net x y d);
        one = λ s t s' t' a b left right q c d. e.one s t s' t' a b left right q c.call d.call;
        by_numbers = λ s s' a left d. e.by_numbers s s' a left d.call;
        keeps = λ s s' a left d n. e.keeps s s' a left d.call n;
        scratch = λ s s' a left d. e.scratch s s' a left d.call;
      }

-- ---- a call that answered 0

module _ (net x y : List ℕ) (c : Comparing net x y) where
  answered : Answered (compare_core net x y) (c.one ∷ c.two ∷ []) c.answer (c.one' ∷ c.two' ∷ [])
  answered = done-zero (compare-law net x y) c.done.call c.zero

  accepted-both : (schedule_reply net x ≡ Ok tt) × (schedule_reply net y ≡ Ok tt)
  accepted-both = both-pass net x y answered.passed

  sizes_are : (first_size c ≡ length (minimal_form net x)) × (second_size c ≡ length (minimal_form net y))
  sizes_are = rw answered.reply (refl, refl)

  same-is : told_same c ≡ bit (same_forms net x y)
  same-is = rw answered.reply refl

  first-is : first_form c ≡ minimal_form net x
  first-is = rw (sizes_are.0, answered.written 0) (written-front (minimal_form net x) c.one)

  second_is : second_form c ≡ minimal_form net y
  second_is = rw (sizes_are.1, answered.written 1) (written-front (minimal_form net y) c.two)

  same-words : (told_same c ≡ 1) ↔ (minimal_form net x ≡ minimal_form net y)
  unfolding same_forms
  same-words = rw same-is (Iff.trans (bit-one (same_forms net x y)) (lists-same (minimal_form net x) (minimal_form net y)))

  same_lists : (told_same c ≡ 1) ↔ SameLists (said net x) (said net y) 0 0
  same_lists = Iff.trans same-words (forms-equal net x y accepted-both.0 accepted-both.1)

form-of-sheet : (net sheet : List ℕ) → schedule_reply net sheet ≡ Ok tt → {out form out' : List ℕ} → form ≡ minimal_form net sheet
    → length (minimal_form net sheet) ≤ length out → out' ≡ written_over (minimal_form net sheet) out → FormOfSheet net sheet out form out'
form-of-sheet net sheet h e l w = rw e (record {
  original = reply-accepted net sheet h;
  within = (l, w);
  accepted = always-accepted net (minimal_form net sheet) (form-accepted net sheet h);
  same_lists = form-lists net sheet h;
  the_form = λ other. (λ q. subst (Merges net sheet) (sym q) (form-merges net sheet h), merges-form net sheet h other);
  as_form = made-form net sheet;
})

-- ---- all of it

pub compare-demand : CompareDemand
compare-demand = record {
  every = λ net x y. record {
    for_first = length (minimal_form net x);
    for_second = length (minimal_form net y);
    every = every net x y;
    answered = sizes_are net x y;
  };
  index = λ net x y one two s one' two' s' a d. index-told net x y s d;
  unread = λ net x y o₁ o₂ t₁ t₂ s₁ s₂ o₁' o₂' t₁' t₂' s₁' s₂' a₁ a₂ lo lt ls c d.
      unread-two (compare-law net x y) _ _ refl o₁ o₂ t₁ t₂ s₁ s₂ o₁' o₂' t₁' t₂' s₁' s₂' a₁ a₂ lo lt ls c.call d.call;
  same = same_lists;
  words = λ net x y c. rw (first-is net x y c, second_is net x y c) (same-words net x y c);
  one_or_none = λ net x y c. rw (same-is net x y c) (bit_le (same_forms net x y));
  first = λ net x y c. form-of-sheet net x (accepted-both net x y c).0 (first-is net x y c) ((answered net x y c).room 0) ((answered net x y c).written 0);
  second = λ net x y c. form-of-sheet net y (accepted-both net x y c).1 (second_is net x y c) ((answered net x y c).room 1) ((answered net x y c).written 1);
  there_is = λ net x y one two s hx hy l m n.
      let a = accepted-reply net x hx in
      let b = accepted-reply net y hy in
      let (r, left, s', d) = (every net x y one two).replies s in
      let z = (call-zero (compare-law net x y) d.call).1 (
        l,
        both-accepted net x y a b,
        (room-two _ _ one two).0 (omega (arith, form-short net x a), omega (arith, form-short net y b)),
      ) in
      (record { one = one; two = two; scratch = s; answer = r; one' = left.0; two' = left.1; scratch' = s'; done = d; zero = z }, refl, refl, refl);
}
