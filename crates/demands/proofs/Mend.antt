-- What is promised of mending, proved.
use Rattle.std.specs.Prelude.{Ok}
use Rattle.scan.proofs.Basics.{ℕ, ◌+◌, ◌*◌, ◌/◌, ◌%◌, ◌≤◌, ◌<◌, arith, ◌≡◌, refl, sym, ap, ◌∙◌, inl, inr, ◌↔◌, List, [], ◌∷◌, length}
use mathlib.Core.Logic.Iff
use Rattle.scan.proofs.Tests.{by_equal}
use Rattle.automaton.specs.Automaton.{SameLists}
use Rattle.refusal.specs.Limits.{scratch_limit, most_entries}
use Rattle.refusal.specs.Checks.{AllPass}
use Rattle.refusal.proofs.Judges.{pass-append}
use Rattle.net.specs.Checks.{net_checks, IsNet}
use Rattle.net.proofs.Checks.{net-judged}
use Rattle.net.proofs.Laws.{sizes}
use Rattle.sequential.specs.Petri.{petri_net, PetriNet}
use Rattle.sequential.specs.Words.{count_at, graph}
use Rattle.sequential.specs.Checks.{arc_word_checks, sheet_checks}
use Rattle.sequential.specs.Check.{schedule_reply}
use Rattle.sequential.proofs.Entries.{row-div, row-mod}
use Rattle.sequential.proofs.Accepted.{schedule-judged}
use Rattle.encoding.specs.Encoding.{encode}
use Rattle.lending.specs.Demands.{number}
use Rattle.lending.proofs.Lent.{room-two}
use Rattle.lending.proofs.Done.{done-zero}
use Rattle.lending.proofs.Demands.{every-call-two}
use Rattle.mended.specs.Arcs.{CountsExist}
use Rattle.mended.specs.Checks.{arc_checks, mend_checks}
use Rattle.mended.specs.Mend.{mended_words}
use Rattle.mended.specs.Changes.{changes}
use Rattle.mended.specs.Listed.{ListsChanges}
use Rattle.mended.specs.Call.{plain_mend, MendDone, MendAnswer}
use Rattle.mended.proofs.Bare.{same_refl, same-allows, same-mended}
use Rattle.mended.proofs.Exact.{mended, other-is, mended-passes, mended-arcs, mend-judged, arcs-exist}
use Rattle.mended.proofs.Changes.{mended-count, mended-lists, none-changed}
use Rattle.mended.proofs.Done.{mend-law, Passed, passed, mended-short, changes-few}
use Rattle.demands.specs.Terms.{said, Accepted}
use Rattle.demands.specs.Mend.{Mending, mended_by, listed_by, Mendable, Mends, Applies, MendDemand}
use Rattle.demands.proofs.Calls.{call-zero, unread-two, own-size, own-front, own-rest, own-fits}
use Rattle.demands.proofs.Checked.{accepted-reply, reply-accepted, always-accepted}

-- ---- accepted with its net, and what passes all checks of a schedule

module _ (net other : List ℕ) where
  reply-checks : schedule_reply net other ≡ Ok tt → AllPass (sheet_checks (petri_net net) other)
  reply-checks h = ((pass-append (net_checks net) (sheet_checks (petri_net net) other)).0 ((schedule-judged net other).accepts.0 h)).1

  checks-reply : IsNet net → AllPass (sheet_checks (petri_net net) other) → schedule_reply net other ≡ Ok tt
  checks-reply n a = (schedule-judged net other).accepts.1 ((pass-append (net_checks net) (sheet_checks (petri_net net) other)).1 (n, a))

mendable↔ : (net sheet : List ℕ) → IsNet net → CountsExist (petri_net net) sheet ↔ Mendable net sheet
mendable↔ net sheet n = (
  λ (other, a, s). (other, reply-accepted net other (checks-reply net other n a), s),
  λ (other, a, s). (other, reply-checks net other (accepted-reply net other a), s),
)

-- ---- when it answers

exact : (net sheet out list s out' list' s' : List ℕ) (a : MendAnswer) → MendDone net sheet out list s a out' list' s'
    → scratch_limit ≤ length s → 2 + 2 * most_entries ≤ length out → 1 + 2 * most_entries ≤ length list → IsNet net → AllPass (arc_word_checks (petri_net net) sheet)
    → ((number (plain_mend a) ≡ 0) ↔ Mendable net sheet) × ((number (plain_mend a) ≡ 0 → ⊥) ↔ (Mendable net sheet → ⊥))
exact net sheet out list s out' list' s' a d l m k n w =
    ((to, from), (λ z x. z (from x), λ z x. z (to x)))
  where
    to : number (plain_mend a) ≡ 0 → Mendable net sheet
    to z =
        let p = (mend-judged net sheet).accepts.0 ((call-zero (mend-law net sheet) d).0 z).1 in
        let (q, (c, (b, (r, (t, (e, u)))))) =
        (pass-append (arc_word_checks (petri_net net) sheet) (arc_checks (petri_net net) sheet)).0 ((pass-append (net_checks net) (mend_checks (petri_net net) sheet)).0 p).1 in
        (mendable↔ net sheet n).0 e

    from : Mendable net sheet → number (plain_mend a) ≡ 0
    from x =
        let z = sizes net ((net-judged net).accepts.1 n) in
        let h = (mend-judged net sheet).accepts.1 ((pass-append (net_checks net) (mend_checks (petri_net net) sheet)).1
        (n, arcs-exist (petri_net net) z.some_transition z.some_place sheet w ((mendable↔ net sheet n).1 x))) in
        let p = passed net sheet h in
        (call-zero (mend-law net sheet) d).1 (l, h, (room-two _ _ out list).0 (omega (arith, mended-short net sheet p), omega (arith, changes-few net sheet p)))

-- ---- a call that answered 0

same_key : (d n x m y : ℕ) → x < d → y < d → n * d + x ≡ m * d + y → (n ≡ m) × (x ≡ y)
same_key d n x m y k l e = (
  sym (row-div n d x k) ∙ ap (λ (z : ℕ). z / d) e ∙ row-div m d y l,
  sym (row-mod n d x k) ∙ ap (λ (z : ℕ). z % d) e ∙ row-mod m d y l,
)

module _ (net sheet : List ℕ) (c : Mending net sheet) where
  abbrev N : PetriNet
  N = petri_net net

  mended-is : mended_by c ≡ mended_words net sheet
  mended-is = own-front (mend-law net sheet) c.done c.zero 0 refl

  list-is : listed_by c ≡ changes net sheet
  list-is = own-front (mend-law net sheet) c.done c.zero 1 refl

  known : Passed net sheet
  known = passed net sheet (done-zero (mend-law net sheet) c.done c.zero).passed

  written-accepted : schedule_reply net (mended_by c) ≡ Ok tt
  unfolding mended_words
  written-accepted = rw mended-is (checks-reply net (mended N sheet) ((net-judged net).accepts.0 known.net_accepted)
      (mended-passes N known.some_transition known.some_place sheet known.words known.arcs known.fit))

  mends : Mends net sheet (mended_by c)
  unfolding mended_words SameLists
  mends =
      let s = mended-arcs N known.some_transition known.some_place sheet known.words known.arcs known.fit in
      let a : schedule_reply net (mended N sheet) ≡ Ok tt = rw mended-is at written-accepted in
      rw mended-is (record {
        accepted = always-accepted net (mended N sheet) a;
        same_arcs = s;
        same_lists = λ σ. same-allows (graph N sheet) (graph N (mended N sheet)) s σ 0;
        only = λ other a t. other-is N known.some_transition known.some_place sheet other (reply-checks net other (accepted-reply net other a)) t;
      })

  lists : ListsChanges N sheet (mended_by c) (listed_by c)
  unfolding mended_words changes
  lists = rw (mended-is, list-is) (mended-lists N known.some_transition known.some_place sheet known.words known.arcs known.fit)

  applies : Applies net sheet (mended_by c) (listed_by c)
  applies n p l m =
      let x = lists.exactly in
      by_equal (count_at N (mended_by c) n p) (count_at N sheet n p)
      (λ q. inr (
        λ v s.
            let y = (x _ v).0 s in
            let (i, j) = same_key N.places n p y.node y.place m y.is_place y.key in
            y.unlike (sym y.new ∙ rw (← i, ← j) q),
        q,
      ))
      (λ d. inl ((x _ _).1 (record { node = n; place = p; is_node = l; is_place = m; key = refl; new = refl; unlike = d })))

  -- an accepted schedule
  itself : Accepted net sheet → (mended_by c ≡ sheet) × (listed_by c ≡ 0 ∷ [])
  unfolding mended_words changes
  itself a =
      let e : sheet ≡ mended N sheet
      = other-is N known.some_transition known.some_place sheet sheet (reply-checks net sheet (accepted-reply net sheet a)) (same_refl (graph N sheet)) in
      let count = mended-count N known.some_transition known.some_place sheet known.words known.arcs known.fit in
      (mended-is ∙ sym e, list-is ∙ none-changed N sheet (λ n p l m. sym (count n p l m) ∙ ap (λ (x : List ℕ). count_at N x n p) (sym e)))

-- ---- all of it

pub mend-demand : MendDemand
mend-demand = record {
  every = λ net sheet. record {
    for_sheet = length (mended_words net sheet);
    for_list = length (changes net sheet);
    every = λ out list. every-call-two (mend-law net sheet) refl (λ p. Iff.rfl);
    answered = λ c. let size = own-size (mend-law net sheet) c.done c.zero in (size 0 refl, size 1 refl);
  };
  unread = λ net sheet. unread-two (mend-law net sheet) _ _ refl;
  exact = exact;
  mends = mends;
  lists = lists;
  applies = applies;
  within = λ net sheet c.
      let rest = own-rest (mend-law net sheet) c.done c.zero in
      let fits = own-fits (mend-law net sheet) c.done c.zero in
      (rest 0 refl, rest 1 refl, fits 0 refl, fits 1 refl);
  itself = λ net sheet a c. itself net sheet c a;
  twice = λ net sheet c d. itself net (mended_by c) d (reply-accepted net (mended_by c) (written-accepted net sheet c));
  alike = λ net x y s c d. mended-is net x c ∙ unfold mended_words in (ap (encode (petri_net net)) (same-mended (said net x) (said net y) s (petri_net net))) ∙ sym (mended-is net y d);
}
