-- Shortest means shortest, proved: schedules that allow the same lists have the same form, and one with as many nodes differs from it only in their numbers.
use Rattle.std.specs.Prelude.{Ok}
use Rattle.scan.proofs.Basics.{ℕ, ◌≤◌, ◌<◌, arith, ◌≡◌, refl, sym, ap, subst, ◌∙◌, ◌↔◌, List, length}
use Rattle.automaton.specs.Automaton.{Automaton, SameLists}
use Rattle.net.proofs.Laws.{sizes}
use Rattle.sequential.specs.Petri.{petri_net}
use Rattle.sequential.specs.Words.{node_count, entry_count, graph}
use Rattle.sequential.specs.Schedule.{IsSchedule}
use Rattle.sequential.specs.Check.{schedule_reply}
use Rattle.sequential.proofs.Accepted.{accepts, accepted-exactly, some_transition}
use Rattle.encoding.specs.Encoding.{encode, Encodable}
use Rattle.encoding.proofs.Encoded.{encoded-nodes, encoded-passes}
use Rattle.encoding.proofs.Decoded.{decode_encode}
use Rattle.encoding.proofs.Recoded.{encode_decode, decoded-encodable}
use Rattle.minimal.specs.Minimal.{minimal_form}
use Rattle.minimal.proofs.Minimal.{form-accepted, form-lists, form-no-longer, forms-equal, form-fewest}
use Rattle.demands.specs.Terms.{said}
use Rattle.demands.specs.Shortest.{Renumbers, renumbered, renumbered_words, SameButNumbers, Rival, Shortest}
use Rattle.demands.proofs.Checked.{accepted-reply, reply-accepted, always-accepted}
use Rattle.demands.proofs.Demand3.{made-form, size-form}
use Rattle.demands.proofs.Renumbered.{renumbered-lists, renumbered-schedule, renumbered-encodable, inverse, renumbers, renumbered-is}

lists_back : (A B : Automaton) → SameLists A B 0 0 → SameLists B A 0 0
unfolding SameLists
lists_back A B s σ = sym (s σ)

lists-on : (A B C : Automaton) → SameLists A B 0 0 → SameLists B C 0 0 → SameLists A C 0 0
unfolding SameLists
lists-on A B C s t σ = s σ ∙ t σ

-- ---- an accepted schedule, and the same under other numbers

module _ (net sheet : List ℕ) (h : schedule_reply net sheet ≡ Ok tt) where
  some_place : 0 < (petri_net net).places
  some_place = (sizes net (accepts net sheet h).net_accepted).some_place

  encodable : Encodable (petri_net net) (said net sheet)
  encodable = decoded-encodable (petri_net net) sheet (some_transition net sheet h) some_place (accepts net sheet h).words

  its-words : encode (petri_net net) (said net sheet) ≡ sheet
  its-words = encode_decode (petri_net net) sheet (some_transition net sheet h) some_place (accepts net sheet h).words

  module _ (to from : ℕ → ℕ) (r : Renumbers (node_count sheet) to from) where
    says : graph (petri_net net) (renumbered_words net sheet to from) ≡ renumbered (said net sheet) to from
    says = decode_encode (petri_net net) (renumbered (said net sheet) to from) (some_transition net sheet h)
        (renumbered-encodable (said net sheet) to from r encodable.closed (petri_net net) encodable)

    other-accepted : schedule_reply net (renumbered_words net sheet to from) ≡ Ok tt
    other-accepted = (accepted-exactly net (renumbered_words net sheet to from)).1 (record {
      net_accepted = (accepts net sheet h).net_accepted;
      words = encoded-passes (petri_net net) (renumbered (said net sheet) to from)
          (renumbered-encodable (said net sheet) to from r encodable.closed (petri_net net) encodable);
      schedule = subst (IsSchedule (petri_net net)) (sym says)
          (renumbered-schedule (said net sheet) to from r encodable.closed (petri_net net) (accepts net sheet h).schedule);
    })

    other-lists : SameLists (said net (renumbered_words net sheet to from)) (said net sheet) 0 0
    other-lists = subst (λ (M : Automaton). SameLists M (said net sheet) 0 0) (sym says) (renumbered-lists (said net sheet) to from r encodable.closed)

    other-nodes : node_count (renumbered_words net sheet to from) ≡ node_count sheet
    other-nodes = encoded-nodes (petri_net net) (renumbered (said net sheet) to from) ∙ unfold renumbered in refl

-- ---- beside the form

module _ (net sheet other : List ℕ) (h : schedule_reply net sheet ≡ Ok tt) (k : schedule_reply net other ≡ Ok tt)
    (s : SameLists (said net other) (said net sheet) 0 0) where
  -- one form for both
  one_form : minimal_form net sheet ≡ minimal_form net other
  one_form = (forms-equal net sheet other h k).1 (lists_back _ _ s)

  form_words : length (minimal_form net sheet) ≤ length other
  form_words = rw one_form (form-no-longer net other k)

  form-entries : entry_count (minimal_form net sheet) ≤ entry_count other
  form-entries =
      omega (arith, form_words, (accepts net (minimal_form net sheet) (form-accepted net sheet h)).words.arcs.shape.whole, (accepts net other k).words.arcs.shape.whole)

  form-nodes : node_count (minimal_form net sheet) ≤ node_count other
  form-nodes = (form-fewest net sheet other h k (lists_back _ _ s)).fewest

  -- as many nodes
  form-numbers : node_count other ≡ node_count (minimal_form net sheet) → SameButNumbers net (minimal_form net sheet) other
  form-numbers e =
      let F = said net (minimal_form net sheet) in
      let (f, R) = (form-fewest net sheet other h k (lists_back _ _ s)).renumbered e in
      let E = encodable net other k in (
        inverse f F.nodes,
        f,
        renumbers (said net other) F f R e E.closed,
        sym (its-words net other k) ∙ ap (encode (petri_net net)) (renumbered-is (said net other) F f R e E.closed E.confined refl),
      )

form-exactly : (net sheet other : List ℕ) → schedule_reply net sheet ≡ Ok tt
    → (Rival net sheet other × (node_count other ≡ node_count (minimal_form net sheet))) ↔ SameButNumbers net (minimal_form net sheet) other
form-exactly net sheet other h = (
  λ ((a, s), e). form-numbers net sheet other h (accepted-reply net other a) s e,
  λ (to, from, r, q).
      let k = form-accepted net sheet h in
      rw q (
        (
          reply-accepted net _ (other-accepted net (minimal_form net sheet) k to from r),
          lists-on _ _ _ (other-lists net (minimal_form net sheet) k to from r) (form-lists net sheet h),
        ),
        other-nodes net (minimal_form net sheet) k to from r,
      ),
)

-- ---- all of it

pub shortest : Shortest
shortest = record {
  nodes = λ net sheet other a (b, s) c. rw (made-form net sheet c) (form-nodes net sheet other (accepted-reply net sheet a) (accepted-reply net other b) s);
  entries = λ net sheet other a (b, s) c. rw (made-form net sheet c) (form-entries net sheet other (accepted-reply net sheet a) (accepted-reply net other b) s);
  words = λ net sheet other a (b, s) c. rw (size-form net sheet c) (form_words net sheet other (accepted-reply net sheet a) (accepted-reply net other b) s);
  exactly = λ net sheet other a c. rw (made-form net sheet c) (form-exactly net sheet other (accepted-reply net sheet a));
  numbers = λ net sheet other a (to, from, r, q).
      let h = accepted-reply net sheet a in
      rw q (always-accepted net _ (other-accepted net sheet h to from r), other-lists net sheet h to from r, other-nodes net sheet h to from r);
  form_kept = λ net sheet other a (to, from, r, q) c d.
      let h = accepted-reply net sheet a in
      let k : schedule_reply net other ≡ Ok tt = rw q (other-accepted net sheet h to from r) in
      let s : SameLists (said net other) (said net sheet) 0 0 = rw q (other-lists net sheet h to from r) in
      made-form net other d ∙ sym (one_form net sheet other h k s) ∙ sym (made-form net sheet c);
  alike = λ net x y a (b, s) c d.
      rw (made-form net x c, made-form net y d) (ap node_count (one_form net x y (accepted-reply net x a) (accepted-reply net y b) s));
  own = λ net sheet a c e.
      rw (made-form net sheet c) (form-numbers net sheet sheet (accepted-reply net sheet a) (accepted-reply net sheet a) (unfold SameLists in (λ σ. refl))
      (rw (made-form net sheet c) at e));
}
