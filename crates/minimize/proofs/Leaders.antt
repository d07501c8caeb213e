-- Tables of leaders: a loop that looks for a leader, a round that passes over nodes which do not lead, and the last round.
use Rattle.scan.proofs.Basics.{ℕ, suc, ◌+◌, ◌-◌, ◌≤◌, ◌<◌, add-one, arith, ◌≡◌, refl, sym, ap, ◌∙◌, Bool, true, false, Option, List, length, get_or, set}
use Rattle.scan.proofs.Tests.{eqb-true, eq-eqb, ne_eqb, true-false, not-true→false, and_left, and_right, and_both}
use Rattle.scan.specs.Scan.{all, any, least, found}
use Rattle.scan.proofs.Every.{all_in, all-out, any_none, any-before, any-more}
use Rattle.scan.proofs.Least.{least-le, least-hit, least-ext}
use Rattle.scan.proofs.Tabulate.{stored_more}
use Rattle.automaton.specs.Automaton.{Automaton, Closed}
use Rattle.automaton.specs.Equivalence.{agree, same_in, same, in_class, leader_by, leader, same_class, refined}
use Rattle.automaton.proofs.Same.{equal_labels-in, equal_labels-out, same_in-suc↔, same_in-equivalence}
use Rattle.automaton.proofs.Targets.{Targets, Holds, targets-cases, targets-trans, equal_arcs-in, equal_arcs-out}
use Rattle.automaton.proofs.Leader.{leader-le, leader-least, leader-member, leader-of-equivalent}
use Rattle.automaton.proofs.Classes.{class_same, same-leader, refined-leader, leaders-last}
use Rattle.breadth_first.specs.Along.{class_in}
use Rattle.minimize.specs.Tables.{Classes}
use Rattle.sequential.specs.Petri.{petri_net}
use Rattle.sequential.specs.Words.{node_count, graph}
use Rattle.minimize.specs.Agree.{StartsOf, SameOffers}
use Rattle.minimize.specs.Leaders.{LeadersBy, rows_alike, split, Round, same_entry}

-- ---- a loop that looks for a leader

pub leader-not : (r : ℕ → ℕ → Bool) (n m : ℕ) → any (in_class r n) m ≡ false → r m n ≡ false → any (in_class r n) (m + 1) ≡ false
leader-not r n m h e = any-more (in_class r n) m h (unfold in_class in e)

-- none before the least node of the old class
pub leader-from : (A : Automaton) (counts : Bool) (class : ℕ → ℕ) (n : ℕ) → ((m : ℕ) → m < class n → class m ≡ class n → ⊥)
    → any (in_class (split A counts class) n) (class n) ≡ false
unfolding in_class split same_class
leader-from A counts class n h = any_none _ (class n) (λ m l. rw (ne_eqb (class m) (class n) (h m l)))

-- ---- a table that a loop fills

pub leaders-more : (r : ℕ → ℕ → Bool) (classes : List ℕ) (n v : ℕ) → LeadersBy r n classes → n < length classes → v ≡ leader_by r n
    → LeadersBy r (n + 1) (set classes n v)
unfolding class_in
leaders-more r classes n v h l e = record { leads = stored_more (leader_by r) classes n v h.leads l e }

-- ---- a round

module _ (A : Automaton) (counts : Bool) (class : ℕ → ℕ) where
  same_class-trans : (a b c : ℕ) → same_class class a b ≡ true → same_class class b c ≡ true → same_class class a c ≡ true
  unfolding same_class
  same_class-trans a b c g h = eq-eqb (class a) (class c) (eqb-true (class a) (class b) g ∙ eqb-true (class b) (class c) h)

  arcs-trans : (n m p t : ℕ) → agree A (same_class class) n m t ≡ true → agree A (same_class class) m p t ≡ true → agree A (same_class class) n p t ≡ true
  unfolding agree
  arcs-trans n m p t e f =
      equal_arcs-in (same_class class) (A.arc n t) (A.arc p t) (targets-trans (Holds (same_class class)) (Holds (same_class class)) (Holds (same_class class)) same_class-trans
      (A.arc n t) (A.arc m t) (A.arc p t) (equal_arcs-out (same_class class) (A.arc n t) (A.arc m t) e) (equal_arcs-out (same_class class) (A.arc m t) (A.arc p t) f))

  rows-trans : (b : Bool) (n m p : ℕ) → rows_alike A b class n m ≡ true → rows_alike A b class m p ≡ true → rows_alike A b class n p ≡ true
  unfolding rows_alike same_in
  rows-trans true n m p e f = equal_labels-in _ _ (equal_labels-out (A.label n) (A.label m) e ∙ equal_labels-out (A.label m) (A.label p) f)
  rows-trans false n m p e f =
      all_in (agree A (same_class class) n p) A.transitions
      (λ t l. arcs-trans n m p t (all-out (agree A (same_class class) n m) A.transitions e t l) (all-out (agree A (same_class class) m p) A.transitions f t l))

  split-trans : (n m p : ℕ) → split A counts class n m ≡ true → split A counts class m p ≡ true → split A counts class n p ≡ true
  unfolding split
  split-trans n m p e f =
      and_both (same_class class n p) (rows_alike A counts class n p)
      (same_class-trans n m p (and_left (same_class class n m) _ e) (and_left (same_class class m p) _ f))
      (rows-trans counts n m p (and_right (same_class class n m) _ e) (and_right (same_class class m p) _ f))

  -- a node that does not lead its new class leads no other
  pub leader-not-own : (n m : ℕ) → any (in_class (split A counts class) n) m ≡ false → (leader_by (split A counts class) m ≡ m → ⊥)
      → any (in_class (split A counts class) n) (m + 1) ≡ false
  unfolding leader_by
  leader-not-own n m h d =
      leader-not (split A counts class) n m h (not-true→false (split A counts class m n) (λ e.
      let l : least (in_class (split A counts class) m) m < m = omega (arith, least-le (in_class (split A counts class) m) m, d) in
      let g : split A counts class (least (in_class (split A counts class) m) m) m ≡ true = unfold in_class in (least-hit (in_class (split A counts class) m) m l) in
      true-false _ (split-trans _ m n g e) (unfold in_class in (any-before (in_class (split A counts class) n) m h _ l))))

  -- what the code tests, one after the other
  pub split-other-class : (n m : ℕ) → (class n ≡ class m → ⊥) → split A counts class n m ≡ false
  unfolding split same_class
  split-other-class n m d = rw (ne_eqb (class n) (class m) d)

  pub split-by-rows : (n m : ℕ) → class n ≡ class m → split A counts class n m ≡ rows_alike A counts class n m
  unfolding split same_class
  split-by-rows n m e = rw (eq-eqb (class n) (class m) e)

-- what is read is low
pub node_low : {net sheet starts classes : List ℕ} {counts level : Bool} → Round net sheet starts classes counts level → {n : ℕ} → n < node_count sheet → n < 128
node_low r l = omega (arith, r.of.readable.arcs.sizes.few_nodes)

pub own-class-low : {net sheet starts classes : List ℕ} {counts level : Bool} → Round net sheet starts classes counts level
    → {n : ℕ} → n < node_count sheet → get_or classes n 0 ≤ n
unfolding class_in
own-class-low r {n} l = r.least n n l l refl

-- by arcs it is the automaton's round, and by counts of nodes that are all of one class the first
module _ (A : Automaton) (classes : List ℕ) where
  pub by-arcs : (next : List ℕ) → LeadersBy (split A false (class_in classes)) A.nodes next → LeadersBy (refined A (class_in classes)) A.nodes next
  unfolding split rows_alike refined
  by-arcs next h = h

  pub by-counts : (next : List ℕ) → ((n : ℕ) → get_or classes n 0 ≡ 0) → LeadersBy (split A true (class_in classes)) A.nodes next → LeadersBy (same_in A 0) A.nodes next
  unfolding leader_by class_in
  by-counts next z h = record {
    leads = λ n l. h.leads n l ∙ least-ext (in_class (split A true (class_in classes)) n) (in_class (same_in A 0) n) n
        (λ m k. unfold in_class in (split-by-rows A true (class_in classes) m n (z m ∙ sym (z n)) ∙ unfold rows_alike in refl));
  }

-- ---- the rounds

found-both : (R : ℕ → ℕ → Type 0) (x y : Option ℕ) → Targets R x y → found x ≡ found y
unfolding found
found-both R x y r = targets-cases R x y r (λ p q. rw (p, q)) (λ a b p q s. rw (p, q))

module _ (A : Automaton) (c : Closed A) (k : ℕ) (classes : List ℕ) (is : LeadersBy (same_in A k) A.nodes classes) where
  leads : (n : ℕ) → n < A.nodes → class_in classes n ≡ leader A k n
  unfolding leader
  leads n l = is.leads n l

  low : (n : ℕ) → n < A.nodes → class_in classes n < A.nodes
  low n l = omega (arith, is.leads n l, leader-le (same_in A k) n)

  class-round : (m n : ℕ) → m < A.nodes → n < A.nodes → class_in classes m ≡ class_in classes n → same_in A k m n ≡ true
  class-round m n lm ln e = sym (class_same A c k (class_in classes) leads m n lm ln) ∙ unfold same_class in (eq-eqb (class_in classes m) (class_in classes n) e)

  -- a class is known by its least node
  pub round-own : (n : ℕ) → n < A.nodes → class_in classes (class_in classes n) ≡ class_in classes n
  round-own n l =
      let q = same_in-equivalence A k in
      rw (is.leads n l) (is.leads (leader_by (same_in A k) n) (omega (arith, leader-le (same_in A k) n))
      ∙ leader-of-equivalent (same_in A k) q (leader_by (same_in A k) n) n (leader-member (same_in A k) q n))

  pub round-least : (m n : ℕ) → m < A.nodes → n < A.nodes → class_in classes m ≡ class_in classes n → class_in classes n ≤ m
  round-least m n lm ln e = rw (is.leads n ln) (leader-least (same_in A k) n m (class-round m n lm ln e))

  -- and after the first round its nodes have arcs by the same transitions
  pub round-offers : 1 ≤ k → (m n : ℕ) → m < A.nodes → n < A.nodes → class_in classes m ≡ class_in classes n → SameOffers A m n
  unfolding SameOffers
  round-offers l m n lm ln e t h =
      let q : k ≡ suc (k - 1) = omega arith in
      let z : same_in A (suc (k - 1)) m n ≡ true = rw (← q) (class-round m n lm ln e) in
      found-both _ _ _ (((same_in-suc↔ A (k - 1) m n).0 z).1 t h)

  -- one more
  pub round-more : (next : List ℕ) → LeadersBy (refined A (class_in classes)) A.nodes next → LeadersBy (same_in A (k + 1)) A.nodes next
  unfolding leader
  round-more next h = rw add-one (record { leads = λ n l. h.leads n l ∙ refined-leader A c k (class_in classes) leads n l })

  -- one that changes nothing
  pub round-last : (next : List ℕ) → LeadersBy (refined A (class_in classes)) A.nodes next → all (same_entry classes next) A.nodes ≡ true → Classes A classes
  round-last next h e = record {
    low = low;
    right = λ n m ln lm. class_same A c k (class_in classes) leads n m ln lm ∙ sym (same-leader A k n m) ∙ sym (leaders-last A c k unchanged n m ln lm);
  }
    where
      unchanged : (n : ℕ) → n < A.nodes → leader A (suc k) n ≡ leader A k n
      unchanged n l =
          sym (refined-leader A c k (class_in classes) leads n l) ∙ sym (h.leads n l)
          ∙ sym (eqb-true (class_in classes n) (class_in next n) (unfold same_entry in (all-out (same_entry classes next) A.nodes e n l))) ∙ leads n l

  -- as many as there are nodes
  pub rounds-done : k ≡ A.nodes → Classes A classes
  unfolding same
  rounds-done e = record { low = low; right = λ n m ln lm. class_same A c k (class_in classes) leads n m ln lm ∙ ap (λ (j : ℕ). same_in A j n m) e }

-- ---- what the rounds read

module _ {net sheet starts classes : List ℕ} (long : length classes ≡ 128) where
  -- the first, by counts: all nodes are of one class
  pub first_reads : StartsOf net sheet true starts → ((n : ℕ) → get_or classes n 0 ≡ 0) → Round net sheet starts classes true false
  unfolding class_in
  first_reads S z = record {
    of = S;
    long = long;
    least = λ m n lm ln e. omega (arith, z n);
    own = λ n l. z _ ∙ sym (z n);
    arcs = λ e. true-false false e refl;
    offers = λ e. true-false false e refl;
  }

  -- the others, by arcs, and level from the second on
  pub next-reads : StartsOf net sheet false starts → Closed (graph (petri_net net) sheet) → (k : ℕ)
      → LeadersBy (same_in (graph (petri_net net) sheet) k) (node_count sheet) classes → (level : Bool) → (level ≡ true → 1 ≤ k)
      → Round net sheet starts classes false level
  next-reads S c k is level l = record {
    of = S;
    long = long;
    least = round-least (graph (petri_net net) sheet) c k classes is;
    own = round-own (graph (petri_net net) sheet) c k classes is;
    arcs = λ e. refl;
    offers = λ e. round-offers (graph (petri_net net) sheet) c k classes is (l e);
  }
