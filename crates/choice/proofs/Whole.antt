-- The walk along the arcs: as far as it has come in a row, the row has the arcs of the choice set and no others; where a choice set ends; what such a node offers.
use Rattle.scan.proofs.Basics.{ℕ, ◌+◌, ◌-◌, ◌≤◌, ◌<◌, arith, ◌≡◌, refl, sym, ◌∙◌, Bool, true, false, eqb, List, length, get_or, set, replicate, length-set, get_or-set_same, get_or-set_other}
use mathlib.Core.Bool.{beq}
use native.Mathlib.Decide.{dec_lt, ℕ_discrete}
use lib.ListN.{get_or-replicate, get_or-eq_default}
use Rattle.scan.proofs.Tests.{lt-ltb, le-ltb, le-leb, eq-eqb, ne_eqb, by_less}
use Rattle.scan.specs.Scan.{all, least}
use Rattle.scan.proofs.Every.{all_in, all-out}
use Rattle.scan.proofs.Least.{least-unique}
use Rattle.table.specs.Table.{key_at}
use Rattle.table.specs.Bisection.{lower_bound}
use Rattle.table.specs.Row.{section_cell, run_place, run_row, entry_row}
use Rattle.table.proofs.Bisection.{lower-bound}
use Rattle.table.proofs.Walk.{Walking, walk-starts, walk-goes, walk_ends, walk-over, place_is}
use Rattle.net.specs.Net.{transition_count}
use Rattle.sequential.specs.Words.{entry_count}
use Rattle.graph.specs.Rows.{arcs_start, has_row, arc_entry_row}
use Rattle.graph.proofs.HasRow.{has_row_out}
use Rattle.choice.specs.Rows.{present}
use Rattle.choice.specs.Choices.{present_as_choice, offer_from, offer_of}
use Rattle.choice.specs.Whole.{RowAt, FirstArc, SetFrom, SetEnds, WholeRow, Offering}
use Rattle.choice.specs.declared.offers.Offer.TheVariants.{Whole}

module _ (sheet leaders : List ℕ) (transitions first c : ℕ) where
  abbrev K : ℕ
  K = entry_count sheet

  -- the walk stands at entry i, and below t the row is the choice set's
  pub record Matching (i t : ℕ) : Type 0 where
    pub row : List ℕ
    pub walking : Walking sheet 2 K first transitions section_cell i row
    pub below : (u : ℕ) → u < t → present_as_choice row leaders c u ≡ true
    pub none : (u : ℕ) → t ≤ u → u < 32 → get_or row u 0 ≡ 0
    pub within : i ≤ K
    pub under : (j : ℕ) → j < i → key_at sheet 2 j < first + transitions

  matching-start : {start end : ℕ} → RowAt sheet first start → SetFrom leaders transitions c end → Matching start c
  unfolding present_as_choice present
  matching-start r s =
      let b = lower-bound sheet 2 K first r.up (omega (arith, r.whole)) in
      let e = r.start_is in
      record {
        row = replicate 32 0;
        walking = walk-starts sheet 2 K first transitions section_cell _ e;
        below = λ u l. rw (get_or-replicate {A = ℕ} 32 u 0 0 (omega (arith, s.few, s.below)), ne_eqb (get_or leaders u 0) c (s.none_before u l));
        none = λ u l m. get_or-replicate {A = ℕ} 32 u 0 0 m;
        within = omega (arith, b.within);
        under = λ j l. omega (arith, b.below j (omega arith));
      }

  module _ {i u : ℕ} (m : Matching i u) (wide : u < transitions) (few : transitions ≤ 32) where
    -- u is no member, and has no arc so far
    pub passed-by : (get_or leaders u 0 ≡ c → ⊥) → Matching i (u + 1)
    unfolding present_as_choice present
    passed-by d = record {
      row = m.row;
      walking = m.walking;
      below = λ v l. elim (dec_lt v u) [
        | yes h ↦ m.below v h
        | no h ↦ let q : v ≡ u = omega arith in rw (q, m.none u (omega arith) (omega arith), ne_eqb (get_or leaders u 0) c d)
      ];
      none = λ v l h. m.none v (omega arith) h;
      within = m.within;
      under = m.under;
    }

    -- u is a member, and the next entry is its arc
    pub matched : get_or leaders u 0 ≡ c → i < K → get_or sheet (2 + i) 0 ≡ first + u → Matching (i + 1) (u + 1)
    unfolding present_as_choice present key_at
    matched e l k =
        let p = place_is sheet 2 K first transitions i u (record { entry = l; has = k; wide = wide }) in
        let long = m.walking.long in
        record {
          row = set m.row u (i + 1);
          walking = walk-goes sheet 2 K first transitions section_cell i u m.row m.walking l (sym p) (omega arith);
          below = λ v h. elim (dec_lt v u) [
            | yes b ↦ rw (get_or-set_other m.row u v (i + 1) 0 (λ q. omega arith)) (m.below v b)
            | no b ↦ let q : v ≡ u = omega arith in
                rw (q, get_or-set_same m.row u (i + 1) 0 (omega arith), lt-ltb 0 (i + 1) (omega arith), eq-eqb (get_or leaders u 0) c e)
          ];
          none = λ v h b. get_or-set_other m.row u v (i + 1) 0 (λ q. omega arith) ∙ m.none v (omega arith) b;
          within = omega arith;
          under = λ j h. by_less j i (m.under j) (λ b. let q : j ≡ i = omega arith in rw q (omega arith));
        }

  -- behind the arc of c, the first
  pub matching-first : {start end : ℕ} → RowAt sheet first start → FirstArc sheet leaders first start c → SetFrom leaders transitions c end → Matching (start + 1) (c + 1)
  matching-first r f s = matched (matching-start r s) s.below s.few f.own f.entry f.has

  -- past the end of the choice set there is no member
  pub passed-all : {i t end : ℕ} → Matching i t → SetFrom leaders transitions c end → end ≤ t → t ≤ transitions → Matching i transitions
  unfolding present_as_choice present
  passed-all {t = t} m s o l = record {
    row = m.row;
    walking = m.walking;
    below = λ v h. by_less v t (m.below v)
        (λ b. rw (m.none v b (omega (arith, s.few)), ne_eqb (get_or leaders v 0) c (s.none_after v (omega arith) h)));
    none = λ v h b. m.none v (omega arith) b;
    within = m.within;
    under = m.under;
  }

  module _ {i : ℕ} (m : Matching i transitions) (past : i < K → first + transitions ≤ key_at sheet 2 i) where
    no_place : i < K → 32 ≡ run_place sheet 2 first transitions i
    unfolding run_place
    no_place l = let h = past l in rw (le-leb first (key_at sheet 2 i) (omega arith), le-ltb (key_at sheet 2 i - first) transitions (omega arith))

    ends_as : m.row ≡ run_row sheet 2 K first transitions section_cell
    ends_as = by_less i K (λ l. walk_ends sheet 2 K first transitions section_cell i m.row m.walking (rw (← no_place l) (omega arith)))
        (λ l. walk-over sheet 2 K first transitions section_cell i m.row m.walking l)

    -- no entry is left, or the next is not of the row
    pub row-whole : {start : ℕ} → RowAt sheet first start → WholeRow sheet leaders transitions first c i
    unfolding entry_row
    row-whole r =
        let b = lower-bound sheet 2 K (first + transitions) r.up (omega (arith, r.whole)) in
        let k = lower_bound sheet 2 K (first + transitions) in
        let top = m.within in
        record {
          whole = all_in _ _ (λ u l. rw (← ends_as) (m.below u l));
          next_is = by_less i k (λ l. absurd (omega (arith, b.within, b.below i l, past (omega (arith, b.within)))))
              (λ l. by_less k i (λ h. absurd (omega (arith, m.under k h, b.above k (omega arith) (omega arith)))) (λ h. omega arith));
        }

-- the row's first entry has a key that is not below
pub row-above : {sheet : List ℕ} {first start : ℕ} → RowAt sheet first start → start < entry_count sheet → first ≤ get_or sheet (2 + start) 0
unfolding key_at
row-above {sheet} {first} r l = let e = r.start_is in (lower-bound sheet 2 (entry_count sheet) first r.up (omega (arith, r.whole))).above _ (omega arith) l

-- ---- the ends of choice sets

-- those of the transitions below t
pub record EndsBelow (leaders ends : List ℕ) (t : ℕ) : Type 0 where
  pub long : length ends ≡ 32
  pub within : (c : ℕ) → get_or ends c 0 ≤ t
  pub beyond : (u : ℕ) → u < t → get_or leaders u 0 < 32 → u < get_or ends (get_or leaders u 0) 0

pub no-ends : {leaders : List ℕ} → EndsBelow leaders (replicate 32 0) 0
no-ends = record {
  long = refl;
  within = λ c. by_less c 32 (λ l. omega (arith, get_or-replicate {A = ℕ} 32 c 0 0 l)) (λ l. omega (arith, get_or-eq_default {A = ℕ} (replicate 32 0) 0 {n = c} l));
  beyond = λ u l. absurd (omega arith);
}

module _ {leaders ends : List ℕ} {t : ℕ} (b : EndsBelow leaders ends t) where
  pub ends-later : 32 ≤ get_or leaders t 0 → EndsBelow leaders ends (t + 1)
  ends-later h = record {
    long = b.long;
    within = λ c. omega (arith, b.within c);
    beyond = λ u l k. by_less u t (λ m. b.beyond u m k) (λ m. let q : u ≡ t = omega arith in absurd (omega (arith, rw q at k)));
  }

  pub ends_there : get_or leaders t 0 < 32 → EndsBelow leaders (set ends (get_or leaders t 0) (t + 1)) (t + 1)
  ends_there h = record {
    long = length-set ends (get_or leaders t 0) (t + 1) ∙ b.long;
    within = λ c. elim (ℕ_discrete c (get_or leaders t 0)) [
      | yes q ↦ rw (q, get_or-set_same ends (get_or leaders t 0) (t + 1) 0 (omega (arith, b.long))) (omega arith)
      | no q ↦ rw (get_or-set_other ends (get_or leaders t 0) c (t + 1) 0 q) (omega (arith, b.within c))
    ];
    beyond = λ u l k. elim (ℕ_discrete (get_or leaders u 0) (get_or leaders t 0)) [
      | yes q ↦ rw (q, get_or-set_same ends (get_or leaders t 0) (t + 1) 0 (omega (arith, b.long))) l
      | no q ↦ rw (get_or-set_other ends (get_or leaders t 0) (get_or leaders u 0) (t + 1) 0 q) (by_less u t (λ m. b.beyond u m k) (λ m. let e : u ≡ t = omega arith in absurd (q (rw e refl))))
    ];
  }

-- ---- what such a node offers

beq_same : (a b : Bool) → beq a b ≡ true → a ≡ b
beq_same true true e = refl
beq_same true false e = sym e
beq_same false true e = e
beq_same false false e = refl

module _ {net leaders : List ℕ} {transitions : ℕ} (o : Offering net leaders transitions) where
  pub few_transitions : transitions ≤ 32
  few_transitions = omega (arith, o.all)

  none_before : (c : ℕ) → c < transitions → (u : ℕ) → u < c → get_or leaders u 0 ≡ c → ⊥
  none_before c l u m e = omega (arith, o.led u (omega arith) (omega (arith, few_transitions)), e, few_transitions)

  pub set-from : {ends : List ℕ} → SetEnds leaders transitions ends → (c : ℕ) → c < transitions → SetFrom leaders transitions c (get_or ends c 0)
  set-from {ends} s c l = record {
    few = few_transitions;
    below = l;
    within = s.within c;
    none_before = none_before c l;
    none_after = λ u h m e. omega (arith, rw e at (s.beyond u m (omega (arith, e, few_transitions))));
  }

  module _ (sheet : List ℕ) (n : ℕ) (h : has_row net sheet n ≡ true) where
    all-transitions : transitions ≡ transition_count net
    all-transitions = omega (arith, o.all, (has_row_out net sheet n h).few_transitions)

    abbrev row : List ℕ
    row = entry_row sheet 2 (entry_count sheet) (arcs_start net n) transitions

    row_is : arc_entry_row net sheet n ≡ row
    unfolding arc_entry_row
    row_is = rw (h, all-transitions)

    module _ (c : ℕ) (l : c < transitions) (e : get_or leaders c 0 ≡ c) (a : all (present_as_choice row leaders c) transitions ≡ true) where
      told : (t : ℕ) → t < transitions → present row t ≡ eqb (get_or leaders t 0) c
      unfolding present_as_choice
      told t m = beq_same _ _ (all-out _ _ a t m)

      first-is : least (present row) transitions ≡ c
      first-is = least-unique _ _ c (record {
        within = omega arith;
        hit = λ m. told c m ∙ eq-eqb _ c e;
        low = λ t m. told t (omega arith) ∙ ne_eqb _ c (none_before c l t m);
      })

      pub offers-whole : Whole c ≡ offer_of (arc_entry_row net sheet n) leaders transitions
      unfolding offer_of offer_from
      offers-whole = rw (row_is, first-is, lt-ltb c transitions l, e, lt-ltb c 32 (omega (arith, few_transitions)), a)
