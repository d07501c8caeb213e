-- A replay compared with the run of its transitions: the checks before and after 20, and the first index at which both refuse by 20.
use Rattle.refusal.specs.declared.Reason.{Reason}
use Rattle.refusal.specs.declared.Reason.TheVariants.{NotOffered, SmallOutput, SmallScratch, WrongNode}
use Rattle.scan.proofs.Basics.{ℕ, suc, ◌<◌, arith, ◌≡◌, sym, ap, ◌∙◌, ◌⊎◌, inl, inr, ⊎_elim, ◌↔◌, true, List, [], ◌∷◌, ◌++◌, length, get_or, take}
use Rattle.scan.proofs.Tabulate.{take-tabulate}
use Rattle.automaton.specs.Automaton.{allows}
use Rattle.refusal.specs.Refusal.{refusal, plain_refusal, kind_of, index_of, refusal_number, reason_number}
use Rattle.refusal.specs.Checks.{◌else◌, Check, once, FailFirst, AllPass, FirstFails}
use Rattle.refusal.specs.declared.Position.{Position}
use Rattle.refusal.specs.declared.Position.TheVariants.{Nothing, Entry, Place, Node, Record}
use Rattle.refusal.specs.declared.Refusal.{Refusal}
use Rattle.refusal.proofs.Verdicts.{refusal-parts}
use Rattle.refusal.proofs.Judges.{fail-append}
use Rattle.sequential.specs.Petri.{PetriNet}
use Rattle.sequential.specs.Words.{graph}
use Rattle.lending.specs.Demands.{number, ByChecks}
use Rattle.schedule.specs.Walker.{run_checks}
use Rattle.replay.specs.Log.{firing_count, fired_at, firings_to, firings}
use Rattle.replay.specs.Checks.{log_checks, FiringOffered, NodeReached, replay_checks}
use Rattle.replay.proofs.Following.{firings-long}

at-record : (p : Position) (i : ℕ) → kind_of p ≡ 4 → index_of p ≡ i → p ≡ Record i
at-record Nothing i k e = absurd (omega arith)
at-record (Entry j) i k e = absurd (omega arith)
at-record (Place j) i k e = absurd (omega arith)
at-record (Node j) i k e = absurd (omega arith)
at-record (Record j) i k e = ap Record e

by-20 : (reason : Reason) → reason_number reason ≡ 20 → reason ≡ NotOffered
by-20 reason e = grind arith

-- what is told as a refusal by 20 is one
told_same_lem : (r : Refusal) (i : ℕ) → plain_refusal r ≡ plain_refusal (refusal NotOffered (Record i)) → r ≡ refusal NotOffered (Record i)
told_same_lem r i e =
    let f = refusal-parts r ∙ e ∙ sym (refusal-parts (refusal NotOffered (Record i))) in
    let at = at-record r.at i (ap (λ (l : List ℕ). get_or l 1 0) f) (ap (λ (l : List ℕ). get_or l 2 0) f) in
    ap (λ (y : Reason). refusal y r.at) (by-20 r.reason (ap (λ (l : List ℕ). get_or l 0 0) f)) ∙ ap (refusal NotOffered) at

-- what is told by 20 at an index is the check that fails first
pub named : {checks : List Check} {plain : List ℕ} {i : ℕ} → ByChecks checks plain → (plain ≡ plain_refusal (refusal NotOffered (Record i))) ↔ FirstFails checks (refusal NotOffered (Record i))
named {checks} {plain} {i} b = (
  λ e. let n : number plain ≡ 20 = ap number e in
      let (x, f, q) = b.named (λ z. omega arith) in
      let same : x ≡ refusal NotOffered (Record i) = told_same_lem x i (sym q ∙ e) in
      rw same at f,
  b.this (refusal NotOffered (Record i)),
)

-- it stands behind 21 and before 22
module _ (before besides : List Check) (Enough Fits : Type 0) (i : ℕ) (enough : Enough) where
  abbrev by20 : Refusal
  by20 = refusal NotOffered (Record i)

  pub between : FirstFails (once Enough SmallScratch ∷ (before ++ (besides ++ (once Fits SmallOutput ∷ [])))) by20 ↔ (FirstFails before by20 ⊎ (AllPass before × FirstFails besides by20))
  between = (
    ⊎_elim (λ (n, e). absurd (n enough))
        (λ (l, f). ⊎_elim inl
        (λ (p, g). inr (
          p,
          ⊎_elim (λ x. x) (λ (q, y). ⊎_elim (λ (n, e). let z : ◌≡◌ {A = ℕ} 20 22 = ap (λ (r : Refusal). refusal_number r) e in absurd (omega arith)) (λ (a, b). absurd b) y)
              ((fail-append besides (once Fits SmallOutput ∷ []) by20).0 g),
        )) ((fail-append before _ by20).0 f)),
    λ f. inr (enough, (fail-append before _ by20).1 (⊎_elim inl (λ (p, g). inr (p, (fail-append besides _ by20).1 (inl g))) f)),
  )

module _ (N : PetriNet) (sheet log : List ℕ) (i : ℕ) where
  prefix : (j : ℕ) → j < firing_count log → take (suc j) (firings log) ≡ firings_to log (suc j)
  unfolding firings_to
  prefix j l = take-tabulate (fired_at log) (suc j) (firing_count log) l

  abbrev Offered : ℕ → Type 0
  Offered j = allows (graph N sheet) 0 (take (suc j) (firings log)) ≡ true

  stops-out : FailFirst (firing_count log) Record (FiringOffered N sheet log else NotOffered ∷ NodeReached N sheet log else WrongNode ∷ []) (refusal NotOffered (Record i))
      → FailFirst (length (firings log)) Record (Offered else NotOffered ∷ []) (refusal NotOffered (Record i))
  stops-out s =
      let l = s.within in
      record {
        index = s.index;
        within = rw (firings-long log) l;
        below = λ j m. (rw (prefix j (omega arith)) (s.below j m).0, tt);
        there = ⊎_elim (λ (n, e). inl (λ a. n (rw (prefix s.index l) at a), e))
            (λ (o, t). ⊎_elim (λ (n, e). let z : ◌≡◌ {A = ℕ} 20 24 = ap (λ (r : Refusal). refusal_number r) e in absurd (omega arith)) (λ (a, b). absurd b) t) s.there;
      }

  stops-in : ((j : ℕ) → j < i → NodeReached N sheet log j) → FailFirst (length (firings log)) Record (Offered else NotOffered ∷ []) (refusal NotOffered (Record i))
      → FailFirst (firing_count log) Record (FiringOffered N sheet log else NotOffered ∷ NodeReached N sheet log else WrongNode ∷ []) (refusal NotOffered (Record i))
  stops-in h s =
      let l : s.index < firing_count log = rw (firings-long log) at s.within in
      ⊎_elim
      (λ (n, e).
      let q : i ≡ s.index = ap (λ (r : Refusal). index_of r.at) e in
      record {
        index = s.index;
        within = l;
        below = λ j m. (rw (prefix j (omega arith)) at (s.below j m).0, (h j (omega arith), tt));
        there = inl (λ a. n (rw (prefix s.index l) a), e);
      }) (λ (a, b). absurd b) s.there

  pub run-stops : AllPass (log_checks log) → ((j : ℕ) → j < i → NodeReached N sheet log j)
      → FirstFails (replay_checks N sheet log) (refusal NotOffered (Record i)) ↔ FirstFails (run_checks N sheet (firings log)) (refusal NotOffered (Record i))
  run-stops (x, (y, (w, u))) h = (
    ⊎_elim (λ (n, e). absurd (n x)) (λ (a, f). ⊎_elim (λ (n, e). absurd (n y)) (λ (b, g). ⊎_elim (λ (n, e). absurd (n w)) (λ (c, k). ⊎_elim (λ s. inl (stops-out s)) (λ (p, z). absurd z) k) g) f),
    ⊎_elim (λ s. inr (x, inr (y, inr (w, inl (stops-in h s))))) (λ (p, z). absurd z),
  )
