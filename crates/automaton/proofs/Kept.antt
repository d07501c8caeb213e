-- A quotient has no two nodes that are equivalent.
use Rattle.scan.proofs.Basics.{ℕ, sym, ◌∙◌}
use Rattle.automaton.specs.Automaton.{Automaton}
use Rattle.automaton.specs.Quotient.{Quotient, Reduced}
use Rattle.automaton.proofs.Equivalence.{equivalent-sym, equivalent-trans}
use Rattle.automaton.proofs.Carried.{Carries, carried-equivalent}

module _ {A M : Automaton} {f : ℕ → ℕ} (Q : Quotient A M f) where
  pub quotient-carries : Carries A M f
  quotient-carries = record { root = Q.root; node = Q.node; onto = Q.onto; arcs = Q.arcs; labels = Q.labels }

  pub quotient-reduced : Reduced M
  unfolding Reduced
  quotient-reduced i j li lj e =
      let (n, rn, p) = Q.onto i li in
      let (m, rm, q) = Q.onto j lj in
      sym p ∙
      (Q.merges n m rn rm).1
      (equivalent-trans A M A n i m (equivalent-sym M A i n (rw p at (carried-equivalent quotient-carries n rn)))
      (equivalent-trans M M A i j m e (rw q at (carried-equivalent quotient-carries m rm)))) ∙
      q
