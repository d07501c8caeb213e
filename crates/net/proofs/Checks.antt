-- The net's tests decide its clauses; so a net is accepted exactly if all pass, and else refused by the one that fails first.
use Rattle.refusal.specs.declared.Reason.TheVariants.{NoSource}
use Rattle.scan.proofs.Basics.{ℕ, ◌≡◌, refl, sym, ap, ◌∙◌, ◌↔◌, true, false, not, Option, none, some, List}
use Rattle.scan.proofs.Tests.{ltb-false, le-ltb, leb-true, le-leb, eqb-true, eq-eqb, decides_not}
use Rattle.scan.specs.Scan.{or_else, when, first}
use Rattle.scan.proofs.First.{none-some, or_else-assoc}
use Rattle.scan.proofs.Every.{all_in, all-out, any-in, any_out}
use Rattle.table.proofs.Keys.{key-passes}
use Rattle.refusal.specs.Refusal.{refusal}
use Rattle.refusal.specs.Finding.{found_at, found_by, line_finds, finding}
use Rattle.refusal.specs.declared.Position.TheVariants.{Nothing}
use Rattle.refusal.proofs.Checks.{Decides, Decided, Lawful, finding-tells, ◌▸◌}
use Rattle.refusal.proofs.Judges.{Judges, judges-found}
use Rattle.net.specs.Net.{place_count, transition_count, weight_count, net_key_limit, takes_nothing, is_source, has_source, Within}
use Rattle.net.specs.Checks.{HasSource, net_checks, IsNet}
use Rattle.net.specs.Check.{within, shape_fault, entry_fault, overfull_fault, net_tests, net_reply}
use Rattle.net.proofs.Shape.{sizes-out, sizes-in}
use Rattle.net.specs.Known.{EntriesPass}
use Rattle.net.proofs.Entries.{weight-out, weight-in}

pub within↔ : (o : Option ℕ) (n : ℕ) → (within o n ≡ true) ↔ Within o n
within↔ none n = (λ h c e. none-some none c refl e, λ h. refl)
within↔ (some c) n = (λ h d e. let q : c ≡ d = cc in rw q at (leb-true n c h), λ h. le-leb _ _ (h c refl))

module _ (net : List ℕ) where
  source-decided : (not (has_source net) ≡ false) ↔ HasSource net
  unfolding has_source is_source takes_nothing
  source-decided =
      decides_not _ (λ h. let (t, l, e) = any_out (is_source net) (transition_count net) h in
      (t, l, λ p m. eqb-true _ _ (all-out (takes_nothing net t) (place_count net) e p m)))
      (λ (t, l, e). any-in (is_source net) (transition_count net) t l (all_in (takes_nothing net t) (place_count net) (λ p m. eq-eqb _ _ (e p m))))

  lawful : Lawful Unit (net_checks net) (net_tests net)
  unfolding Lawful Decided Decides
  lawful =
      (λ h. (ltb-false _ _, le-ltb _ _))
      ▸ (λ h. decides_not _ (sizes-out net) (sizes-in net))
      ▸ (λ h. decides_not _ (eqb-true _ _) (eq-eqb _ _))
      ▸ (λ h i l. (key-passes net 3 (net_key_limit net) i, λ k. ((weight-out net i, weight-in net i), λ p. tt)))
      ▸ (λ h p l. (decides_not _ (within↔ _ _).0 (within↔ _ _).1, λ x. tt))
      ▸ (λ h. source-decided)
      ▸ tt

  pub net-judged : Judges (net_reply net) (net_checks net)
  unfolding net_reply
  net-judged = judges-found _ (net_checks net) (finding-tells Unit (net_checks net) (net_tests net) lawful tt)

  -- the functions' parts, one after the other
  pub net-fault : finding (net_checks net) (net_tests net)
      ≡ or_else (shape_fault net)
      (or_else (first (entry_fault net) (weight_count net)) (or_else (first (overfull_fault net) (place_count net)) (when (not (has_source net)) (refusal NoSource Nothing))))
  unfolding finding found_by line_finds found_at shape_fault entry_fault overfull_fault
  net-fault = sym (or_else-assoc _ _ _ ∙ ap (or_else _) (or_else-assoc _ _ _))

  -- a net is all that passes 1 to 4, starts within its capacities and has a source
  pub net-entries : IsNet net → EntriesPass net
  net-entries (a, (b, (c, (d, e)))) = record {
    shape = record { sizes = b; whole = c };
    each = λ i l. let (k, (w, u)) = d i l in record { key = k; weight = w };
  }
