-- The comparison as an instance of what holds of every call, except for its last number, which a refusal can have too.
use Rattle.scan.proofs.Basics.{ℕ, refl, List, [], ◌∷◌, ◌++◌, length}
use Rattle.scan.specs.Scan.{bit}
use Rattle.refusal.proofs.Judges.{Judges, judges-found, judges-then, pass-append}
use Rattle.net.specs.Checks.{net_checks}
use Rattle.net.proofs.Checks.{net-judged}
use Rattle.net.proofs.Laws.{sizes}
use Rattle.sequential.specs.Petri.{petri_net}
use Rattle.sequential.specs.Checks.{sheet_checks}
use Rattle.sequential.proofs.Accepted.{schedule-judged, sheet-tells}
use Rattle.lending.proofs.Judged.{Lawful}
use Rattle.minimal.specs.Minimal.{minimal_form}
use Rattle.compare.specs.Compare.{compare_verdict, same_forms, compare_core, plain_compare}

module _ (net x y : List ℕ) where
  pub compare-judged : Judges (compare_verdict net x y) ((net_checks net ++ sheet_checks (petri_net net) x) ++ sheet_checks (petri_net net) y)
  unfolding compare_verdict
  compare-judged =
      judges-then _ _ (net_checks net ++ sheet_checks (petri_net net) x) (sheet_checks (petri_net net) y) (schedule-judged net x) (λ p.
      let n = ((pass-append (net_checks net) (sheet_checks (petri_net net) x)).0 p).0 in
      judges-found _ _ (sheet-tells (petri_net net) y (sizes net ((net-judged net).accepts.1 n)).some_transition))

  pub compare-law : Lawful (compare_core net x y) plain_compare (length (minimal_form net x) ∷ length (minimal_form net y) ∷ bit (same_forms net x y) ∷ [])
      ((net_checks net ++ sheet_checks (petri_net net) x) ++ sheet_checks (petri_net net) y)
  compare-law = record { judged = compare-judged; proper = refl; plain-accepted = refl; own-length = refl; plain-refused = λ r. refl }
