-- Marks and paths are what they are promised to be.
use Rattle.scan.proofs.Basics.{ℕ, ◌<◌, arith, ◌≡◌, refl, sym, ap, ◌∙◌, Bool, List, get_or}
use Rattle.scan.specs.Scan.{or_else, first, bit}
use Rattle.scan.proofs.Tabulate.{tabulate-at}
use Rattle.scan.proofs.Count.{bit-one}
use Rattle.refusal.specs.Finding.{line_finds, found_at}
use Rattle.refusal.specs.Verdict.{verdict_of}
use Rattle.refusal.proofs.Verdicts.{then_next}
use Rattle.net.proofs.Checks.{net-judged}
use Rattle.sequential.specs.Petri.{petri_net}
use Rattle.sequential.specs.Words.{node_count}
use Rattle.sequential.specs.Check.{reach_fault, return_fault}
use Rattle.sequential.proofs.Words.{arcs-hold}
use Rattle.graph.specs.Readable.{ArcsReadable}
use Rattle.graph.proofs.Readable.{arcs-readable, arcs-accepted}
use Rattle.reach.specs.Reach.{is_marked, is_reached, reached_mark, paths_fault, reached_reply, paths_reply}
use Rattle.reach.specs.Demands.{PathsRight, PathsMean}
use Rattle.reach.proofs.Meaning.{return_to, reached↔, return-by-marks}

module _ (net sheet : List ℕ) (r : ArcsReadable net sheet) where
  mark-is : (n : ℕ) → n < node_count sheet → get_or (reached_reply net sheet) n 0 ≡ bit (is_reached (petri_net net) sheet n)
  unfolding reached_reply
  mark-is n l = rw (arcs-accepted net sheet r) (tabulate-at (reached_mark (petri_net net) sheet) 0 128 n (let k = r.sizes.few_nodes in omega arith) ∙ unfold reached_mark in refl)

  -- 16 and 17 with any test of the nodes to reach that marks tell
  pub paths-to : (goal : ℕ → Bool) (marks : List ℕ) → ((n : ℕ) → n < node_count sheet → is_marked marks n ≡ goal n)
      → paths_reply net sheet marks
      ≡ verdict_of (or_else (first (reach_fault (petri_net net) sheet) (node_count sheet)) (first (return_to (petri_net net) sheet goal) (node_count sheet)))
  unfolding paths_reply paths_fault
  paths-to goal marks h =
      then_next _ _ (arcs-accepted net sheet r) ∙ ap (λ x. verdict_of (or_else (first (reach_fault (petri_net net) sheet) (node_count sheet)) x)) (return-by-marks r goal marks h)

  pub paths-right : PathsRight net sheet
  unfolding return_to return_fault line_finds found_at
  paths-right = record {
    reached = λ n l.
        let (f, g) = bit-one (is_reached (petri_net net) sheet n) in
        let (h, k) = reached↔ r n in
        (λ e. h (f (sym (mark-is n l) ∙ e)), λ e. mark-is n l ∙ g (k e));
    faults = λ awaits h. paths-to _ awaits h;
  }

pub paths-mean : PathsMean
paths-mean net sheet i p = paths-right net sheet (arcs-readable ((net-judged net).accepts.1 i) (arcs-hold (petri_net net) sheet p))
