-- Mending as a computation: for each clause of `mend_checks` a test that it fails, what these tests find, and the mended schedule (§10.14).
use Rattle.refusal.specs.Refusal.{Verdict}
use Rattle.std.specs.Prelude.{ℕ, ◌-◌, List, [], ◌∷◌, not}
use Rattle.std.proofs.Math.Option.{Option}
use Rattle.scan.specs.Scan.{or_else}
use Rattle.automaton.specs.Reach.{reached_in, leads_in}
use Rattle.refusal.specs.Verdict.{verdict_of, and_then}
use Rattle.refusal.specs.Finding.{Tests, asked, finding}
use Rattle.refusal.specs.declared.Refusal.{Refusal}
use Rattle.net.specs.Check.{net_reply}
use Rattle.sequential.specs.Petri.{PetriNet, petri_net}
use Rattle.sequential.specs.Words.{node_count, graph}
use Rattle.sequential.specs.Tests.{is_await, offers_some, offers_one_choice_set}
use Rattle.sequential.specs.Check.{arc_words_fault}
use Rattle.encoding.specs.Encoding.{encode}
use Rattle.mended.specs.Counts.{mended_graph, counts_fit}
use Rattle.mended.specs.Checks.{arc_checks}

module _ (N : PetriNet) (sheet : List ℕ) where
  abbrev pub arc_tests : List Tests
  arc_tests =
      ((λ n. not (offers_some N (graph N sheet) n)) ∷ (λ n. not (offers_one_choice_set N (graph N sheet) n)) ∷ [])
      ∷ ((λ n. not (is_await N (graph N sheet) n)) ∷ [])
      ∷ ((λ n. not (reached_in (graph N sheet) (node_count sheet - 1) n)) ∷ [])
      ∷ ((λ n. not (leads_in (graph N sheet) (is_await N (graph N sheet)) (node_count sheet - 1) n)) ∷ [])
      ∷ asked (not (counts_fit N (graph N sheet)))
      ∷ []

  -- 11, 12, 13, 16, 17 and 25
  unfoldable pub arcs_fault : Option Refusal
  arcs_fault = finding (arc_checks N sheet) arc_tests

  -- 6 to 9, and then the faults of the arcs
  unfoldable pub mend_fault : Option Refusal
  mend_fault = or_else (arc_words_fault N sheet) arcs_fault

-- the net, and then the schedule: §7.54
unfoldable pub mend_verdict : List ℕ → List ℕ → Verdict
mend_verdict net sheet = and_then (net_reply net) (verdict_of (mend_fault (petri_net net) sheet))

-- the words (§11.6) of the given arcs with the counts worked out
unfoldable pub mended_words : List ℕ → List ℕ → List ℕ
mended_words net sheet = encode (petri_net net) (mended_graph (petri_net net) (graph (petri_net net) sheet))
