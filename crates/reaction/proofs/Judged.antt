-- When 32 and 33 are answered, and reporting as an instance of what holds of every call: the checks of its words, and what is known of words that pass.
use Rattle.std.specs.Prelude.{Ok}
use Rattle.scan.proofs.Basics.{ℕ, ◌≡◌, refl, sym, List, [], ◌∷◌, ◌++◌, length}
use Rattle.scan.specs.Scan.{or_else, first}
use Rattle.scan.proofs.First.{or_else-assoc}
use Rattle.automaton.specs.Automaton.{Closed}
use Rattle.refusal.specs.Finding.{found_by, line_finds, finding}
use Rattle.refusal.proofs.Checks.{Decides, Decided, Lawful, Tells, finding-tells}
use Rattle.refusal.proofs.Judges.{Judges, judges-found, judges-then, pass-append}
use Rattle.net.specs.Checks.{net_checks}
use Rattle.sequential.specs.Petri.{PetriNet, petri_net}
use Rattle.sequential.specs.Words.{node_count, graph}
use Rattle.sequential.specs.Tests.{is_await}
use Rattle.sequential.specs.Checks.{sheet_checks}
use Rattle.sequential.proofs.Accepted.{closed, schedule-judged}
use Rattle.lending.proofs.Judged as call
use Rattle.reaction.specs.Checks.{reaction_checks}
use Rattle.reaction.specs.Tests.{durations_fault, reaction_tests, loop_fault, reaction_fault}
use Rattle.reaction.specs.Call.{reaction_verdict, report_words, reaction_core, plain_reaction}
use Rattle.reaction.specs.Known.{Passed}
use Rattle.reaction.proofs.Loop.{no-loop↔}
use Rattle.reaction.proofs.Durations.{durations-lawful}

module _ (N : PetriNet) (sheet words : List ℕ) where
  module _ (c : Closed (graph N sheet)) where
    reaction-lawful : Lawful Unit (reaction_checks N sheet words) (reaction_tests N sheet words)
    unfolding Lawful Decided Decides
    reaction-lawful =
        let (a, (b, u)) = durations-lawful words N.transitions in
        (a, (b, (λ h n l. (no-loop↔ (graph N sheet) (is_await N (graph N sheet)) c n l, λ x. tt), tt)))

    pub reaction-tells : Tells (reaction_fault N sheet words) (reaction_checks N sheet words)
    unfolding reaction_fault
    reaction-tells = finding-tells Unit (reaction_checks N sheet words) (reaction_tests N sheet words) reaction-lawful tt

  -- 32 comes before 33
  pub reaction-fault : reaction_fault N sheet words ≡ or_else (durations_fault words N.transitions) (first (loop_fault N sheet) (node_count sheet))
  unfolding reaction_fault durations_fault loop_fault finding found_by line_finds
  reaction-fault = sym (or_else-assoc _ _ _)

module _ (net sheet words : List ℕ) where
  pub reaction-judged : Judges (reaction_verdict net sheet words) ((net_checks net ++ sheet_checks (petri_net net) sheet) ++ reaction_checks (petri_net net) sheet words)
  unfolding reaction_verdict
  reaction-judged =
      judges-then _ _ (net_checks net ++ sheet_checks (petri_net net) sheet) _ (schedule-judged net sheet)
      (λ p. judges-found _ _ (reaction-tells (petri_net net) sheet words (closed net sheet ((schedule-judged net sheet).accepts.1 p))))

  pub reaction-law : call.Lawful (reaction_core net sheet words) plain_reaction (length (report_words net sheet words) ∷ 0 ∷ 0 ∷ [])
      ((net_checks net ++ sheet_checks (petri_net net) sheet) ++ reaction_checks (petri_net net) sheet words)
  reaction-law = record {
    judged = reaction-judged;
    proper = refl;
    plain-accepted = refl;
    own-length = refl;
    plain-refused = λ r. refl;
  }

  pub passed : reaction_verdict net sheet words ≡ Ok tt → Passed net sheet words
  passed h =
      let (a, b) = (pass-append (net_checks net ++ sheet_checks (petri_net net) sheet) (reaction_checks (petri_net net) sheet words)).0 (reaction-judged.accepts.0 h) in
      let (s, (e, (l, u))) = b in
      record { accepted = (schedule-judged net sheet).accepts.1 a; durations_pass = record { shape = s; each = λ t k. (e t k).0 }; ending = λ n k. (l n k).0 }
