-- The paths of the call: the checks one after the other, the buffer that is too short, and the report written.
use Rattle.std.specs.Prelude.{Err, Ok}
use Rattle.refusal.specs.Refusal.{Verdict}
use Rattle.scan.proofs.Basics.{ℕ, ◌≡◌, refl, sym, ap, ◌∙◌, ⊎_elim, Option, none, some, List, length, length-replicate, get_or, ltb}
use Rattle.scan.specs.Placed.{placed}
use Rattle.scan.specs.Scan.{first}
use Rattle.scan.proofs.First.{or_else-left, or_else-right, or_else-assoc, or_else-next}
use Rattle.scan.proofs.Count.{bit-mark}
use Rattle.scan.proofs.Placed.{placed-front}
use Rattle.scan.proofs.Tabulate.{tabulate-length}
use Rattle.refusal.specs.Verdict.{verdict_alone, verdict_of}
use Rattle.refusal.specs.declared.Refusal.{Refusal}
use Rattle.refusal.proofs.Verdicts.{accepted-refused, answer-none, answer-left, then_next, then-refused, then-accepted, then-cases}
use Rattle.net.specs.Net.{transition_count}
use Rattle.net.specs.Check.{net_reply}
use Rattle.sequential.specs.Petri.{petri_net}
use Rattle.sequential.specs.Check.{start_fault, words_fault, schedule_fault, schedule_reply}
use Rattle.sequential.proofs.Faults.{graph-fault}
use Rattle.reach.specs.Reach.{is_marked}
use Rattle.graph.specs.Readable.{ArcsReadable}
use Rattle.choice.specs.Rows.{net_by_rows, graph_by_rows}
use Rattle.choice.specs.Nodes.{NodesAnswer, marks_of, offers_fault, await_marks, marked_or, nodes_reply}
use Rattle.choice.proofs.Right.{verdict-right, awaits-right}
use Rattle.judge.proofs.Judged.{accepted-readable}
use Rattle.lending.specs.Call.{room_fault}
use Rattle.lending.proofs.Lent.{room-holds}
use Rattle.lending.proofs.Laws.{refused-words, refused-one, answered-one}
use Rattle.reaction.specs.Tests.{durations_fault, loop_fault}
use Rattle.reaction.specs.Known.{Passed}
use Rattle.sequential.specs.Words.{node_count}
use Rattle.reaction.specs.Call.{reaction_verdict, report_words, ReactionWritten}
use Rattle.reaction.proofs.Judged.{reaction-fault, passed}
use Rattle.react.specs.Rows.{Starts, Judged}
use Rattle.react.specs.Report.{SizeTold}
use Rattle.react.specs.Checked.{checked_verdict}

-- ---- before loops are looked for

module _ (net sheet words : List ℕ) where
  pub sheet-refused : {v : Verdict} → v ≡ schedule_reply net sheet → {r : Refusal} → v ≡ Err r → v ≡ checked_verdict net sheet words
  unfolding checked_verdict
  sheet-refused e h = e ∙ sym (then-refused (schedule_reply net sheet) _ _ (sym e ∙ h))

  pub durations-told : schedule_reply net sheet ≡ Ok tt → {k : ℕ} → k ≡ transition_count net → {v : Verdict} → v ≡ verdict_of (durations_fault words k) → v ≡ checked_verdict net sheet words
  unfolding checked_verdict
  durations-told a s e = e ∙ ap (λ (i : ℕ). verdict_of (durations_fault words i)) s ∙ sym (then_next _ _ a)

  -- refused there is refused
  pub checked_refused : {r : Refusal} → checked_verdict net sheet words ≡ Err r → (out : List ℕ) → ReactionWritten net sheet words out (Err r) out
  unfolding checked_verdict reaction_verdict
  checked_refused {r} h out = refused-words (⊎_elim
      (λ e. then-refused (schedule_reply net sheet) _ r e ∙ e)
      (λ (a, e). then_next _ _ a ∙ ap verdict_of (reaction-fault (petri_net net) sheet words) ∙ sym (answer-left (durations_fault words (transition_count net)) _ (Err r) r (sym e) refl))
      (then-cases (schedule_reply net sheet) _ r h)) refl

-- ---- what is known then

marks-long : (net sheet : List ℕ) → length (marks_of (nodes_reply net sheet)) ≡ 128
unfolding nodes_reply await_marks
marks-long net sheet = go (offers_fault (net_by_rows net) (graph_by_rows net sheet))
  where
    go : (o : Option Refusal) → length (marks_of (marked_or (await_marks (net_by_rows net) (graph_by_rows net sheet)) o)) ≡ 128
    go none = tabulate-length _ 128
    go (some r) = length-replicate {A = ℕ} 128 0

module _ (net sheet words : List ℕ) (c : checked_verdict net sheet words ≡ Ok tt) where
  accepted : schedule_reply net sheet ≡ Ok tt
  unfolding checked_verdict
  accepted = (then-accepted (schedule_reply net sheet) _ c).0

  durations_pass : durations_fault words (transition_count net) ≡ none
  unfolding checked_verdict
  durations_pass = answer-none _ (then-accepted (schedule_reply net sheet) _ c).1

  pub arcs-readable : ArcsReadable net sheet
  arcs-readable = (accepted-readable net sheet accepted).arcs

  -- 11 to 13 find nothing
  nodes_pass : verdict_alone (nodes_reply net sheet) ≡ Ok tt
  unfolding schedule_reply schedule_fault
  nodes_pass =
      let graph_passes = or_else-right (words_fault (petri_net net) sheet) _ (answer-none _ (then-accepted (net_reply net) _ accepted).1) in
      let nodes_on = or_else-right (first (start_fault (petri_net net) sheet) _) _ (sym (graph-fault (petri_net net) sheet) ∙ graph_passes) in
      verdict-right net sheet arcs-readable ∙ ap verdict_of (or_else-left _ _ (or_else-assoc _ _ _ ∙ nodes_on))

  pub nodes_told : {r : Refusal} → nodes_reply net sheet ≡ Err r → ⊥
  nodes_told h = accepted-refused _ _ nodes_pass (ap verdict_alone h)

  module _ {starts : List ℕ} (s : Starts net sheet starts) {awaits : List ℕ} (e : nodes_reply net sheet ≡ Ok awaits) where
    pub judged : Judged net sheet starts awaits
    unfolding is_marked
    judged = record {
      mapped = record { accepted = accepted; starts_are = s };
      long = sym (ap (λ (n : NodesAnswer). length (marks_of n)) e) ∙ marks-long net sheet;
      marks = λ n l. ap (λ (a : NodesAnswer). ltb 0 (get_or (marks_of a) n 0)) (sym e) ∙ ap (ltb 0) (awaits-right net sheet arcs-readable nodes_pass n l) ∙ bit-mark _;
    }

  -- ---- loops, the buffer and the report

  module _ {v : Verdict} (t : v ≡ verdict_of (first (loop_fault (petri_net net) sheet) (node_count sheet))) where
    whole : v ≡ reaction_verdict net sheet words
    unfolding reaction_verdict
    whole = t ∙ ap verdict_of (sym (reaction-fault (petri_net net) sheet words ∙ or_else-next _ _ durations_pass)) ∙ sym (then_next _ _ accepted)

    pub loops-refused : {r : Refusal} → v ≡ Err r → (out : List ℕ) → ReactionWritten net sheet words out (Err r) out
    loops-refused h out = refused-words (sym whole ∙ h) refl

    module _ (a : v ≡ Ok tt) where
      pub all-passed : Passed net sheet words
      all-passed = passed net sheet words (sym whole ∙ a)

      module _ {size : ℕ} (z : SizeTold net sheet size) (out : List ℕ) {w : Verdict} (h : w ≡ room_fault (length out) size) where
        long : length (report_words net sheet words) ≡ size
        long = sym (z words)

        pub too_short : {r : Refusal} → w ≡ Err r → ReactionWritten net sheet words out (Err r) out
        too_short k = refused-one refl (sym whole ∙ a) (rw long (sym h ∙ k)) refl

        pub report-written : {out' : List ℕ} → w ≡ Ok tt → out' ≡ placed out 0 (report_words net sheet words) → ReactionWritten net sheet words out (Ok size) out'
        report-written k o =
            let f : room_fault (length out) (length (report_words net sheet words)) ≡ Ok tt = rw long (sym h ∙ k) in
            answered-one refl (sym whole ∙ a) f (rw long) (o ∙ placed-front (report_words net sheet words) out (room-holds _ _ f))
