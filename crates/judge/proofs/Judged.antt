-- An accepted schedule is readable; refusals 1 to 17, 26 and 27 in their order, and the await nodes of an accepted schedule.
use Rattle.std.specs.Prelude.{Err, Ok}
use Rattle.refusal.specs.Refusal.{Verdict}
use Rattle.scan.proofs.Basics.{ℕ, arith, ◌≡◌, refl, subst, sym, ap, ◌∙◌, ltb, Option, none, some, List}
use Rattle.scan.proofs.Tests.{le-ltb}
use Rattle.scan.specs.Scan.{or_else, first, count}
use Rattle.scan.proofs.Count.{count-ext, bit-mark}
use Rattle.scan.proofs.First.{or_else-left, or_else-right, or_else-assoc}
use Rattle.refusal.proofs.Verdicts.{accepted-refused, answer-none, answer-next, verdict-next, then_next, then-accepted}
use Rattle.refusal.specs.Verdict.{verdict_alone, verdict_of, and_then}
use Rattle.net.specs.Net.{transition_count}
use Rattle.net.specs.Check.{net_reply}
use Rattle.refusal.specs.declared.Refusal.{Refusal}
use Rattle.sequential.specs.Petri.{PetriNet, petri_net}
use Rattle.sequential.specs.Words.{node_count, entry_count, graph, arc, arc_entry, marking, count_at, arc_keys}
use Rattle.sequential.specs.Tests.{is_await}
use Rattle.sequential.specs.Check.{task_reply, start_fault, node_fault, root_fault, arc_fault, reach_fault, return_fault, await_count, words_fault, graph_fault, schedule_fault, schedule_reply}
use Rattle.sequential.proofs.Words.{words-out}
use Rattle.sequential.proofs.Faults.{graph-fault}
use Rattle.sequential.specs.Only.{is_source_of, only}
use Rattle.sequential.proofs.Only.{only-whole, words-only, start-only, arc-only, reach-only, whole-reply}
use Rattle.refusal.specs.Finding.{line_finds, found_at}
use Rattle.graph.specs.Readable.{words_reply, Readable}
use Rattle.graph.proofs.Readable.{readable, reply-readable}
use Rattle.choice.specs.Nodes.{NodesAnswer, marks_of, task_nodes_reply}
use Rattle.choice.proofs.Right.{task-verdict-right, task-awaits-right}
use Rattle.reach.specs.Reach.{is_marked, AwaitMarks, paths_reply}
use Rattle.reach.proofs.Meaning.{return_to}
use Rattle.reach.proofs.Demands.{paths-to}
use Rattle.judge.specs.Answer.{Judged}

then-left : (v : Verdict) (a b : Option Refusal) (r : Refusal) → and_then v (verdict_of a) ≡ Err r → and_then v (verdict_of a) ≡ and_then v (verdict_of (or_else a b))
unfolding or_else
then-left (Err x) a b r h = refl
then-left (Ok tt) none b r h = absurd (let z : ◌≡◌ {A = ℕ} 0 1 = cc in omega arith)
then-left (Ok tt) (some x) b r h = refl

pub accepted-readable : (net sheet : List ℕ) → schedule_reply net sheet ≡ Ok tt → Readable net sheet
unfolding schedule_reply schedule_fault
accepted-readable net sheet h =
    let (a, b) = then-accepted _ _ h in
    readable a (words-out (petri_net net) sheet (or_else-left _ _ (answer-none _ b)))

-- a refusal of the words is the schedule's; readable words leave it to the graph
module _ (net : List ℕ) (s : ℕ) (sheet : List ℕ) where
  abbrev M : PetriNet
  M = only (petri_net net) s

  -- the words do not ask which sources are removed
  words-first : task_reply net s sheet ≡ and_then (net_reply net) (verdict_of (or_else (words_fault (petri_net net) sheet) (graph_fault M sheet)))
  unfolding task_reply schedule_fault
  words-first = ap (λ (o : Option Refusal). and_then (net_reply net) (verdict_of (or_else o (graph_fault M sheet)))) (words-only (petri_net net) s sheet)

  words-refused : (r : Refusal) → words_reply net sheet ≡ Err r → words_reply net sheet ≡ task_reply net s sheet
  unfolding words_reply
  words-refused r h = then-left (net_reply net) (words_fault (petri_net net) sheet) (graph_fault M sheet) r h ∙ sym words-first

  words-accepted : words_reply net sheet ≡ Ok tt → task_reply net s sheet ≡ verdict_of (graph_fault M sheet)
  unfolding words_reply
  words-accepted h =
      let faults = words_fault (petri_net net) sheet in
      let (a, b) = then-accepted (net_reply net) (verdict_of faults) h in
      words-first ∙ then_next (net_reply net) (verdict_of (or_else faults (graph_fault M sheet))) a ∙ verdict-next faults (graph_fault M sheet) b

-- ---- 10 to 17, with 27, one after the other

module _ (N : PetriNet) (s : ℕ) (sheet : List ℕ) where
  -- 11 to 13 as one; these and 17 ask which sources are removed
  pub graph-chain : graph_fault (only N s) sheet
      ≡ or_else (first (start_fault N sheet) N.places) (or_else (or_else (first (node_fault (only N s) sheet) (node_count sheet)) (root_fault (only N s) sheet))
      (or_else (first (arc_fault N sheet) (entry_count sheet)) (or_else (first (reach_fault N sheet) (node_count sheet)) (first (return_fault (only N s) sheet) (node_count sheet)))))
  graph-chain =
      rw (← start-only N s sheet, ← arc-only N s sheet, ← reach-only N s sheet)
      (graph-fault (only N s) sheet ∙ ap (or_else (first (start_fault (only N s) sheet) N.places)) (sym (or_else-assoc _ _ _)))

  chain-nodes : graph_fault (only N s) sheet ≡ none → or_else (first (node_fault (only N s) sheet) (node_count sheet)) (root_fault (only N s) sheet) ≡ none
  chain-nodes h = or_else-left _ _ (or_else-right _ _ (sym graph-chain ∙ h))

return-to : (N : PetriNet) (s : ℕ) (sheet : List ℕ) → return_to N sheet (is_await (only N s) (graph (only N s) sheet)) ≡ return_fault (only N s) sheet
unfolding return_to return_fault line_finds found_at arc arc_entry marking count_at arc_keys
return-to N s sheet = refl

-- ---- the await nodes

-- what is found at the nodes, and the marks that come where nothing is
module _ {net sheet : List ℕ} (s : ℕ) (r : Readable net sheet) {nodes : NodesAnswer} (told : nodes ≡ task_nodes_reply net s sheet) where
  abbrev N : PetriNet
  N = only (petri_net net) s

  pub nodes-told : verdict_alone nodes ≡ verdict_of (or_else (first (node_fault N sheet) (node_count sheet)) (root_fault N sheet))
  nodes-told = rw told (task-verdict-right net s sheet r.arcs)

  await-marks : verdict_alone nodes ≡ Ok tt → AwaitMarks N sheet (marks_of nodes)
  unfolding is_marked
  await-marks h n l = rw told (ap (ltb 0) (task-awaits-right net s sheet r.arcs (rw told at h) n l) ∙ bit-mark (is_await N (graph N sheet) n))

  -- 16 and 17 by these marks
  pub paths-told : verdict_alone nodes ≡ Ok tt → {v : Verdict} → v ≡ paths_reply net sheet (marks_of nodes)
      → v ≡ verdict_of (or_else (first (reach_fault (petri_net net) sheet) (node_count sheet)) (first (return_fault N sheet) (node_count sheet)))
  paths-told h e = e ∙ paths-to net sheet r.arcs (is_await N (graph N sheet)) (marks_of nodes) (await-marks h)
      ∙ ap (λ (f : ℕ → Option Refusal). verdict_of (or_else (first (reach_fault (petri_net net) sheet) (node_count sheet)) (first f (node_count sheet)))) (return-to (petri_net net) s sheet)

  -- where the whole graph passes, the marks are those of the await nodes
  graph-marks : verdict_of (graph_fault N sheet) ≡ Ok tt → AwaitMarks N sheet (marks_of nodes)
  graph-marks h = await-marks (nodes-told ∙ ap verdict_of (chain-nodes (petri_net net) s sheet (answer-none _ h)))

-- ---- both as one

module _ {net : List ℕ} {s : ℕ} {sheet : List ℕ} where
  pub judged-words : {r : Refusal} {v : Verdict} → v ≡ words_reply net sheet → v ≡ Err r → Judged net s sheet (Err r)
  judged-words {r} e h =
      let q = words-refused net s sheet r (sym e ∙ h) in
      record { reply = sym h ∙ e ∙ q; marks = λ a. accepted-refused _ r a (sym (sym h ∙ e ∙ q)) }

  pub judged-refused : words_reply net sheet ≡ Ok tt → {r : Refusal} {v : Verdict} → v ≡ verdict_of (graph_fault (only (petri_net net) s) sheet) → v ≡ Err r
      → Judged net s sheet (Err r)
  judged-refused w {r} e h =
      let q = sym h ∙ e ∙ sym (words-accepted net s sheet w) in
      record { reply = q; marks = λ a. accepted-refused _ r a (sym q) }

  pub judged-graph : words_reply net sheet ≡ Ok tt → {marks : List ℕ} {v : Verdict} → Ok marks ≡ task_nodes_reply net s sheet
      → v ≡ verdict_of (graph_fault (only (petri_net net) s) sheet) → v ≡ Ok tt → Judged net s sheet (Ok marks)
  judged-graph w told e h =
      let q = sym h ∙ e ∙ sym (words-accepted net s sheet w) in
      record { reply = q; marks = λ a. graph-marks s (reply-readable net sheet w) told (sym e ∙ h) }

-- all four checks, one after the other
module _ (net : List ℕ) (s : ℕ) (sheet : List ℕ) where
  pub chain-paths : words_reply net sheet ≡ Ok tt → {nodes : NodesAnswer} {marks : List ℕ} {start arcs paths : Verdict} → nodes ≡ task_nodes_reply net s sheet
      → nodes ≡ Ok marks → start ≡ verdict_of (first (start_fault (petri_net net) sheet) (petri_net net).places) → start ≡ Ok tt
      → arcs ≡ verdict_of (first (arc_fault (petri_net net) sheet) (entry_count sheet)) → arcs ≡ Ok tt → paths ≡ paths_reply net sheet marks
      → paths ≡ verdict_of (graph_fault (only (petri_net net) s) sheet)
  chain-paths w told h start passed arcs held paths =
      let r = reply-readable net sheet w in
      let q = ap verdict_alone h in
      rw (graph-chain _ _ _)
      (answer-next _ _ start passed (answer-next _ _ (nodes-told s r told) q (answer-next _ _ arcs held
      (paths-told s r told q (paths ∙ ap (λ (n : NodesAnswer). paths_reply net sheet (marks_of n)) (sym h))))))

-- ---- of the whole net

module _ {net sheet : List ℕ} {answer : NodesAnswer} (j : Judged net 32 sheet answer) where
  pub whole-told : verdict_alone answer ≡ schedule_reply net sheet
  whole-told = j.reply ∙ whole-reply net sheet

  pub whole-marks : schedule_reply net sheet ≡ Ok tt → AwaitMarks (petri_net net) sheet (marks_of answer)
  whole-marks h =
      let k = (accepted-readable net sheet h).arcs.sizes in
      subst (λ (N : PetriNet). AwaitMarks N sheet (marks_of answer)) (only-whole (petri_net net) 32 (unfold is_source_of in (rw (le-ltb 32 (transition_count net) k.few_transitions))))
      (j.marks (whole-reply net sheet ∙ h))

pub await-count-is : (N : PetriNet) (sheet marks : List ℕ) → AwaitMarks N sheet marks → count (is_marked marks) (node_count sheet) ≡ await_count N sheet
unfolding await_count
await-count-is N sheet marks h = count-ext (is_marked marks) (is_await N (graph N sheet)) (node_count sheet) h
