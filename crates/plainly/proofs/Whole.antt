-- The net of the tables is the net, the graph of the grid is the graph; so the code answers what the clauses find over the words.
use Rattle.std.specs.Prelude.{Err, Ok}
use Rattle.judge.specs.Answer.{CheckAnswer}
use Rattle.refusal.specs.Refusal.{Verdict}
use Rattle.scan.proofs.Basics.{ℕ, zero, suc, ◌+◌, ◌*◌, ◌-◌, ◌/◌, ◌%◌, ◌≤◌, ◌<◌, arith, ◌≡◌, refl, sym, ap, ◌∙◌, Bool, ltb, Option, none, some, option_get_or, List, [], get_or}
use mathlib.Core.Path.{fun_ext}
use mathlib.Core.Bool.{and-false}
use lib.IntN.{pos, ◌-ℤ◌}
use Rattle.scan.specs.Scan.{tabulate}
use Rattle.scan.proofs.Tests.{lt-ltb, le-ltb, by_less}
use Rattle.scan.proofs.Tabulate.{tabulate-ext}
use Rattle.refusal.specs.declared.Refusal.{Refusal}
use Rattle.automaton.specs.Automaton.{Automaton}
use Rattle.net.specs.Net.{transition_count, taken, put, start, capacity}
use Rattle.net.proofs.Laws.{taken_no_transition, taken_no_place, put_no_transition, put_no_place, start_no_place, capacity_no_place, capacity-some, taken_most, put_most}
use Rattle.sequential.specs.Petri.{PetriNet, petri_net}
use Rattle.sequential.specs.Words.{node_count, arc, arc_entry, count_at, marking, graph}
use Rattle.sequential.proofs.Entries.{row-div, row-mod, graph-closed, count_most}
use Rattle.graph.specs.Readable.{words_reply, Readable}
use Rattle.graph.proofs.Readable.{words, reply-readable}
use Rattle.lending.specs.Call.{WordsDone}
use Rattle.lending.proofs.Laws.{refused-words, answered-none}
use Rattle.plainly.specs.declared.Spread.{Spread}
use Rattle.plainly.specs.Tables.{arc_of, capacity_of, PutIs, in_table, taken_by, put_told, start_by, capacity_by, net_of, arc_by, held_by, label_by, graph_of, Fit}
use Rattle.plainly.specs.Numbers.{arc_code, NetSpread, GridSpread}
use Rattle.plainly.specs.Clauses.{clauses_fault, clauses_answer}
use Rattle.plainly.specs.Calls.{slow_verdict, slow_counts, slow_core, slow_answer}
use Rattle.plainly.proofs.Room.{put-by, puts}
use Rattle.plainly.proofs.LookUp.{cell-taken, cell-change, cell-arc, cell-count}

same-net : (P T P' T' : ℕ) (f g f' g' : ℕ → ℕ → ℕ) (s s' : ℕ → ℕ) (k k' : ℕ → Option ℕ) (z : ℕ → Bool) → P ≡ P' → T ≡ T' → f ≡ f' → g ≡ g' → s ≡ s' → k ≡ k'
    → ◌≡◌ {A = PetriNet} (record { places = P; transitions = T; taken = f; put = g; start = s; capacity = k; kept = z })
    (record { places = P'; transitions = T'; taken = f'; put = g'; start = s'; capacity = k'; kept = z })
same-net P T P' T' f g f' g' s s' k k' z a b c d e h = rw (a, b, c, d, e, h)

same_graph : (v T v' T' : ℕ) (f f' : ℕ → ℕ → Option ℕ) (s s' : ℕ → List ℕ) → v ≡ v' → T ≡ T' → f ≡ f' → s ≡ s'
    → ◌≡◌ {A = Automaton} (record { nodes = v; transitions = T; arc = f; label = s }) (record { nodes = v'; transitions = T'; arc = f'; label = s' })
same_graph v T v' T' f f' s s' a b c d = rw (a, b, c, d)

arc-of-code : (o : Option ℕ) → arc_of (arc_code o) ≡ o
arc-of-code none = refl
arc-of-code (some i) = let q : i + 1 ≡ suc i = omega arith in rw q

capacity-of : (o : Option ℕ) → ((c : ℕ) → o ≡ some c → 1 ≤ c) → capacity_of (option_get_or o 0) ≡ o
capacity-of none h = refl
capacity-of (some zero) h = absurd (let z = h 0 refl in omega arith)
capacity-of (some (suc c)) h = refl

module _ {net sheet : List ℕ} (r : Readable net sheet) (s : Spread) (h : NetSpread net s) (v : s.nodes ≡ node_count sheet) where
  few_places : s.places ≤ 32
  few_places = omega (arith, h.places_are, r.arcs.sizes.few_places)

  few_transitions : s.transitions ≤ 32
  few_transitions = omega (arith, h.transitions_are, r.arcs.sizes.few_transitions)

  module _ (t p : ℕ) (l : t < s.transitions) (k : p < s.places) where
    taken_at : get_or s.taken (t * 32 + p) 0 ≡ taken net t p
    taken_at = cell-taken h t p (omega (arith, few_transitions)) (omega (arith, few_places))

    change-at : get_or s.change (t * 32 + p) (pos 0) ≡ pos (put net t p) -ℤ pos (get_or s.taken (t * 32 + p) 0)
    change-at = cell-change h t p (omega (arith, few_transitions)) (omega (arith, few_places)) ∙ rw taken_at

  taken-same : (t p : ℕ) → taken_by s t p ≡ taken net t p
  unfolding taken_by in_table
  taken-same t p =
      by_less t s.transitions
      (λ l. by_less p s.places (λ k. rw (lt-ltb t s.transitions l, lt-ltb p s.places k) (taken_at t p l k))
      (λ k. rw (le-ltb p s.places k, and-false (ltb t s.transitions)) (sym (taken_no_place net t p (omega (arith, h.places_are))))))
      (λ l. rw (le-ltb t s.transitions l) (sym (taken_no_transition net t p (omega (arith, h.transitions_are)))))

  put_same : (t p : ℕ) → put_told s t p ≡ put net t p
  unfolding put_told in_table
  put_same t p =
      by_less t s.transitions
      (λ l. by_less p s.places (λ k. rw (lt-ltb t s.transitions l, lt-ltb p s.places k) (put-by _ _ (change-at t p l k)))
      (λ k. rw (le-ltb p s.places k, and-false (ltb t s.transitions)) (sym (put_no_place net t p (omega (arith, h.places_are))))))
      (λ l. rw (le-ltb t s.transitions l) (sym (put_no_transition net t p (omega (arith, h.transitions_are)))))

  start-same : (p : ℕ) → start_by s p ≡ start net p
  unfolding start_by
  start-same p =
      by_less p s.places (λ k. rw (lt-ltb p s.places k) (h.starts_are p (omega (arith, few_places))))
      (λ k. rw (le-ltb p s.places k) (sym (start_no_place net p (omega (arith, h.places_are)))))

  capacity-same : (p : ℕ) → capacity_by s p ≡ capacity net p
  unfolding capacity_by
  capacity-same p =
      by_less p s.places
      (λ k. rw (lt-ltb p s.places k, h.capacities_are p (omega (arith, few_places))) (capacity-of (capacity net p) (capacity-some net r.arcs.accepted p)))
      (λ k. rw (le-ltb p s.places k) (sym (capacity_no_place net p (omega (arith, h.places_are)))))

  -- the net
  pub net-is : net_of s ≡ petri_net net
  unfolding net_of
  net-is =
      same-net _ _ _ _ _ _ _ _ _ _ _ _ _ h.places_are h.transitions_are (fun_ext (λ t. fun_ext (taken-same t))) (fun_ext (λ t. fun_ext (put_same t)))
      (fun_ext start-same) (fun_ext capacity-same)

  module _ (grid : List ℕ) (g : GridSpread net sheet grid) where
    abbrev N : PetriNet
    N = petri_net net

    few_nodes : s.nodes ≤ 128
    few_nodes = omega (arith, v, r.arcs.sizes.few_nodes)

    arc-cell : (n t : ℕ) → n < s.nodes → t < s.transitions → get_or grid (n * 64 + t) 0 ≡ arc_code (arc N sheet n t)
    arc-cell n t l k =
        let a : (n * 64 + t) / 64 ≡ n = row-div n 64 t (omega (arith, few_transitions)) in
        let b : (n * 64 + t) % 64 ≡ t = row-mod n 64 t (omega (arith, few_transitions)) in
        g.cells (n * 64 + t) (omega (arith, few_nodes, few_transitions)) ∙ sym (cell-arc N sheet (n * 64 + t) (rw b (omega (arith, few_transitions)))) ∙ rw (a, b)

    count-cell : (n p : ℕ) → n < s.nodes → p < s.places → get_or grid (n * 64 + 32 + p) 0 ≡ count_at N sheet n p
    count-cell n p l k =
        let e : n * 64 + 32 + p ≡ n * 64 + (32 + p) = omega arith in
        let a : (n * 64 + (32 + p)) / 64 ≡ n = row-div n 64 (32 + p) (omega (arith, few_places)) in
        let b : (n * 64 + (32 + p)) % 64 ≡ 32 + p = row-mod n 64 (32 + p) (omega (arith, few_places)) in
        let q : 32 + p - 32 ≡ p = omega arith in
        rw e (g.cells (n * 64 + (32 + p)) (omega (arith, few_nodes, few_places)) ∙ sym (cell-count N sheet (n * 64 + (32 + p)) (rw b (omega arith))) ∙ rw (a, b, q))

    arc-same : (n t : ℕ) → arc_by s grid n t ≡ arc N sheet n t
    unfolding arc_by arc arc_entry
    arc-same n t =
        by_less n s.nodes
        (λ l. by_less t s.transitions (λ k. rw (lt-ltb n s.nodes l, lt-ltb t s.transitions k, arc-cell n t l k) (arc-of-code (arc N sheet n t)))
        (λ k. rw (le-ltb t s.transitions k, and-false (ltb n s.nodes), le-ltb t (transition_count net) (omega (arith, h.transitions_are)), and-false (ltb n (node_count sheet)))))
        (λ l. rw (le-ltb n s.nodes l, le-ltb n (node_count sheet) (omega (arith, v))))

    label_same : (n : ℕ) → label_by s grid n ≡ marking N sheet n
    unfolding label_by marking held_by
    label_same n =
        by_less n s.nodes
        (λ l. rw (lt-ltb n s.nodes l, lt-ltb n (node_count sheet) (omega (arith, v))) (tabulate-ext _ _ s.places (λ p k. count-cell n p l k) ∙ ap (tabulate (count_at N sheet n)) h.places_are))
        (λ l. rw (le-ltb n s.nodes l, le-ltb n (node_count sheet) (omega (arith, v))))

    -- the graph
    pub graph_is : graph_of s grid ≡ graph N sheet
    unfolding graph_of
    graph_is = same_graph _ _ _ _ _ _ _ _ v h.transitions_are (fun_ext (λ n. fun_ext (arc-same n))) (fun_ext label_same)

    target_low : (n t : ℕ) → (o : Option ℕ) → arc N sheet n t ≡ o → n < s.nodes → arc_code o ≤ s.nodes
    target_low n t none e l = omega arith
    target_low n t (some m) e l =
        let z = (graph-closed N sheet r.arcs.sizes.some_transition r.arcs.holds).lands n t m (omega (arith, v)) e in omega (arith, v)

    pub fit : Fit s grid
    fit = record {
      few_places = few_places;
      some_transition = omega (arith, h.transitions_are, r.arcs.sizes.some_transition);
      few_transitions = few_transitions;
      some_node = omega (arith, v, r.arcs.sizes.some_node);
      few_nodes = few_nodes;
      long = g.long;
      targets = λ n t l k. rw (arc-cell n t l k) (target_low n t (arc N sheet n t) refl l);
      held = λ n p l k. rw (count-cell n p l k) (count_most N sheet (words net sheet r) n p);
      puts = λ i l. put-any i l;
    }
      where
        put-any : (i : ℕ) → i < 1024 → PutIs (get_or s.taken i 0) (get_or s.change i (pos 0))
        put-any i l =
            puts _ _ (h.change_is i l ∙ rw (h.taken_is i l)) (put_most net r.arcs.accepted (i / 32) (i % 32)) (rw (h.taken_is i l) (taken_most net r.arcs.accepted (i / 32) (i % 32)))

-- ---- what the code answers

pub spread-answer : (net sheet : List ℕ) → words_reply net sheet ≡ Ok tt → (s : Spread) → NetSpread net s → s.nodes ≡ node_count sheet → (grid : List ℕ) → GridSpread net sheet grid
    → {a : CheckAnswer} → a ≡ clauses_answer (net_of s) (graph_of s grid) → a ≡ clauses_answer (petri_net net) (graph (petri_net net) sheet)
spread-answer net sheet w s h v grid g e = e ∙ rw (net-is (reply-readable net sheet w) s h v, graph_is (reply-readable net sheet w) s h v grid g)

pub refused-answer : (net sheet : List ℕ) {v : Verdict} (x : Refusal) → v ≡ words_reply net sheet → v ≡ Err x → Err x ≡ slow_answer net sheet
unfolding slow_answer
refused-answer net sheet x e h = rw (sym e ∙ h)

pub accepted-answer : (net sheet : List ℕ) {v : Verdict} → v ≡ words_reply net sheet → v ≡ Ok tt → {a : CheckAnswer} → a ≡ clauses_answer (petri_net net) (graph (petri_net net) sheet)
    → a ≡ slow_answer net sheet
unfolding slow_answer
accepted-answer net sheet e h f = rw (sym e ∙ h) f

-- ---- the call

pub slow-words : (net sheet : List ℕ) (a : CheckAnswer) → a ≡ slow_answer net sheet → WordsDone (slow_core net sheet) [] a []
unfolding slow_answer slow_verdict slow_counts clauses_answer
slow-words net sheet a h = go (words_reply net sheet) refl (clauses_fault (petri_net net) (graph (petri_net net) sheet)) refl
  where
    go : (v : Verdict) → words_reply net sheet ≡ v → (o : Option Refusal) → clauses_fault (petri_net net) (graph (petri_net net) sheet) ≡ o → WordsDone (slow_core net sheet) [] a []
    go (Ok tt) e none f = answered-none refl (rw (e, f)) (h ∙ rw (e, f))
    go (Ok tt) e (some x) f = refused-words {r = x} (rw (e, f)) (h ∙ rw (e, f))
    go (Err x) e o f = refused-words {r = x} (rw e) (h ∙ rw e)
