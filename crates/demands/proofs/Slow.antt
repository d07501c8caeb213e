-- The slow engine: what it spreads, and that it answers what the check answers.
use Rattle.std.specs.Prelude.{Err, Ok}
use Rattle.refusal.specs.Refusal.{Verdict}
use Rattle.scan.proofs.Basics.{ℕ, ◌+◌, ◌*◌, ◌/◌, ◌%◌, ◌-◌, ◌≤◌, ◌<◌, arith, ◌≡◌, refl, sym, ap, ◌∙◌, ◌⊎◌, inl, inr, Option, none, some, option_map, ltb, List, [], ◌∷◌, ◌++◌, get_or}
use mathlib.Core.Bool.{and-false}
use Rattle.scan.specs.Scan.{or_else, found_or}
use Rattle.scan.proofs.Tests.{lt-ltb, le-ltb}
use Rattle.refusal.specs.Verdict.{verdict_of}
use Rattle.refusal.specs.declared.Refusal.{Refusal}
use Rattle.lending.specs.Call.{scratch_fault, output_fault, words_verdict, call_verdict, answer_of}
use Rattle.lending.proofs.Judged.{Lawful}
use Rattle.lending.proofs.Demands.{every-call-none}
use Rattle.net.specs.Net.{place_count, transition_count, taken, put}
use Rattle.net.specs.Check.{net_reply}
use Rattle.net.specs.Checks.{net_checks}
use Rattle.net.proofs.Laws.{taken_no_transition, taken_no_place, put_no_transition, put_no_place, start_no_place, capacity_no_place}
use Rattle.sequential.specs.Petri.{petri_net}
use Rattle.sequential.specs.Words.{node_count, entry_value, entry_with_key, arc_keys, arc_entry, arc, count_at}
use Rattle.sequential.specs.Checks.{sheet_checks}
use Rattle.sequential.specs.Check.{words_fault, schedule_fault, schedule_reply}
use Rattle.sequential.proofs.Entries.{row-div, row-mod}
use Rattle.graph.specs.Readable.{words_reply}
use Rattle.graph.proofs.Readable.{reply-readable}
use Rattle.judge.specs.Answer.{counts_of, plain_check}
use Rattle.judge.proofs.Judged.{accepted-readable}
use Rattle.schedule.specs.Calls.{check_core}
use Rattle.schedule.proofs.Done.{check-law}
use Rattle.plainly.specs.Numbers.{plus_one, arc_code, NetSpread, GridSpread}
use Rattle.plainly.specs.Calls.{slow_verdict, slow_counts, slow_core}
use Rattle.plainly.specs.declared.Spread.{Spread}
use Rattle.plainly.proofs.LookUp.{cell-taken, cell-change, cell-arc, cell-count}
use Rattle.plainly.proofs.Right.{clauses-same, arcs-total, awaits-total}
use Rattle.demands.specs.Slow.{TablesRight, GridRight, SlowDemand}

-- ---- the tables

module _ (net : List ℕ) where
  module _ (s : Spread) (few_places : place_count net ≤ 32) (few_transitions : transition_count net ≤ 32) (h : NetSpread net s) where
    nothing : (t p : ℕ) → (transition_count net ≤ t) ⊎ (place_count net ≤ p) → (taken net t p ≡ 0) × (put net t p ≡ 0)
    nothing t p (inl l) = (taken_no_transition net t p l, put_no_transition net t p l)
    nothing t p (inr l) = (taken_no_place net t p l, put_no_place net t p l)

    tables-right : TablesRight net s
    tables-right = record {
      sizes = (h.places_are, h.transitions_are);
      starts = λ p k. h.starts_are p (omega arith);
      capacities = λ p k. h.capacities_are p (omega arith);
      taken = λ t p l k. cell-taken h t p (omega arith) (omega arith);
      change = λ t p l k. cell-change h t p (omega arith) (omega arith);
      past = λ p l k. (h.starts_are p k ∙ start_no_place net p l, h.capacities_are p k ∙ rw (capacity_no_place net p l));
      others = λ t p l k o. let (a, b) = nothing t p o in (cell-taken h t p l k ∙ a, cell-change h t p l k ∙ rw (a, b));
    }

-- ---- the grid

module _ (net sheet grid : List ℕ) (few_places : place_count net ≤ 32) (few_transitions : transition_count net ≤ 32) (few_nodes : node_count sheet ≤ 128) (g : GridSpread net sheet grid) where
  code_of : (o : Option ℕ) → arc_code (option_map (entry_value sheet) o) ≡ found_or 0 (λ i. plus_one (entry_value sheet i)) o
  code_of none = refl
  code_of (some i) = refl

  arc-key : (n t : ℕ) → n < node_count sheet → t < transition_count net
      → arc_code (arc (petri_net net) sheet n t) ≡ found_or 0 (λ i. plus_one (entry_value sheet i)) (entry_with_key sheet (n * transition_count net + t))
  unfolding arc arc_entry
  arc-key n t l k = rw (lt-ltb n (node_count sheet) l, lt-ltb t (transition_count net) k) (code_of (entry_with_key sheet (n * transition_count net + t)))

  count-key : (n p : ℕ) → n < node_count sheet → p < place_count net
      → count_at (petri_net net) sheet n p ≡ found_or 0 (entry_value sheet) (entry_with_key sheet (node_count sheet * transition_count net + n * place_count net + p))
  unfolding count_at arc_keys
  count-key n p l k = rw (lt-ltb n (node_count sheet) l, lt-ltb p (place_count net) k)

  arc-none : (n t : ℕ) → (node_count sheet ≤ n) ⊎ (transition_count net ≤ t) → arc_code (arc (petri_net net) sheet n t) ≡ 0
  unfolding arc arc_entry
  arc-none n t (inl l) = rw (le-ltb n (node_count sheet) l)
  arc-none n t (inr l) = rw (le-ltb t (transition_count net) l, and-false (ltb n (node_count sheet)))

  count_none : (n p : ℕ) → (node_count sheet ≤ n) ⊎ (place_count net ≤ p) → count_at (petri_net net) sheet n p ≡ 0
  unfolding count_at
  count_none n p (inl l) = rw (le-ltb n (node_count sheet) l)
  count_none n p (inr l) = rw (le-ltb p (place_count net) l, and-false (ltb n (node_count sheet)))

  grid-right : GridRight net sheet grid
  grid-right = record {
    arcs = λ n t l k. arc-cell n t (omega arith) (omega arith) ∙ arc-key n t l k;
    counts = λ n p l k. count-cell n p (omega arith) (omega arith) ∙ count-key n p l k;
    no_arcs = λ n t l k o. arc-cell n t l k ∙ arc-none n t o;
    no_counts = λ n p l k o. count-cell n p l k ∙ count_none n p o;
  }
    where
      arc-cell : (n t : ℕ) → n < 128 → t < 32 → get_or grid (n * 64 + t) 0 ≡ arc_code (arc (petri_net net) sheet n t)
      arc-cell n t l k =
          let a : (n * 64 + t) / 64 ≡ n = row-div n 64 t (omega arith) in
          let b : (n * 64 + t) % 64 ≡ t = row-mod n 64 t (omega arith) in
          g.cells (n * 64 + t) (omega arith) ∙ sym (cell-arc (petri_net net) sheet (n * 64 + t) (rw b (omega arith))) ∙ rw (a, b)

      count-cell : (n p : ℕ) → n < 128 → p < 32 → get_or grid (n * 64 + 32 + p) 0 ≡ count_at (petri_net net) sheet n p
      count-cell n p l k =
          let e : n * 64 + 32 + p ≡ n * 64 + (32 + p) = omega arith in
          let a : (n * 64 + (32 + p)) / 64 ≡ n = row-div n 64 (32 + p) (omega arith) in
          let b : (n * 64 + (32 + p)) % 64 ≡ 32 + p = row-mod n 64 (32 + p) (omega arith) in
          let q : 32 + p - 32 ≡ p = omega arith in
          rw e (g.cells (n * 64 + (32 + p)) (omega arith) ∙ sym (cell-count (petri_net net) sheet (n * 64 + (32 + p)) (rw b (omega arith))) ∙ rw (a, b, q))

-- ---- the answer

module _ (net sheet : List ℕ) where
  verdict-same : slow_verdict net sheet ≡ schedule_reply net sheet
  unfolding slow_verdict words_reply schedule_reply schedule_fault or_else
  verdict-same = go (net_reply net) refl (words_fault (petri_net net) sheet) refl
    where
      go : (v : Verdict) → net_reply net ≡ v → (o : Option Refusal) → words_fault (petri_net net) sheet ≡ o → slow_verdict net sheet ≡ schedule_reply net sheet
      go (Err x) e o f = rw e
      go (Ok tt) e (some x) f = rw (e, f)
      go (Ok tt) e none f =
          let r = reply-readable net sheet (rw (e, f)) in
          rw (e, f) (ap verdict_of (clauses-same (petri_net net) sheet r.arcs.sizes.some_transition r.arcs.holds))

  counts_same : schedule_reply net sheet ≡ Ok tt → slow_counts net sheet ≡ counts_of net sheet
  unfolding slow_counts counts_of
  counts_same h =
      let r = accepted-readable net sheet h in
      let some = r.arcs.sizes.some_transition in
      rw (arcs-total (petri_net net) sheet some r.arcs.holds, awaits-total (petri_net net) sheet some r.arcs.holds)

  answer-same : (v : Verdict) (lent : ℕ) → scratch_fault 8192 lent ≡ v → (w : Verdict) → schedule_reply net sheet ≡ w
      → answer_of (slow_core net sheet) (call_verdict 8192 (slow_core net sheet) [] lent) ≡ answer_of (check_core net sheet) (call_verdict 8192 (check_core net sheet) [] lent)
  unfolding call_verdict words_verdict output_fault
  answer-same (Err x) lent e w f = rw e
  answer-same (Ok tt) lent e (Err x) f = rw (e, verdict-same, f)
  answer-same (Ok u) lent e (Ok v) f = rw (e, verdict-same, f) (ap Ok (counts_same f))

  slow-law : Lawful (slow_core net sheet) plain_check ((slow_counts net sheet).nodes ∷ (slow_counts net sheet).arcs ∷ (slow_counts net sheet).awaits ∷ [])
      (net_checks net ++ sheet_checks (petri_net net) sheet)
  slow-law = record {
    judged = rw verdict-same (check-law net sheet).judged;
    proper = (check-law net sheet).proper;
    plain-accepted = refl;
    own-length = refl;
    plain-refused = λ r. refl;
  }

pub slow-demand : SlowDemand
slow-demand = record {
  tables = tables-right;
  grid = grid-right;
  every = λ net sheet. every-call-none (slow-law net sheet) refl;
  alike = λ net sheet scratch s₁ s₂ a b d e. record {
    answer = d.reply ∙ answer-same net sheet _ _ refl _ refl ∙ sym e.reply;
    scratch = d.scratch_after ∙ sym e.scratch_after;
  };
}
