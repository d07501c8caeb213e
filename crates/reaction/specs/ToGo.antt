-- Best and worst time to the next await node (§10.47), by rounds: after k rounds every run of at most k firings has been considered.
use Rattle.std.specs.Prelude.{ℕ, zero, suc, ◌+◌, ◌-◌, min, max, Bool, cond}
use Rattle.std.proofs.Math.Option.{Option, none, some, map, get_or}
use Rattle.scan.specs.Scan.{when, found_or}
use Rattle.automaton.specs.Automaton.{Automaton}
use Rattle.reaction.specs.Duration.{each}
use Rattle.reaction.specs.Extreme.{over}

module _ (A : Automaton) (await : ℕ → Bool) where
  -- the time of an arc: the duration of its transition plus the time of its target; none if there is no arc, or if the target has no time yet
  unfoldable pub arc_time : (ℕ → ℕ) → (ℕ → Option ℕ) → ℕ → ℕ → Option ℕ
  arc_time d ahead n t = found_or none (λ m. map (◌+◌ (d t)) (ahead m)) (A.arc n t)

  -- the time of a node: 0 at an await node, else the pick over its arcs; none if no run of at most k firings reaches an await node
  unfoldable pub to_go : (ℕ → ℕ → ℕ) → (ℕ → ℕ) → ℕ → ℕ → Option ℕ
  to_go pick d zero n = when (await n) 0
  to_go pick d (suc k) n = cond (await n) (some 0) (over pick (arc_time d (to_go pick d k) n) A.transitions)

  -- V - 1 rounds are enough: if no loop avoids the await nodes, no run to the next one is longer
  unfoldable pub best : (ℕ → ℕ) → ℕ → ℕ
  best early n = get_or (to_go min early (A.nodes - 1) n) 0

  unfoldable pub worst : (ℕ → ℕ) → ℕ → ℕ
  worst late n = get_or (to_go max late (A.nodes - 1) n) 0

  -- the greatest number of firings to the next await node; it falls along every arc of a busy node
  abbrev pub depth : ℕ → ℕ
  depth n = worst each n

  -- §10.48, what is reported for await node a and source t: the source's own duration counts
  unfoldable pub reaction_time : (ℕ → ℕ) → (ℕ → ℕ) → ℕ → ℕ → ℕ
  reaction_time d ahead a t = found_or 0 (λ m. d t + ahead m) (A.arc a t)

  abbrev pub best_reaction : (ℕ → ℕ) → ℕ → ℕ → ℕ
  best_reaction early a t = reaction_time early (best early) a t

  abbrev pub worst_reaction : (ℕ → ℕ) → ℕ → ℕ → ℕ
  worst_reaction late a t = reaction_time late (worst late) a t

  -- what a loop over the arcs of n by the transitions below t makes of its start value, given the times of the targets
  unfoldable pub values_over : (ℕ → ℕ → ℕ) → (ℕ → ℕ) → (ℕ → ℕ) → ℕ → ℕ → ℕ → ℕ
  values_over pick d ahead start n t = get_or (over pick (arc_time d (λ m. some (ahead m)) n) t) start
