-- The check of a net as a computation: for each clause of `net_checks` a test that it fails, and what these tests find.
use Rattle.refusal.specs.Refusal.{Verdict}
use Rattle.std.specs.Prelude.{ℕ, ◌+◌, ◌*◌, ◌≡◌, List, [], ◌∷◌, Bool, true, not, ◌&&◌, ◌||◌, length, take, ltb, leb, eqb}
use Rattle.std.proofs.Math.Option.{Option, none, some}
use Rattle.table.specs.Keys.{key_fails}
use Rattle.refusal.specs.Limits.{most_places, most_transitions, most_count}
use Rattle.refusal.specs.Verdict.{verdict_of}
use Rattle.refusal.specs.Finding.{Tests, asked, line_finds, finding}
use Rattle.refusal.specs.declared.Refusal.{Refusal}
use Rattle.net.specs.Net.{key_count, place_count, transition_count, weight_count, entry_weight, net_key_limit, start, capacity, has_source}
use Rattle.net.specs.Checks.{net_checks}

-- §2.2
unfoldable pub sizes_pass : ℕ → ℕ → ℕ → Bool
sizes_pass p t k = leb 1 p && (leb p most_places && (leb 1 t && (leb t most_transitions && leb k (key_count p t))))

-- §2.4
unfoldable pub weight_fails : ℕ → Bool
weight_fails w = eqb w 0 || ltb most_count w

-- §2.10
abbrev pub within : Option ℕ → ℕ → Bool
within none n = true
within (some c) n = leb n c

module _ (net : List ℕ) where
  abbrev pub entry_tests : Tests
  entry_tests = key_fails net 3 (net_key_limit net) ∷ (λ i. weight_fails (entry_weight net i)) ∷ []

  abbrev pub net_tests : List Tests
  net_tests =
      asked (ltb (length net) 3)
      ∷ asked (not (sizes_pass (place_count net) (transition_count net) (weight_count net)))
      ∷ asked (not (eqb (length net) (3 + 2 * weight_count net)))
      ∷ entry_tests
      ∷ ((λ p. not (within (capacity net p) (start net p))) ∷ [])
      ∷ asked (not (has_source net))
      ∷ []

  -- ---- what the functions of the check answer, each for its part

  -- 1 and 2
  unfoldable pub shape_fault : Option Refusal
  shape_fault = finding (take 3 (net_checks net)) net_tests

  -- 3 and 4 at one entry
  unfoldable pub entry_fault : ℕ → Option Refusal
  entry_fault i = line_finds (net_checks net) net_tests 3 i

  -- 26 at one place
  unfoldable pub overfull_fault : ℕ → Option Refusal
  overfull_fault p = line_finds (net_checks net) net_tests 4 p

-- what the net check answers: §10.1
unfoldable pub net_reply : List ℕ → Verdict
net_reply net = verdict_of (finding (net_checks net) (net_tests net))

-- the net check's postcondition
abbrev pub NetDone : List ℕ → Verdict → Type 0
NetDone net r = r ≡ net_reply net
