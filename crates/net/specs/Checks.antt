-- The checks of a net in their order, each with its clause and its number.
use Rattle.refusal.specs.declared.Reason.TheVariants.{NetLength, NetOrder, NetSize, NetWeight, NoSource, StartOverCapacity}
use Rattle.std.specs.Prelude.{ℕ, ◌+◌, ◌*◌, ◌≤◌, ◌<◌, ◌≡◌, List, [], ◌∷◌, length}
use Rattle.table.specs.Table.{KeyPasses}
use Rattle.refusal.specs.Limits.{most_places, most_transitions, most_count}
use Rattle.refusal.specs.Checks.{◌else◌, Check, each, once, AllPass}
use Rattle.refusal.specs.declared.Position.TheVariants.{Entry, Place}
use Rattle.net.specs.Net.{place_count, transition_count, weight_count, entry_weight, net_key_limit, taken, start, capacity, Within}

-- §2.2, with the limits of §1.3
pub record NetSizesPass (net : List ℕ) : Type 0 where
  pub some_place : 1 ≤ place_count net
  pub few_places : place_count net ≤ most_places
  pub some_transition : 1 ≤ transition_count net
  pub few_transitions : transition_count net ≤ most_transitions
  pub few_entries : weight_count net ≤ net_key_limit net

-- §2.4, with the limit of §1.5
pub record WeightPasses (net : List ℕ) (i : ℕ) : Type 0 where
  pub some : 1 ≤ entry_weight net i
  pub most : entry_weight net i ≤ most_count

-- §2.9
abbrev pub HasSource : List ℕ → Type 0
HasSource net = (t : ℕ) × (t < transition_count net) × ((p : ℕ) → p < place_count net → taken net t p ≡ 0)

-- in the order of §7.55; a number is that of its clause, §7.1 to §7.5 and §7.26, and positions are those of §7.53
abbrev pub net_checks : List ℕ → List Check
net_checks net =
    once (3 ≤ length net) NetLength
    ∷ once (NetSizesPass net) NetSize
    ∷ once (length net ≡ 3 + 2 * weight_count net) NetLength
    ∷ each (weight_count net) Entry (KeyPasses net 3 (net_key_limit net) else NetOrder ∷ WeightPasses net else NetWeight ∷ [])
    ∷ each (place_count net) Place ((λ p. Within (capacity net p) (start net p)) else StartOverCapacity ∷ [])
    ∷ once (HasSource net) NoSource
    ∷ []

-- the words are right: §2.1 to §2.4, §2.9, §2.11
abbrev pub IsNet : List ℕ → Type 0
IsNet net = AllPass (net_checks net)
