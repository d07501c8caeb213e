-- The limits, each named once: how many places, transitions, nodes, entries and logged firings there may be, how large a weight or a count, and the scratch
-- that a call asks for: §1.3 to §1.6, §1.9.
use Rattle.std.specs.Prelude.{ℕ}

abbrev pub most_places : ℕ
most_places = 32

abbrev pub most_transitions : ℕ
most_transitions = 32

abbrev pub most_nodes : ℕ
most_nodes = 128

abbrev pub most_entries : ℕ
most_entries = 4096

abbrev pub most_firings : ℕ
most_firings = 4096

abbrev pub most_count : ℕ
most_count = 1000000000

abbrev pub scratch_limit : ℕ
scratch_limit = 8192
