-- How many words of each file are read: §12.3.
use Rattle.std.specs.Prelude.{ℕ, ◌+◌, ◌*◌}
use Rattle.refusal.specs.Limits.{most_places, most_transitions, most_entries}
use Rattle.net.specs.Net.{key_count}

-- one word more than the longest net has, and than the longest schedule has: §12.3
abbrev pub net_read : ℕ
net_read = 4 + 2 * key_count most_places most_transitions

abbrev pub sheet_read : ℕ
sheet_read = 3 + 2 * most_entries
