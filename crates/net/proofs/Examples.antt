-- The table of worked nets holds: one computation of the definitions.
use Rattle.scan.proofs.Basics.{◌≡◌, refl}
use Rattle.scan.specs.Scan.{or_else, when, found, first, all, any}
use Rattle.table.specs.Table.{key_at, value_at, entry_of}
use Rattle.net.specs.Net.{place_count, transition_count, weight_count, entry_weight, net_key_limit, weight_at, taken, start, capacity, takes_nothing, is_source, has_source}
use Rattle.table.specs.Keys.{key_fails}
use Rattle.refusal.specs.Finding.{found_at, found_by, finding}
use Rattle.net.specs.Check.{sizes_pass, weight_fails, net_reply}
use Rattle.net.specs.Examples.{table, replies_to, answers_of}

pub table-holds : replies_to table ≡ answers_of table
unfolding or_else when found first all any key_at value_at entry_of place_count transition_count weight_count entry_weight net_key_limit weight_at
    taken start capacity takes_nothing is_source has_source key_fails found_at found_by finding sizes_pass weight_fails net_reply
table-holds = refl
