-- `firmware::words::follow` meets its contract: the node is the one after the firings before the counter, each of which is offered.
use Rattle.scan.proofs.Basics.{◌/◌, ◌≤◌, ◌<◌, ◌≡◌, none, length}
use Rattle.scan.specs.Scan.{first}
use Rattle.sequential.specs.Petri.{petri_net}
use Rattle.sequential.specs.Words.{node_count}
use Rattle.refusal.specs.Index.{index_from}
use Rattle.schedule.specs.Firing.{node_after, entry_after, firing_fault}
use Rattle.octets.specs.Words.{all_words}
use Rattle.firmware.proofs.words.follow.Given as goal

abbrev pub invariant-loop-i : goal.invariant-loop-i
invariant-loop-i l =
    (l.i ≤ length l.firings / 4) × (l.node ≡ node_after (petri_net l.net) l.sheet (all_words l.firings) l.i) × (l.node < node_count l.sheet) × (first (firing_fault
    (petri_net l.net) l.sheet (all_words l.firings)) l.i ≡ none)
    × (l.entry ≡ index_from (entry_after (petri_net l.net) l.sheet (all_words l.firings) l.i))
