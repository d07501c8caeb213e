-- The rows of mended schedules hold: one computation of the definitions.
use Rattle.scan.proofs.Basics.{refl}
use Rattle.scan.specs.Scan.{or_else, when, found, first, all, any, passing, least, tabulate}
use Rattle.table.specs.Table.{key_at, value_at, entry_of}
use Rattle.table.specs.Keys.{key_fails}
use Rattle.refusal.specs.Finding.{found_at, found_by, finding}
use Rattle.automaton.specs.Reach.{arc_into, arc_from, reached_in, leads_in}
use Rattle.net.specs.Net.{place_count, transition_count, net_key_limit, entry_weight, weight_at, taken, put, start, capacity, takes_nothing, is_source, has_source, weight_count}
use Rattle.net.specs.Check.{sizes_pass, weight_fails, net_reply}
use Rattle.sequential.specs.Petri as petri
use Rattle.sequential.specs.Words as words
use Rattle.sequential.specs.Tests as tests
use Rattle.sequential.specs.Check as check
use Rattle.encoding.specs.Encoding as encoding
use Rattle.mended.specs.Routes.{extended, known, route_by, route_from, route_next, route_at_root, routes, route}
use Rattle.mended.specs.Counts.{worked_out, new_count, mended_graph, lands_at, arc_fits, within_limit, node_fits, counts_fit}
use Rattle.mended.specs.Mend.{arcs_fault, mend_fault, mend_verdict, mended_words}
use Rattle.mended.specs.Changes.{changed, changed_key, changed_count, changed_keys, changed_counts, change_list, changes}
use Rattle.mended.specs.Examples.{Mended}

pub examples : Mended
unfolding or_else when found first all any passing least tabulate key_at value_at entry_of arc_into arc_from reached_in leads_in
    place_count transition_count net_key_limit entry_weight weight_at taken put start capacity takes_nothing is_source has_source weight_count key_fails found_at found_by
    finding sizes_pass weight_fails net_reply petri.initial petri.fired_count petri.fire petri.fire_all tests.holds_enough tests.holds_taken tests.room_at tests.has_room tests.enabled
    tests.takes_nothing tests.is_source tests.takes_alike tests.takes_same tests.both_draw tests.shares_place tests.shares_alike tests.free_choice tests.same_choice
    words.entry_key words.entry_value words.entry_with_key words.arc_keys words.key_limit words.arc_entry words.arc words.count_at words.marking
    tests.offers tests.offers_as_source tests.is_await tests.offers_some tests.first_offered
    tests.offers_as_choice tests.offers_one_choice_set check.sizes_pass check.target_fails check.arc_value_fails check.arc_words_fault
    encoding.gather encoding.gather_rows encoding.key_of_arc encoding.held encoding.key_of_count encoding.value_of_count encoding.keys encoding.values encoding.encode
    extended known route_by route_from route_next route_at_root routes route worked_out new_count mended_graph lands_at arc_fits within_limit node_fits counts_fit
    arcs_fault mend_fault mend_verdict mended_words changed changed_key changed_count changed_keys changed_counts change_list changes
examples = refl
