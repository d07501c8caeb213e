-- The rows of reaction times hold: one computation of the definitions.
use Rattle.scan.proofs.Basics.{refl}
use Rattle.scan.specs.Scan.{or_else, when, found, first, all, any, bit, count, passing, least, tabulate}
use Rattle.table.specs.Table.{key_at, value_at, entry_of}
use Rattle.table.specs.Keys.{key_fails}
use Rattle.refusal.specs.Finding.{found_at, found_by, finding}
use Rattle.automaton.specs.Reach.{arc_into, arc_from, reached_in, leads_in}
use Rattle.net.specs.Net.{place_count, transition_count, net_key_limit, entry_weight, weight_at, taken, put, start, capacity, takes_nothing, is_source, has_source, weight_count}
use Rattle.net.specs.Check.{sizes_pass, weight_fails, net_reply}
use Rattle.sequential.specs.Petri as petri
use Rattle.sequential.specs.Words as words
use Rattle.sequential.specs.Tests as tests
use Rattle.sequential.specs.Check as check
use Rattle.reaction.specs.Busy.{busy_part}
use Rattle.reaction.specs.Extreme.{joined, over}
use Rattle.reaction.specs.ToGo.{arc_time, to_go, best, worst}
use Rattle.reaction.specs.Loop.{on_loop}
use Rattle.reaction.specs.Words.{duration_count, early, late, strung, pair_at, row_at, report}
use Rattle.reaction.specs.Tests.{shape_passes, duration_fails, reaction_fault}
use Rattle.reaction.specs.Call.{reaction_verdict, report_words}
use Rattle.reaction.specs.Examples.{Reported}

pub examples : Reported
unfolding or_else when found first all any bit count passing least tabulate key_at value_at entry_of arc_into arc_from reached_in leads_in
    place_count transition_count net_key_limit entry_weight weight_at taken put start capacity takes_nothing is_source has_source weight_count key_fails found_at found_by
    finding sizes_pass weight_fails net_reply petri.initial petri.fired_count petri.fire petri.fire_all tests.holds_enough tests.holds_taken tests.room_at tests.has_room tests.enabled
    tests.takes_nothing tests.is_source tests.takes_alike tests.takes_same tests.both_draw tests.shares_place tests.shares_alike tests.free_choice tests.same_choice
    words.entry_key words.entry_value words.entry_with_key words.arc_keys words.key_limit words.arc_entry words.arc words.count_at words.marking words.is_arc words.arc_node words.arc_transition
    tests.offers tests.offers_as_source tests.is_await tests.offers_some tests.first_offered
    tests.offers_as_choice tests.offers_one_choice_set check.sizes_pass check.target_fails check.count_fails check.value_fails check.words_fault
    check.arc_holds check.arc_has_room check.lands_at check.arc_lands check.graph_fault check.schedule_fault check.schedule_reply
    busy_part joined over arc_time to_go best worst on_loop duration_count early late strung pair_at row_at report shape_passes duration_fails reaction_fault reaction_verdict report_words
examples = refl
