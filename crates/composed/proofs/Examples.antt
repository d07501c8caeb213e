-- The table of compositions holds: one computation of the definitions.
use Rattle.scan.proofs.Basics.{◌≡◌, refl}
use Rattle.scan.specs.Scan.{or_else, when, found, first, all, any, bit, count, passing, least, sum, tabulate}
use Rattle.table.specs.Table.{key_at, value_at, entry_of}
use Rattle.table.specs.Keys.{key_fails}
use Rattle.refusal.specs.Finding.{found_at, found_by, finding}
use Rattle.automaton.specs.Reach.{arc_into, arc_from, reached_in, leads_in}
use Rattle.automaton.specs.BreadthFirst.{class_at, index_of, enter, expand, explored, order}
use Rattle.automaton.specs.Quotient.{merged, minimal_by}
use Rattle.net.specs.Net.{place_count, transition_count, entry_weight, weight_at, taken, put, start, capacity, weight_count}
use Rattle.sequential.specs.Petri as petri
use Rattle.sequential.specs.Words as words
use Rattle.sequential.specs.Tests as tests
use Rattle.sequential.specs.Check as check
use Rattle.sequential.specs.Only as only
use Rattle.encoding.specs.Encoding as encoding
use Rattle.composed.specs.Tuples.{tuples, component, replaced}
use Rattle.composed.specs.Product as product
use Rattle.composed.specs.Composed as composed
use Rattle.composed.specs.Sheet as sheet
use Rattle.composed.specs.Fault as fault
use Rattle.composed.specs.Examples.{table, faults_of, expected_faults, words_of, expected_words, indices_of, expected_indices}

-- what the check of a sheet computes with, opened together
unfoldable pub checking : Unit {0}
unfolding or_else when found first all any bit count passing least sum tabulate key_at value_at entry_of arc_into arc_from reached_in leads_in
    place_count transition_count entry_weight weight_at taken put start capacity weight_count key_fails found_at found_by finding
    tests.holds_enough tests.holds_taken tests.room_at tests.has_room tests.enabled petri.fired_count tests.takes_nothing tests.is_source
    tests.takes_alike tests.takes_same tests.both_draw tests.shares_place tests.shares_alike tests.free_choice tests.same_choice
    words.entry_key words.entry_value words.entry_with_key words.arc_keys words.key_limit words.arc_entry
    words.arc words.count_at words.marking tests.offers tests.offers_as_source tests.is_await tests.offers_some tests.first_offered
    tests.offers_as_choice tests.offers_one_choice_set check.sizes_pass check.target_fails check.count_fails words.is_arc check.value_fails check.words_fault
    words.arc_node words.arc_transition check.arc_holds check.arc_has_room check.lands_at check.arc_lands check.graph_fault check.schedule_fault
    only.is_source_of only.is_removed
checking = tt

-- and what is composed
unfoldable pub composing : Unit {0}
unfolding class_at index_of enter expand explored order merged minimal_by encoding.gather encoding.gather_rows encoding.key_of_arc encoding.held
    encoding.key_of_count encoding.value_of_count encoding.keys encoding.values encoding.encode tuples component replaced
    product.awaits product.waiting product.busy product.all_await product.has_source product.turn product.step_of product.step product.held_by
    product.held_by_all product.held_at product.marking product.product composed.trimmed composed.composed composed.disabled_by composed.disabled_at
    composed.is_dependent sheet.sources sheet.composed_sheet fault.number_fails fault.sheet_fault fault.too_many fault.count_exceeds fault.counts_exceed
    fault.limits_exceeded fault.entries_exceed fault.compose_fault fault.sheet_fails fault.refused_sheet
composing = tt

pub faults-hold : faults_of table ≡ expected_faults table
unfolding checking composing
faults-hold = refl

pub words-hold : words_of table ≡ expected_words table
unfolding checking composing
words-hold = refl

pub indices-hold : indices_of table ≡ expected_indices table
unfolding checking composing
indices-hold = refl
