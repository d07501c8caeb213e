-- The tables of worked files and of all that is printed hold: one computation of the definitions for each.
use Rattle.scan.proofs.Basics.{◌≡◌, refl}
use Rattle.scan.specs.Scan.{or_else, when, found, first, all, any, bit, count, passing, least, tabulate, greatest}
use Rattle.table.specs.Table.{key_at, value_at, entry_of}
use Rattle.table.specs.Keys.{key_fails}
use Rattle.refusal.specs.Finding.{found_at, found_by, finding}
use Rattle.automaton.specs.Reach.{arc_into, arc_from, reached_in, leads_in}
use Rattle.automaton.specs.Equivalence.{equal_labels, agree, same_in, same}
use Rattle.automaton.specs.BreadthFirst.{class_at, index_of, enter, expand, explored, order}
use Rattle.automaton.specs.Quotient.{merged, minimal_by, minimal}
use Rattle.net.specs.Net.{place_count, transition_count, net_key_limit, entry_weight, weight_at, taken, put, start, capacity, takes_nothing, is_source, has_source, weight_count}
use Rattle.net.specs.Check.{sizes_pass, weight_fails, net_reply}
use Rattle.sequential.specs.Petri as petri
use Rattle.sequential.specs.Words as words
use Rattle.sequential.specs.Tests as tests
use Rattle.sequential.specs.Check as check
use Rattle.sequential.specs.Bounds.{held_at, bound, bounds}
use Rattle.judge.specs.Answer.{counts_of}
use Rattle.encoding.specs.Encoding as encoding
use Rattle.minimal.specs.Minimal.{minimal_form}
use Rattle.text.specs.Decimal.{digits, decimal}
use Rattle.text.specs.Lines as lines
use Rattle.octets.specs.Words.{word_from, word_at, is_long, is_ragged, word_count, words_of}
use Rattle.files.specs.Program.{read_reply, read_answer, files_answer, program_answer}
use Rattle.files.specs.Printed.{refused_text, text_of, printed}
use Rattle.files.specs.Examples.{table, readings, words_in, tails, tails_in, SamplesPrinted}

pub table-read : readings table ≡ words_in table
unfolding tabulate word_from word_at is_long word_count words_of
table-read = refl

pub table-tails : tails table ≡ tails_in table
unfolding is_long is_ragged
table-tails = refl

pub samples-printed : SamplesPrinted
unfolding or_else when found first all any bit count passing least tabulate greatest key_at value_at entry_of arc_into arc_from reached_in leads_in
    place_count transition_count net_key_limit entry_weight weight_at taken put start capacity takes_nothing is_source has_source weight_count key_fails found_at found_by
    finding sizes_pass weight_fails net_reply tests.holds_enough tests.holds_taken tests.room_at tests.has_room petri.fired_count tests.takes_nothing tests.is_source
    tests.takes_alike tests.takes_same tests.both_draw tests.shares_place tests.shares_alike tests.free_choice tests.same_choice
    words.entry_key words.entry_value words.entry_with_key words.arc_keys words.key_limit words.arc_entry
    words.arc words.count_at words.marking tests.offers tests.offers_as_source tests.is_await tests.offers_some tests.first_offered
    tests.offers_as_choice tests.offers_one_choice_set check.sizes_pass check.target_fails check.count_fails words.is_arc check.value_fails check.words_fault
    words.arc_node words.arc_transition check.arc_holds check.arc_has_room check.lands_at check.arc_lands check.graph_fault check.schedule_fault check.arc_count
    check.await_count check.schedule_reply equal_labels agree same_in same class_at index_of enter expand explored order merged minimal_by minimal encoding.gather
    encoding.gather_rows encoding.key_of_arc encoding.held encoding.key_of_count encoding.value_of_count encoding.keys encoding.values encoding.encode
    minimal_form held_at bound bounds counts_of digits decimal lines.field lines.joined lines.answer_text lines.answer_line lines.counts_line lines.bound_line
    lines.bound_line_of lines.bound_lines lines.word_of lines.words_text lines.form_line lines.accepted_lines word_from word_at is_long is_ragged word_count words_of
    read_reply read_answer files_answer program_answer refused_text text_of printed
samples-printed = refl
