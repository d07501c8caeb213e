-- The rows of trimmed schedules hold: one computation of the definitions.
use Rattle.scan.proofs.Basics.{refl}
use Rattle.scan.specs.Scan.{or_else, when, found, first, all, any, bit, count, passing, least, tabulate}
use Rattle.table.specs.Table.{key_at, value_at, entry_of}
use Rattle.table.specs.Keys.{key_fails}
use Rattle.refusal.specs.Finding.{found_at, found_by, finding}
use Rattle.automaton.specs.Reach.{arc_into, arc_from, reached_in}
use Rattle.net.specs.Net.{place_count, transition_count, net_key_limit, entry_weight, weight_at, taken, put, start, capacity, takes_nothing, is_source, has_source, weight_count}
use Rattle.net.specs.Check.{sizes_pass, weight_fails, net_reply}
use Rattle.sequential.specs.Words as words
use Rattle.sequential.specs.Check as check
use Rattle.graph.specs.Readable.{words_reply}
use Rattle.encoding.specs.Encoding as encoding
use Rattle.trimmed.specs.Trim.{is_kept, old_numbers, new_number, trimmed_graph, trimmed_words, kept_list}
use Rattle.trimmed.specs.Examples.{TrimmedExamples}

pub examples : TrimmedExamples
unfolding or_else when found first all any bit count passing least tabulate key_at value_at entry_of arc_into arc_from reached_in
    place_count transition_count net_key_limit entry_weight weight_at taken put start capacity takes_nothing is_source has_source weight_count key_fails found_at found_by
    finding sizes_pass weight_fails net_reply
    words.entry_key words.entry_value words.entry_with_key words.arc_keys words.key_limit words.arc_entry words.arc words.count_at words.marking
    check.sizes_pass check.target_fails check.count_fails check.value_fails check.words_fault words_reply
    encoding.gather encoding.gather_rows encoding.key_of_arc encoding.held encoding.key_of_count encoding.value_of_count encoding.keys encoding.values encoding.encode
    is_kept old_numbers new_number trimmed_graph trimmed_words kept_list
examples = refl
