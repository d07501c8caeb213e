-- The rows of worked examples hold: one computation of the definitions for a table, and one law that carries it to the calls.
use Rattle.std.specs.Prelude.{Err, Ok}
use Rattle.refusal.specs.Refusal.{Verdict}
use Rattle.scan.proofs.Basics.{ℕ, ◌≤◌, arith, ◌≡◌, refl, ap, ◌∙◌, List, [], ◌∷◌, length, take}
use mathlib.Core.List.{map}
use Rattle.scan.specs.Scan.{or_else, when, found, first, all, any, bit, count, passing, least, tabulate}
use Rattle.table.specs.Table.{key_at, value_at, entry_of}
use Rattle.table.specs.Keys.{key_fails}
use Rattle.refusal.specs.Finding.{found_at, found_by, finding}
use Rattle.automaton.specs.Reach.{arc_into, arc_from, reached_in, leads_in}
use Rattle.automaton.specs.Equivalence.{equal_labels, agree, same_in, same}
use Rattle.automaton.specs.BreadthFirst.{class_at, index_of, enter, expand, explored, order}
use Rattle.automaton.specs.Quotient.{merged, minimal_by, minimal}
use Rattle.net.specs.Net.{place_count, transition_count, net_key_limit, entry_weight, weight_at, taken, put, start, capacity, takes_nothing, is_source, has_source, weight_count}
use Rattle.net.specs.Check.{sizes_pass, weight_fails, net_reply}
use Rattle.sequential.specs.Petri as petri
use Rattle.sequential.specs.Words as words
use Rattle.sequential.specs.Tests as tests
use Rattle.sequential.specs.Check as check
use Rattle.sequential.specs.Check.{schedule_reply}
use Rattle.judge.specs.Answer.{counts_of, plain_check, CheckAnswer}
use Rattle.lending.specs.Call.{answer_of}
use Rattle.lending.specs.Demands.{own}
use Rattle.lending.proofs.Laws.{call-enough}
use Rattle.lending.proofs.Done.{own-refused}
use Rattle.refusal.specs.Limits.{scratch_limit}
use Rattle.lending.proofs.Judged.{words-judged-none, judges-same}
use Rattle.sequential.proofs.Accepted.{schedule-judged}
use Rattle.schedule.specs.Calls.{check_core, CheckDone}
use Rattle.encoding.specs.Encoding as encoding
use Rattle.minimal.specs.Minimal.{minimal_form}
use Rattle.minimal.specs.Form.{plain_form, FormDone, FormAnswer}
use Rattle.minimal.proofs.Minimal.{form-short}
use Rattle.minimal.proofs.Done.{form-law}
use Rattle.demands.specs.Examples.{Row, starred, further, capped, Holds, AllHold, Starred, FurtherRows, CappedRows}
use Rattle.demands.proofs.Demand3.{form-zero, made-form}

-- ---- what a row computes

abbrev pub answered : Row → List ℕ
answered r = plain_check (answer_of (check_core r.net r.sheet) (schedule_reply r.net r.sheet))

-- the minimal form of an accepted one
abbrev pub form_where : Verdict → List ℕ → List ℕ → List ℕ
form_where (Ok tt) net sheet = minimal_form net sheet
form_where (Err r) net sheet = []

abbrev pub formed : Row → List ℕ
formed r = form_where (schedule_reply r.net r.sheet) r.net r.sheet

-- ---- and what the calls answer

check-answers : (net sheet s s' : List ℕ) (a : CheckAnswer) → scratch_limit ≤ length s → CheckDone net sheet s a s' → a ≡ answer_of (check_core net sheet) (schedule_reply net sheet)
check-answers net sheet s s' a l d =
    let j = schedule-judged net sheet in
    d.reply ∙ ap (answer_of (check_core net sheet))
    (call-enough (check_core net sheet) [] scratch_limit (length s) l ∙ judges-same _ _ _ (words-judged-none (check_core net sheet) [] j refl) j)

form-answers : (net sheet out s out' s' : List ℕ) (a : FormAnswer) → scratch_limit ≤ length s → 8194 ≤ length out → FormDone net sheet out s a out' s'
    → take (own (plain_form a) 0) out' ≡ form_where (schedule_reply net sheet) net sheet
form-answers net sheet out s out' s' a l m d = go (schedule_reply net sheet) refl
  where
    go : (v : Verdict) → schedule_reply net sheet ≡ v → take (own (plain_form a) 0) out' ≡ form_where v net sheet
    go (Ok tt) e =
        let z = (form-zero net sheet d).1 (l, e, omega (arith, form-short net sheet e)) in
        made-form net sheet (record { limit = scratch_limit; out = out; scratch = s; answer = a; out' = out'; scratch' = s'; done = d; zero = z })
    go (Err r) e =
        let n = own-refused (form-law net sheet) d (λ z. let q = ((form-zero net sheet d).0 z).1 in let x : ◌≡◌ {A = ℕ} 0 1 = cc in omega arith) 0 in
        ap (λ (k : ℕ). take k out') n

pub row-holds : (r : Row) → answered r ≡ r.answer → formed r ≡ r.form → Holds r
row-holds r p q = record {
  checked = λ s s' a l d. ap plain_check (check-answers r.net r.sheet s s' a l d) ∙ p;
  formed = λ out s out' s' a l m d. form-answers r.net r.sheet out s out' s' a l m d ∙ q;
}

-- ---- tables

abbrev TableHolds : List Row → Type 0
TableHolds rs = (map answered rs ≡ map (λ r. r.answer) rs) × (map formed rs ≡ map (λ r. r.form) rs)

table-holds : (rs : List Row) → TableHolds rs → AllHold rs
table-holds [] h = tt
table-holds (r ∷ rs) (p, q) = (row-holds r (cc p) (cc q), table-holds rs (cc p, cc q))

-- what a check and the minimal form compute with, opened together
unfoldable pub checking : Unit {0}
unfolding or_else when found first all any bit count passing least tabulate key_at value_at entry_of arc_into arc_from reached_in leads_in
    place_count transition_count net_key_limit entry_weight weight_at taken put start capacity takes_nothing is_source has_source weight_count key_fails found_at found_by
    finding sizes_pass weight_fails net_reply tests.holds_enough tests.holds_taken tests.room_at tests.has_room petri.fired_count tests.takes_nothing tests.is_source
    tests.takes_alike tests.takes_same tests.both_draw tests.shares_place tests.shares_alike tests.free_choice tests.same_choice
    words.entry_key words.entry_value words.entry_with_key words.arc_keys words.key_limit words.arc_entry
    words.arc words.count_at words.marking tests.offers tests.offers_as_source tests.is_await tests.offers_some tests.first_offered
    tests.offers_as_choice tests.offers_one_choice_set check.sizes_pass check.target_fails check.count_fails words.is_arc check.value_fails check.words_fault
    words.arc_node words.arc_transition check.arc_holds check.arc_has_room check.lands_at check.arc_lands check.graph_fault check.schedule_fault check.arc_count
    check.await_count schedule_reply counts_of
checking = tt

unfoldable pub forming : Unit {0}
unfolding class_at index_of enter expand explored order merged minimal_by encoding.gather encoding.gather_rows encoding.key_of_arc encoding.held
    encoding.key_of_count encoding.value_of_count encoding.keys encoding.values encoding.encode
forming = tt

-- one computation for all tables
computed : TableHolds starred × TableHolds further × TableHolds capped
unfolding checking forming equal_labels agree same_in same minimal minimal_form
computed = ((refl, refl), (refl, refl), (refl, refl))

pub starred-holds : Starred
starred-holds = table-holds starred computed.0

pub further-holds : FurtherRows
further-holds = table-holds further computed.1

pub capped-holds : CappedRows
capped-holds = table-holds capped computed.2
