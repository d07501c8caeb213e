-- `mend::measure::measured` meets its contract.
use Rattle.std.specs.Prelude.{Ok}
use Rattle.scan.proofs.Basics.{◌+◌, arith, ◌≡◌, sym, ◌∙◌}
use Rattle.graph.proofs.ArcCount.{arc-count-right}
use Rattle.refusal.proofs.Verdicts.{passed_on}
use Rattle.mend.specs.Rows.{Mendable}
use Rattle.mend.specs.Writing.{entries_of}
use Rattle.mend.specs.Measure.{arcs_verdict}
use Rattle.mend.proofs.Writes.{entries-most}
use Rattle.mend.proofs.Measuring.{before-readable, before-reached, before-refused, place-measured, entries-measured, all-measured}
use Rattle.mend.proofs.measure.measured.Goals as goal

pub returns-in_err-checked : goal.returns-in_err-checked
returns-in_err-checked c = before-refused _ _ c.checked.ensures c.in_err-checked.was (passed_on _ c.from_residual.ensures.1)

pub search-nodes-requires : goal.search-nodes-requires
search-nodes-requires c =
    let passed : let s = c.args in arcs_verdict s.net.now s.sheet.now ≡ Ok tt = sym c.checked.ensures ∙ c.in_ok-checked.was in
    record { arcs_readable = before-readable _ _ passed; leads_to_all = before-reached _ _ passed }

pub returns-then-not-all_fit : goal.returns-then-not-all_fit
returns-then-not-all_fit c =
    let passed : let s = c.args in arcs_verdict s.net.now s.sheet.now ≡ Ok tt = sym c.checked.ensures ∙ c.in_ok-checked.was in
    place-measured _ _ passed (c.all_fit.ensures.wrong (c.if-not-all_fit.true)) c.no_counts.ensures

pub counted-requires : goal.counted-requires
counted-requires c =
    let mendable : let s = c.args in Mendable s.net.now s.sheet.now c.search-nodes.result.parent = let F = c.search-nodes.ensures in
    record {
      fitting = record { readable = F.readable; fit = c.all_fit.ensures.right (c.if-not-all_fit.false) };
      tree = record { order = _; size = _; found = F };
    } in
    mendable

pub overflow_add-entries : goal.overflow_add-entries
unfolding entries_of
overflow_add-entries c =
    let mendable : let s = c.args in Mendable s.net.now s.sheet.now c.search-nodes.result.parent = let F = c.search-nodes.ensures in
    record {
      fitting = record { readable = F.readable; fit = c.all_fit.ensures.right (c.if-not-all_fit.false) };
      tree = record { order = _; size = _; found = F };
    } in
    let are : let s = c.args in c.arc_count-arcs.result + c.counted.result ≡ entries_of s.net.now s.sheet.now = rw (
      ← arc-count-right _ _ mendable.fitting.readable,
      ← c.arc_count-arcs.ensures,
      ← c.counted.ensures,
    ) in
    omega (arith, are, entries-most _ _ mendable.fitting.readable)

pub returns-then-entries : goal.returns-then-entries
unfolding entries_of
returns-then-entries c =
    let passed : let s = c.args in arcs_verdict s.net.now s.sheet.now ≡ Ok tt = sym c.checked.ensures ∙ c.in_ok-checked.was in
    let mendable : let s = c.args in Mendable s.net.now s.sheet.now c.search-nodes.result.parent = let F = c.search-nodes.ensures in
    record {
      fitting = record { readable = F.readable; fit = c.all_fit.ensures.right (c.if-not-all_fit.false) };
      tree = record { order = _; size = _; found = F };
    } in
    let are : let s = c.args in c.arc_count-arcs.result + c.counted.result ≡ entries_of s.net.now s.sheet.now = rw (
      ← arc-count-right _ _ mendable.fitting.readable,
      ← c.arc_count-arcs.ensures,
      ← c.counted.ensures,
    ) in
    entries-measured _ _ passed (omega (arith, are)) c.no_counts-then-entries.ensures

pub counted-changes-requires : goal.counted-changes-requires
counted-changes-requires c =
    let mendable : let s = c.args in Mendable s.net.now s.sheet.now c.search-nodes.result.parent = let F = c.search-nodes.ensures in
    record {
      fitting = record { readable = F.readable; fit = c.all_fit.ensures.right (c.if-not-all_fit.false) };
      tree = record { order = _; size = _; found = F };
    } in
    mendable

pub returns : goal.returns
unfolding entries_of
returns c =
    let passed : let s = c.args in arcs_verdict s.net.now s.sheet.now ≡ Ok tt = sym c.checked.ensures ∙ c.in_ok-checked.was in
    let mendable : let s = c.args in Mendable s.net.now s.sheet.now c.search-nodes.result.parent = let F = c.search-nodes.ensures in
    record {
      fitting = record { readable = F.readable; fit = c.all_fit.ensures.right (c.if-not-all_fit.false) };
      tree = record { order = _; size = _; found = F };
    } in
    let are : let s = c.args in c.arc_count-arcs.result + c.counted.result ≡ entries_of s.net.now s.sheet.now = rw (
      ← arc-count-right _ _ mendable.fitting.readable,
      ← c.arc_count-arcs.ensures,
      ← c.counted.ensures,
    ) in
    all-measured _ _ passed (record {
      mendable = mendable;
      entries_are = are;
      few_entries = omega arith;
      changes_are = c.counted-changes.ensures;
    })
