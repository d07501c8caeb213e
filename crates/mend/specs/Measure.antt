-- What is known before anything is written: the verdict, the arcs that found the nodes, and how many entries and changes there are. No contract of a public
-- function cites it.
use Rattle.refusal.specs.Refusal.{Verdict}
use Rattle.std.specs.Prelude.{ℕ, ◌≤◌, ◌≡◌, List, length, Result, Ok}
use Rattle.scan.specs.Scan.{or_else, first}
use Rattle.refusal.specs.Limits.{most_entries}
use Rattle.refusal.specs.Verdict.{verdict_alone, verdict_of, and_then}
use Rattle.refusal.specs.declared.Refusal.{Refusal}
use Rattle.sequential.specs.Petri.{petri_net}
use Rattle.sequential.specs.Words.{node_count}
use Rattle.sequential.specs.Check.{node_fault, root_fault, reach_fault, return_fault}
use Rattle.graph.specs.Readable.{arcs_reply}
use Rattle.encoding.specs.declared.Section.TheVariants.{CountKeys}
use Rattle.mended.specs.Mend.{mend_verdict}
use Rattle.mend.specs.Rows.{Mendable}
use Rattle.mend.specs.Writing.{part_of, entries_of}
use Rattle.mend.specs.declared.measure.Measure.{Measure}
use Rattle.mend.specs.declared.writer.Part.TheVariants.{Changes}

-- all checks before those of the counts: §7.62
unfoldable pub arcs_verdict : List ℕ → List ℕ → Verdict
arcs_verdict net sheet =
    let N = petri_net net in
    and_then (arcs_reply net sheet) (verdict_of (or_else (or_else (first (node_fault N sheet) (node_count sheet)) (root_fault N sheet))
    (or_else (first (reach_fault N sheet) (node_count sheet)) (first (return_fault N sheet) (node_count sheet)))))

-- what is known if nothing is refused
pub record Ready (net sheet : List ℕ) (m : Measure) : Type 0 where
  pub mendable : Mendable net sheet m.parent
  pub entries_are : m.entries ≡ entries_of net sheet
  pub few_entries : m.entries ≤ most_entries
  pub changes_are : m.changes ≡ length (part_of net sheet Changes CountKeys)

pub record Measured (net sheet : List ℕ) (answer : Result Measure Refusal) : Type 0 where
  pub reply : verdict_alone answer ≡ mend_verdict net sheet
  pub ready : (m : Measure) → answer ≡ Ok m → Ready net sheet m
