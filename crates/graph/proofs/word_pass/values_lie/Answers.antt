use Rattle.scan.proofs.Basics.{arith, ◌≡◌, sym, ◌∙◌}
use native.Mathlib.Decide.{dec_lt}
use Rattle.scan.proofs.Tests.{true-false}
use Rattle.table.specs.Table.{value_at}
use Rattle.sequential.specs.Words.{entry_value}
use Rattle.graph.proofs.word_pass.values_lie.Goals as goal
use Rattle.graph.proofs.word_pass.values_lie.Goals.{else-not-lies, then-not-lies}

pub loop-i-init : goal.loop-i-init
loop-i-init c = (omega arith, λ h j k l. absurd (omega arith))

pub overflow_add-first-in-loop-i : goal.overflow_add-first-in-loop-i
overflow_add-first-in-loop-i c = let s = c.args.sheet.shape in let l = c.requires in omega (arith, s.few_entries)

pub bounds-sheet-first : goal.bounds-sheet-first
bounds-sheet-first c = let s = c.args.sheet.shape in let l = c.requires in omega (arith, s.whole)

pub returns : goal.returns
returns c h i k l = c.loop-i.invariant.1 h i k (omega arith)

pub loop-i-preserved : goal.loop-i-preserved
unfolding entry_value value_at
loop-i-preserved c =
    let w = c.loop-i in (
      omega (arith, w.invariant.0),
      elim c.if-not-lies.branch [
        | then-not-lies u ↦ λ h. true-false _ h u.lie-is
        | else-not-lies u ↦ λ h j k l. elim (dec_lt j w.i) [
          | yes m ↦ w.invariant.1 (sym u.lie-is ∙ h) j k m
          | no m ↦ let q : j ≡ w.i = omega arith in rw q (c.lies.ensures u.if-not-lies.false)
        ]
      ],
    )
