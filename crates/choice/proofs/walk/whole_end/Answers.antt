use Rattle.scan.proofs.Basics.{◌<◌, arith}
use Rattle.table.specs.Table.{key_at}
use Rattle.choice.proofs.Whole.{matching-first, passed-by, matched, passed-all, row-whole}
use Rattle.choice.proofs.walk.whole_end.Goals as goal
use Rattle.choice.proofs.walk.whole_end.Goals.{then-leaders-t+else-entries-i+else-sheet-i, else-leaders-t}

pub bounds-sheet-1 : goal.bounds-sheet-1
bounds-sheet-1 c = omega (arith, c.requires.row_at.0.whole)

pub overflow_add-i : goal.overflow_add-i
overflow_add-i c = let (r, f) = c.requires.row_at in let s = c.requires.set_from in omega (arith, r.few, f.entry)

pub loop-t-init : goal.loop-t-init
loop-t-init c = let (r, f) = c.requires.row_at in let s = c.requires.set_from in (omega (arith, s.below), matching-first _ _ _ _ _ r f s)

pub bounds-leaders-t : goal.bounds-leaders-t
bounds-leaders-t c = let s = c.requires.set_from in omega (arith, s.few, s.within)

pub overflow_cast-c : goal.overflow_cast-c
overflow_cast-c c = let s = c.requires.set_from in omega (arith, s.few, s.below)

pub returns-then-entries-i : goal.returns-then-entries-i
returns-then-entries-i c h = absurd (omega arith)

pub bounds-sheet-i : goal.bounds-sheet-i
bounds-sheet-i c = omega (arith, c.requires.row_at.0.whole)

pub overflow_cast-t : goal.overflow_cast-t
overflow_cast-t c = let s = c.requires.set_from in omega (arith, s.few, s.within)

pub overflow_add-first : goal.overflow_add-first
overflow_add-first c = let (r, f) = c.requires.row_at in let s = c.requires.set_from in omega (arith, r.low, s.few, s.within)

pub returns-then-sheet-i : goal.returns-then-sheet-i
returns-then-sheet-i c h = absurd (omega arith)

pub loop-t-preserved : goal.loop-t-preserved
loop-t-preserved c =
    let (h, m) = c.loop-t.invariant in
    let s = c.requires.set_from in
    let w = s.within in
    let l : c.loop-t.t < c.args.transitions = omega (arith, c.loop-t-test.true) in (
      omega arith,
      elim c.if-leaders-t.branch [
        | then-leaders-t+else-entries-i+else-sheet-i b ↦ rw b.i-is (matched _ _ _ _ _ m l s.few b.if-leaders-t.true (omega (arith, b.if-entries-i.false)) b.if-sheet-i.false)
        | else-leaders-t b ↦ rw b.i-is (passed-by _ _ _ _ _ m l s.few b.if-leaders-t.false)
      ],
    )

pub returns-then-entries-i-2 : goal.returns-then-entries-i-2
returns-then-entries-i-2 c h =
    let (r, f) = c.requires.row_at in let s = c.requires.set_from in
    let (l, m) = c.loop-t.invariant in
    row-whole _ _ _ _ _ (passed-all _ _ _ _ _ m s (omega (arith, c.loop-t-test.false)) l) (λ k. absurd (omega (arith, c.if-entries-i-2.true))) r

pub bounds-sheet-i-2 : goal.bounds-sheet-i-2
bounds-sheet-i-2 c = omega (arith, c.requires.row_at.0.whole)

pub overflow_cast-transitions : goal.overflow_cast-transitions
overflow_cast-transitions c = omega (arith, c.requires.set_from.few)

pub overflow_add-first-2 : goal.overflow_add-first-2
overflow_add-first-2 c = let (r, f) = c.requires.row_at in let s = c.requires.set_from in omega (arith, r.low, s.few)

pub returns-then-sheet-i-2 : goal.returns-then-sheet-i-2
returns-then-sheet-i-2 c h = absurd (omega arith)

pub returns : goal.returns
unfolding key_at
returns c h =
    let (r, f) = c.requires.row_at in let s = c.requires.set_from in
    let (l, m) = c.loop-t.invariant in
    row-whole _ _ _ _ _ (passed-all _ _ _ _ _ m s (omega (arith, c.loop-t-test.false)) l) (λ k. omega (arith, c.if-sheet-i-2.false)) r
