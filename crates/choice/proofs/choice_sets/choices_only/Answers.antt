use Rattle.scan.proofs.Basics.{ℕ, arith, rules, ◌≡◌, ◌∙◌, List, length-set}
use Prim.Native.Nat.{min}
use Rattle.scan.proofs.Tabulate.{stored_more}
use Rattle.net.specs.Net.{transition_count}
use Rattle.sequential.specs.Only.{only}
use Rattle.choice.specs.Rows.{net_by_rows}
use Rattle.choice.specs.Choices.{choice_of}
use Rattle.choice.proofs.Choices.{past_all, no_source, left_at, source-left}
use Rattle.choice.proofs.choice_sets.choices_only.Goals as goal

all_of : (net : List ℕ) {transitions : ℕ} → transitions ≡ min (transition_count net) 32 → transitions ≡ (net_by_rows net).transitions
unfolding net_by_rows
all_of net e = e

pub returns-then-transitions-s : goal.returns-then-transitions-s
returns-then-transitions-s c = past_all _ c.choices_of-whole.ensures _ (omega (arith, all_of _ c.transitions-transitions.ensures, c.if-transitions-s.true))

pub bounds-before-s : goal.bounds-before-s
bounds-before-s c = omega (arith, c.transitions-transitions.ensures, c.if-transitions-s.false)

pub returns-then-before-s : goal.returns-then-before-s
returns-then-before-s c = no_source _ c.choices_of-whole.ensures _ (omega (arith, all_of _ c.transitions-transitions.ensures, c.if-transitions-s.false)) c.if-before-s.true

pub loop-i-init : goal.loop-i-init
loop-i-init c = (omega arith, search rules, λ j l. absurd (omega arith))

pub bounds-before-i : goal.bounds-before-i
bounds-before-i c = omega (arith, c.transitions-transitions.ensures)

pub overflow_cast-i : goal.overflow_cast-i
overflow_cast-i c = omega (arith, c.transitions-transitions.ensures)

pub bounds-leaders-i : goal.bounds-leaders-i
bounds-leaders-i c = omega (arith, c.transitions-transitions.ensures)

pub overflow_step-i : goal.overflow_step-i
overflow_step-i c = omega (arith, c.transitions-transitions.ensures)

pub loop-i-preserved : goal.loop-i-preserved
loop-i-preserved c =
    let a = c.args in
    let e = all_of _ c.transitions-transitions.ensures in
    let (m, h, k) = c.loop-i.invariant in
    let told = left_at _ c.choices_of-whole.ensures _ (omega (arith, e, c.if-transitions-s.false)) c.if-before-s.false c.loop-i.i
    (omega (arith, e, c.loop-i-test.true)) in (
      omega arith,
      simp length-set h,
      stored_more (choice_of (only (net_by_rows a.net.now) a.s)) c.loop-i.leaders c.loop-i.i _ k (omega (arith, c.transitions-transitions.ensures)) (c.left-choice.ensures ∙ told),
    )

pub returns : goal.returns
returns c =
    let e = all_of _ c.transitions-transitions.ensures in
    record {
      leaders_are = λ t k. c.loop-i.invariant.2 t (omega (arith, e, c.loop-i-test.false));
      source_is = source-left _ c.choices_of-whole.ensures _ (omega (arith, e, c.if-transitions-s.false)) c.if-before-s.false;
    }
