use Rattle.scan.proofs.Basics.{ℕ, arith, rules, ◌∙◌, length-set}
use lib.ListN.{get_or-replicate}
use Rattle.scan.proofs.Tabulate.{stored_more}
use Rattle.automaton.proofs.Leader.{leader-le}
use Rattle.sequential.specs.Tests.{takes_same}
use Rattle.choice.specs.Rows.{net_by_rows}
use Rattle.choice.specs.Choices.{choice_of}
use Rattle.choice.proofs.Choices.{none-removed, nothing-noted, noted_more, noted-choice}
use Rattle.choice.proofs.choice_sets.choices_of.Goals as goal

pub loop-i-init : goal.loop-i-init
unfolding net_by_rows
loop-i-init c =
    let e = c.transitions-transitions.ensures in
    (omega arith, search rules, search rules, λ j l. absurd (omega arith), λ j l. rw (get_or-replicate {A = ℕ} 32 j 0 0 l) (nothing-noted _ j), e, omega (arith, e))

pub least_alike-leader-requires : goal.least_alike-leader-requires
least_alike-leader-requires c = record { first_places = c.first_places-firsts.ensures; t_bound = omega (arith, c.loop-i-test.true, c.loop-i.invariant.5) }

-- a least transition is below 32
pub bounds-notes-l : goal.bounds-notes-l
bounds-notes-l c = omega (arith, leader-le (takes_same (net_by_rows c.args.net.now)) c.loop-i.i, c.least_alike-leader.ensures)

pub noted-note-requires : goal.noted-note-requires
noted-note-requires c = c.loop-i.invariant.4 _ (omega (arith, leader-le (takes_same (net_by_rows c.args.net.now)) c.loop-i.i, c.least_alike-leader.ensures))

pub bounds-notes-l-in-loop-i : goal.bounds-notes-l-in-loop-i
bounds-notes-l-in-loop-i c = omega (arith, leader-le (takes_same (net_by_rows c.args.net.now)) c.loop-i.i, c.least_alike-leader.ensures)

pub loop-i-preserved : goal.loop-i-preserved
loop-i-preserved c =
    let N = net_by_rows c.args.net.now in
    let (m, h, k, r, n, e, few) = c.loop-i.invariant in
    let told = c.noted-note.ensures in
    let q = c.least_alike-leader.ensures in (
      omega arith,
      simp length-set h,
      simp length-set k,
      stored_more (choice_of N) c.loop-i.leaders c.loop-i.i _ r (omega arith) (c.chosen-choice.ensures ∙ noted-choice N (none-removed _) _ _ _ q told),
      noted_more N c.loop-i.notes _ _ n (omega (arith, leader-le (takes_same N) c.loop-i.i, q)) told.noted,
      e,
      few,
    )

pub first_source-requires : goal.first_source-requires
first_source-requires c = c.first_places-firsts.ensures

pub returns : goal.returns
returns c =
    record {
      leaders_are = λ t k. c.loop-i.invariant.3 t (omega (arith, c.loop-i.invariant.5));
      source_is = c.first_source.ensures;
    }
