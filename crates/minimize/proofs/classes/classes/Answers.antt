use Rattle.scan.proofs.Basics.{arith, rules, refl, sym, ◌∙◌, false}
use Rattle.scan.proofs.Tests.{true-false}
use Rattle.scan.proofs.Front.{zeros}
use Rattle.minimize.proofs.Leaders.{by-arcs, by-counts, first_reads, next-reads, round-more, round-last, rounds-done}
use Rattle.breadth_first.proofs.Along.{arcs-closed}
use Rattle.minimize.proofs.classes.classes.Goals as goal

pub round-first-requires : goal.round-first-requires
round-first-requires c = search (first_reads, zeros, rules)

pub round-classes-requires : goal.round-classes-requires
round-classes-requires c =
    let S = c.starts_of-arcs.ensures in
    next-reads (search rules) S (arcs-closed S.readable.arcs) 0 (by-counts _ _ _ (zeros 128) c.round-first.ensures) false (λ e. true-false false e refl)

pub loop-round-init : goal.loop-round-init
loop-round-init c =
    let S = c.starts_of-arcs.ensures in
    let a = arcs-closed S.readable.arcs in
    (search rules, round-more _ a 0 _ (by-counts _ _ _ (zeros 128) c.round-first.ensures) _ (by-arcs _ _ _ c.round-classes.ensures))

pub round-next-requires : goal.round-next-requires
round-next-requires c = search (next-reads, arcs-closed, rules)

pub returns-then-same_tables : goal.returns-then-same_tables
returns-then-same_tables c =
    let same = sym c.same_tables.ensures ∙ c.if-same_tables.true in
    search (round-last, arcs-closed, by-arcs, rules)

pub loop-round-preserved : goal.loop-round-preserved
loop-round-preserved c = search (round-more, arcs-closed, by-arcs, rules)

pub returns : goal.returns
returns c =
    rounds-done _ (arcs-closed c.requires.arcs) _ _ c.loop-round.invariant.1 (omega arith)
