use Rattle.scan.proofs.Basics.{arith, refl, ◌∙◌, length-set}
use mir.Syntax.{w64}
use mir.ValLaws.{to_z-of_z}
use lib.IntN.{pos}
use Rattle.plainly.specs.Numbers.{taken_cell, change_cell}
use Rattle.plainly.proofs.Signed.{stored_one, same-change}
use Rattle.net.proofs.Laws.{accessors}
use Rattle.scan.proofs.Tabulate.{tabulate-at, stored_more}
use Rattle.plainly.proofs.spreading.spread_net.Goals as goal

pub returns : goal.returns
returns c =
    let (y, z, u, w) = c.loop-i.invariant in
    let a = accessors _ c.requires in (
      record {
        places_are = c.places.ensures;
        transitions_are = c.transitions.ensures;
        starts_are = λ p l. rw (c.start_row-starts.ensures, a.starts_row) (tabulate-at _ 0 32 p l);
        capacities_are = λ p l. rw (c.capacity_row-capacities.ensures, a.capacities_row) (tabulate-at _ 0 32 p l);
        taken_is = λ i l. u i (omega arith);
        change_is = λ i l. w i (omega arith);
      },
      refl,
    )

pub loop-i-preserved : goal.loop-i-preserved
loop-i-preserved c =
    let (y, z, u, w) = c.loop-i.invariant in
    let a = accessors _ c.requires in
    let i = c.loop-i.i in
    let takes = c.taken-takes.ensures ∙ a.takes _ _ in
    let changes = c.change_of.ensures ∙ same-change (c.put.ensures ∙ a.puts _ _) takes in (
      simp length-set y,
      simp length-set z,
      stored_more (taken_cell _) c.loop-i.taken i _ u (omega arith) takes,
      stored_one (change_cell _) (pos 0) c.loop-i.change i _ w (omega arith)
          (to_z-of_z w64 c.change_of.result (record { sfits = c.change_of.type_inv }) ∙ changes),
    )
