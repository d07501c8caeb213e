-- `replay::look_up::arc` meets its contract: a guess is taken where its key is the arc's, and what is looked up has a rank in its row.
use Rattle.scan.proofs.Basics.{arith, rules, sym, ◌∙◌}
use Rattle.replay.proofs.LookUp.{key-low, start-low, no-transition, guess-hit, in_row, ranked}
use Rattle.replay.proofs.look_up.arc.Goals as goal

pub returns-then-transitions-t : goal.returns-then-transitions-t
returns-then-transitions-t c = search (no-transition, rules)

pub overflow_cast-start-2 : goal.overflow_cast-start-2
overflow_cast-start-2 c = omega (arith, start-low)

pub overflow_cast-guess-2 : goal.overflow_cast-guess-2
overflow_cast-guess-2 c =
    let w = c.requires.looks_up in let k = c.requires.ranks in
    omega (arith, k.low c.args.t (omega arith))

pub overflow_add-guess : goal.overflow_add-guess
overflow_add-guess c =
    let w = c.requires.looks_up in let k = c.requires.ranks in
    omega (arith, start-low w, k.low c.args.t (omega arith))

pub overflow_cast-keys : goal.overflow_cast-keys
overflow_cast-keys c = omega (arith, key-low)

pub overflow_add-keys : goal.overflow_add-keys
overflow_add-keys c = omega (arith, key-low)

pub returns-then-sheet-guess : goal.returns-then-sheet-guess
returns-then-sheet-guess c = search (guess-hit, rules)

pub overflow_sub-ranks : goal.overflow_sub-ranks
overflow_sub-ranks c =
    let w = c.requires.looks_up in let k = c.requires.ranks in
    omega (arith, (in_row w _ (sym c.arc-found.ensures ∙ c.in-Some.is)).0)

pub overflow_cast-ranks : goal.overflow_cast-ranks
overflow_cast-ranks c =
    let w = c.requires.looks_up in let k = c.requires.ranks in
    omega (arith, (in_row w _ (sym c.arc-found.ensures ∙ c.in-Some.is)).1)

pub returns-in-Some : goal.returns-in-Some
returns-in-Some c =
    let w = c.requires.looks_up in let k = c.requires.ranks in
    (sym c.in-Some.is ∙ c.arc-found.ensures, ranked _ k (omega (arith, (in_row w _ (sym c.arc-found.ensures ∙ c.in-Some.is)).1)))
