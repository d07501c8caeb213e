-- `files::print_accepted` meets its contract.
use Rattle.scan.proofs.Basics.{rules, sym}
use lib.Seq.{length-take-le}
use Rattle.judge.proofs.Judged.{accepted-readable}
use Rattle.minimal.proofs.Done.{words-accepted}
use Rattle.files.proofs.Printing.{written-form, refused-form, form-fits, bounds-fit, too-long-printed, accepted-printed}
use Rattle.files.proofs.print_accepted.Goals as goal

pub slice_bounds-bounds-end : goal.slice_bounds-bounds-end
slice_bounds-bounds-end c = search (bounds-fit, rules)

pub slice_bounds-accepted_lines-end : goal.slice_bounds-accepted_lines-end
slice_bounds-accepted_lines-end c = sym (length-take-le _ _ (search (bounds-fit, rules)))

pub slice_bounds-accepted_lines-end-in-Ok : goal.slice_bounds-accepted_lines-end-in-Ok
slice_bounds-accepted_lines-end-in-Ok c = form-fits (written-form (words-accepted _ _ c.requires) c.form_of.ensures _ c.in-Ok.is)

pub slice_bounds-accepted_lines-end-in-Ok-2 : goal.slice_bounds-accepted_lines-end-in-Ok-2
slice_bounds-accepted_lines-end-in-Ok-2 c = sym (length-take-le _ _ (form-fits (written-form (words-accepted _ _ c.requires) c.form_of.ensures _ c.in-Ok.is)))

pub returns-in-Err : goal.returns-in-Err
returns-in-Err c = search (too-long-printed, refused-form, words-accepted, rules)

pub returns-in-Ok : goal.returns-in-Ok
returns-in-Ok c =
    let h = c.requires in
    accepted-printed _ _ _ _ _ _ _ _ _ _ _ (written-form (words-accepted _ _ h) c.form_of.ensures _ c.in-Ok.is) (accepted-readable _ _ h)
    c.places-places.ensures c.bounds-bounds.ensures
    c.accepted_lines.ensures
