-- `files::print_files` meets its contract.
use Rattle.scan.proofs.Basics.{rules, sym}
use lib.Seq.{length-take-le}
use Rattle.octets.proofs.Decoding.{words-fit}
use Rattle.files.proofs.Replies.{files-accepted, refused-files, accepted-files}
use Rattle.files.proofs.print_files.Goals as goal

pub slice_bounds-print_accepted-end : goal.slice_bounds-print_accepted-end
slice_bounds-print_accepted-end c = search (words-fit, rules)

pub slice_bounds-print_accepted-end-in-Ok : goal.slice_bounds-print_accepted-end-in-Ok
slice_bounds-print_accepted-end-in-Ok c = sym (length-take-le _ _ (search (words-fit, rules)))

pub slice_bounds-print_accepted-end-in-Ok-2 : goal.slice_bounds-print_accepted-end-in-Ok-2
slice_bounds-print_accepted-end-in-Ok-2 c = search (words-fit, rules)

pub slice_bounds-print_accepted-end-in-Ok-3 : goal.slice_bounds-print_accepted-end-in-Ok-3
slice_bounds-print_accepted-end-in-Ok-3 c = sym (length-take-le _ _ (search (words-fit, rules)))

pub print_accepted-requires : goal.print_accepted-requires
print_accepted-requires c = search (files-accepted, rules)

pub returns-in-Err : goal.returns-in-Err
returns-in-Err c = search (refused-files, rules)

pub returns-in-Ok : goal.returns-in-Ok
returns-in-Ok c = search (accepted-files, rules)
