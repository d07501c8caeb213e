-- `files::check_files` meets its contract.
use Rattle.scan.proofs.Basics.{rules, sym}
use lib.Seq.{length-take-le}
use Rattle.octets.proofs.Decoding.{words-fit}
use Rattle.files.proofs.Replies.{files-read}
use Rattle.files.proofs.check_files.Goals as goal

pub slice_bounds-check_read-end : goal.slice_bounds-check_read-end
slice_bounds-check_read-end c = search (words-fit, rules)

pub slice_bounds-check_read-end-2 : goal.slice_bounds-check_read-end-2
slice_bounds-check_read-end-2 c = sym (length-take-le _ _ (search (words-fit, rules)))

pub slice_bounds-check_read-end-3 : goal.slice_bounds-check_read-end-3
slice_bounds-check_read-end-3 c = search (words-fit, rules)

pub slice_bounds-check_read-end-4 : goal.slice_bounds-check_read-end-4
slice_bounds-check_read-end-4 c = sym (length-take-le _ _ (search (words-fit, rules)))

pub returns : goal.returns
returns c = search (files-read, rules)
