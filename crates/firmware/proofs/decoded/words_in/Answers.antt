-- `firmware::decoded::words_in` meets its contract.
use Rattle.scan.proofs.Basics.{rules}
use Rattle.octets.proofs.Decoding.{words-fit}
use Rattle.firmware.proofs.Cut.{decoded-words}
use Rattle.firmware.proofs.decoded.words_in.Goals as goal

pub slice_bounds-result-end : goal.slice_bounds-result-end
slice_bounds-result-end c = search (words-fit, rules)

pub returns : goal.returns
returns c = search (decoded-words, rules)
