-- `net::source_check::has_source` meets its contract: no transition before the counter is a source.
use Rattle.scan.proofs.Basics.{◌≤◌, ◌≡◌, false}
use Rattle.scan.specs.Scan.{any}
use Rattle.net.specs.Net.{is_source}
use Rattle.net.proofs.source_check.has_source.Given as goal

abbrev pub invariant-loop-t : goal.invariant-loop-t
invariant-loop-t l = (l.t ≤ l.transitions) × (any (is_source l.net.words.now) l.t ≡ false)
