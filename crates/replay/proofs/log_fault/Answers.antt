-- `replay::log_fault` meets its contract.
use Rattle.scan.proofs.Basics.{rules}
use Rattle.replay.specs.Log.{firing_count}
use Rattle.replay.proofs.Logs.{no_word, too_many_lem, other_length, log_passes}
use Rattle.replay.proofs.log_fault.Goals as goal

pub returns-then-log-lt1 : goal.returns-then-log-lt1
returns-then-log-lt1 c = search (no_word, rules)

pub returns-then-n-gt-FIRINGS : goal.returns-then-n-gt-FIRINGS
unfolding firing_count
returns-then-n-gt-FIRINGS c = search (too_many_lem, rules)

pub returns-then-log-n : goal.returns-then-log-n
unfolding firing_count
returns-then-log-n c = search (other_length, rules)

pub returns : goal.returns
unfolding firing_count
returns c = search (log_passes, rules)
