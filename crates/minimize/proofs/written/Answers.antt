-- `minimize::written` meets its contract.
use Rattle.scan.proofs.Basics.{rules}
use Rattle.graph.proofs.Readable.{reply-readable}
use Rattle.minimize.proofs.written.Goals as goal

pub classes-classes-requires : goal.classes-classes-requires
classes-classes-requires c = search (reply-readable, rules)

pub numbering-new-requires-clause-readable : goal.numbering-new-requires-clause-readable
numbering-new-requires-clause-readable c = search (reply-readable, rules)
