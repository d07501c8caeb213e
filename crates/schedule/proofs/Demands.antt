-- The bounds that are answered without a check of the schedule are what they are promised to be.
use Rattle.net.proofs.Checks.{net-judged}
use Rattle.sequential.specs.Petri.{petri_net}
use Rattle.sequential.proofs.Words.{words-hold}
use Rattle.graph.proofs.Readable.{readable}
use Rattle.schedule.specs.Demands.{BoundsMean}
use Rattle.schedule.proofs.BoundRows.{bounds-right}

pub bounds-mean : BoundsMean
bounds-mean net sheet i w = bounds-right net sheet (readable ((net-judged net).accepts.1 i) (words-hold (petri_net net) sheet w))
