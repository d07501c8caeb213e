-- The rows of a node and the look-up of an arc are what they are promised to be.
use Rattle.scan.proofs.Basics.{ℕ, refl, List}
use Rattle.net.specs.Checks.{IsNet}
use Rattle.net.proofs.Checks.{net-judged}
use Rattle.sequential.specs.Checks.{WordsPass}
use Rattle.sequential.specs.Petri.{petri_net}
use Rattle.sequential.specs.Words.{arc}
use Rattle.sequential.proofs.Words.{words-hold, arcs-hold}
use Rattle.graph.specs.Readable.{ArcsReadable}
use Rattle.graph.specs.Demands.{RowsMean, ArcCountMeans, ArcLookUpMeans}
use Rattle.graph.proofs.Readable.{arcs-readable}
use Rattle.graph.proofs.Rows.{marking-right, arcs-right, counts-right, count_held}
use Rattle.graph.proofs.LookUp.{look-up-right}
use Rattle.graph.proofs.ArcCount.{arc-count-right}

readable : {net sheet : List ℕ} → IsNet net → WordsPass (petri_net net) sheet → ArcsReadable net sheet
readable {net} {sheet} i w = arcs-readable ((net-judged net).accepts.1 i) (words-hold (petri_net net) sheet w).arcs

pub rows-mean : RowsMean
rows-mean net sheet n i w l =
    let r : ArcsReadable net sheet = readable i w in
    record {
      marking = marking-right net sheet r n l;
      arcs = arcs-right net sheet r n l;
      counts = counts-right net sheet r n l;
      target = λ t. unfold arc in refl;
      held = count_held (petri_net net) sheet n;
    }

pub arc-look-up-means : ArcLookUpMeans
arc-look-up-means net sheet n t i w = look-up-right net sheet (readable i w) n t

pub arc-count-means : ArcCountMeans
arc-count-means net sheet i p = arc-count-right net sheet (arcs-readable ((net-judged net).accepts.1 i) (arcs-hold (petri_net net) sheet p))
