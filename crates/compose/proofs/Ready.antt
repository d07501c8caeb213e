-- What the functions rely on holds once 28, every sheet and the first 29 have passed.
use Rattle.std.specs.Prelude.{Ok}
use Rattle.scan.proofs.Basics.{ℕ, ◌<◌, arith, ◌≡◌, refl, List, get_or}
use Rattle.net.specs.Check.{net_reply}
use Rattle.net.proofs.Laws.{sizes, some-source}
use Rattle.sequential.specs.Petri.{PetriNet, petri_net}
use Rattle.sequential.specs.Words.{node_count, key_limit, arc_keys}
use Rattle.sequential.specs.Only.{only}
use Rattle.sequential.specs.Known.{WordsHold}
use Rattle.graph.specs.Readable.{Readable}
use Rattle.graph.proofs.Readable.{readable}
use Rattle.composed.specs.Tuples.{tuples}
use Rattle.composed.specs.Product.{size_of}
use Rattle.composed.specs.Sheet.{given_sheets, sources}
use Rattle.composed.specs.Checks.{NumberPasses, SheetPasses, FewPass}
use Rattle.composed.proofs.Sources.{sources-some}
use Rattle.composed.proofs.Chain.{one-per-source}
use Rattle.compose.specs.Frames.{tasks_in, Ready}
use Rattle.compose.specs.declared.frame.Frame.{Frame}

-- the words do not ask which sources are removed
words-whole : (N : PetriNet) (s : ℕ) (sheet : List ℕ) → WordsHold (only N s) sheet → WordsHold N sheet
unfolding key_limit arc_keys
words-whole N s sheet w = record { arcs = record { shape = w.arcs.shape; keys = w.arcs.keys; targets = w.arcs.targets }; values = w.values }

module _ (net a b c d : List ℕ) (f : Frame) (accepted : net_reply net ≡ Ok tt) (count : NumberPasses (petri_net net) f.number (given_sheets f.number a b c d))
    (sheets : (i : ℕ) → i < f.number → SheetPasses (petri_net net) f.number (given_sheets f.number a b c d) i) (few : FewPass (petri_net net) f.number (given_sheets f.number a b c d)) where
  each : (i : ℕ) → i < f.number → Readable net (given_sheets f.number a b c d i)
  each i l = readable accepted (words-whole (petri_net net) _ (given_sheets f.number a b c d i) (sheets i l).words)

  pub ready : ((i : ℕ) → i < f.number → get_or f.sizes i 0 ≡ node_count (given_sheets f.number a b c d i))
      → ((i : ℕ) → i < f.number → get_or f.weights i 0 ≡ tuples (size_of (tasks_in net f.number a b c d)) i)
      → ((i : ℕ) → i < f.number → get_or f.sources i 0 ≡ get_or (sources (petri_net net)) i 0)
      → f.total ≡ tuples (size_of (tasks_in net f.number a b c d)) f.number → Ready net a b c d f
  ready z w s all =
      let (t, l, h) = some-source net accepted in
      record {
        few = count.0;
        some = omega (arith, count.1, sources-some (petri_net net) t l (refl, h));
        readable = λ i k. (each i k).arcs;
        counts = each;
        sizes_are = z;
        weights_are = w;
        sources_are = s;
        as_many = count.1;
        tasks = one-per-source (petri_net net) (sizes net accepted).some_transition (t, l, (refl, h)) f.number (given_sheets f.number a b c d) count sheets;
        few_tuples = few;
        total_is = all;
      }
