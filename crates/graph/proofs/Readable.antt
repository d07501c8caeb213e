-- What is known of words that are readable, or whose arcs are.
use Rattle.std.specs.Prelude.{Ok}
use Rattle.scan.proofs.Basics.{ℕ, ◌+◌, ◌≤◌, arith, ◌≡◌, refl, ap, ◌∙◌, Bool, true, false, List}
use native.Mathlib.Nat.{mul-le-mul}
use Rattle.scan.specs.Scan.{or_else, first}
use Rattle.refusal.specs.Verdict.{verdict_of, and_then}
use Rattle.refusal.proofs.Verdicts.{then_next, then-accepted, answer-none}
use Rattle.net.specs.Net.{place_count, transition_count}
use Rattle.net.specs.Check.{net_reply}
use Rattle.net.proofs.Laws.{sizes}
use Rattle.sequential.specs.Petri.{PetriNet, petri_net}
use Rattle.sequential.specs.Words.{entry_count, arc_keys, key_limit}
use Rattle.sequential.specs.Check.{shape_fault, entry_fault}
use Rattle.sequential.specs.Known.{ShapePasses, ArcsHold, WordsHold}
use Rattle.sequential.proofs.Words.{words-fault, words-out, arcs-fault, arcs-in, arcs-out}
use Rattle.graph.specs.Readable.{words_reply, arcs_reply, value_test, fault_by, reply_by, Sizes, ArcsReadable, Readable}

-- ---- with counts, or of arcs alone

pub fault-by : (counts : Bool) (N : PetriNet) (sheet : List ℕ)
    → fault_by counts N sheet ≡ or_else (shape_fault sheet) (first (entry_fault sheet (key_limit N sheet) (value_test counts sheet (arc_keys N sheet))) (entry_count sheet))
fault-by true = words-fault
fault-by false = arcs-fault

pub reply-by : (counts : Bool) (net sheet : List ℕ) → reply_by counts net sheet ≡ and_then (net_reply net) (verdict_of (fault_by counts (petri_net net) sheet))
unfolding words_reply arcs_reply
reply-by true net sheet = refl
reply-by false net sheet = refl

-- ---- what is readable

module _ {net sheet : List ℕ} where
  pub sizes-known : net_reply net ≡ Ok tt → ShapePasses sheet → Sizes net sheet
  sizes-known a s =
      let n = sizes net a in
      let wide : transition_count net + place_count net ≤ 64 = omega arith in
      record {
        some_place = n.some_place;
        few_places = n.few_places;
        some_transition = n.some_transition;
        few_transitions = n.few_transitions;
        some_node = s.some_node;
        few_nodes = s.few_nodes;
        few_entries = s.few_entries;
        long = s.whole;
        few_arcs = mul-le-mul s.few_nodes n.few_transitions;
        few_keys = mul-le-mul s.few_nodes wide;
      }

  pub arcs-readable : net_reply net ≡ Ok tt → ArcsHold (petri_net net) sheet → ArcsReadable net sheet
  arcs-readable a w = record { accepted = a; sizes = sizes-known a w.shape; holds = w }

  pub readable : net_reply net ≡ Ok tt → WordsHold (petri_net net) sheet → Readable net sheet
  readable a w = record { arcs = arcs-readable a w.arcs; values = w.values }

module _ (net sheet : List ℕ) where
  pub reply-arcs : arcs_reply net sheet ≡ Ok tt → ArcsReadable net sheet
  unfolding arcs_reply
  reply-arcs h = let (a, b) = then-accepted _ _ h in arcs-readable a (arcs-out (petri_net net) sheet (answer-none _ b))

  pub arcs-accepted : ArcsReadable net sheet → arcs_reply net sheet ≡ Ok tt
  unfolding arcs_reply
  arcs-accepted r = then_next _ _ r.accepted ∙ ap verdict_of (arcs-in (petri_net net) sheet r.holds)

  pub reply-readable : words_reply net sheet ≡ Ok tt → Readable net sheet
  unfolding words_reply
  reply-readable h = let (a, b) = then-accepted _ _ h in readable a (words-out (petri_net net) sheet (answer-none _ b))

  pub words : Readable net sheet → WordsHold (petri_net net) sheet
  words r = record { arcs = r.arcs.holds; values = r.values }

  pub known : Readable net sheet → Sizes net sheet
  known r = r.arcs.sizes
