-- What is promised besides the three demands: of paths, choice sets and runs, of the encoding, and of minimal forms. proofs/Further has a term for each.
use Rattle.refusal.specs.Refusal.{Verdict}
use Rattle.std.specs.Prelude.{ℕ, ◌≤◌, ◌<◌, ◌≡◌, ◌↔◌, List, [], ◌∷◌, Bool, true, length, get_or, Ok}
use Rattle.automaton.specs.Automaton.{Automaton, allows}
use Rattle.refusal.specs.Checks.{AllPass}
use Rattle.net.specs.Checks.{IsNet}
use Rattle.sequential.specs.Petri.{PetriNet, petri_net, Source, TakesSame, SharesPlace, FreeChoice, SameChoice}
use Rattle.sequential.specs.Words.{graph}
use Rattle.sequential.specs.Schedule.{Offers}
use Rattle.sequential.specs.Published.{Member, FreeChoiceSet, InFCS, ChoiceSetOf}
use Rattle.sequential.specs.Runs.{GoesOn, ShortWhereAny}
use Rattle.sequential.specs.Checks.{WordsPass}
use Rattle.lending.specs.Demands.{number, own}
use Rattle.refusal.specs.Limits.{scratch_limit}
use Rattle.schedule.specs.Calls.{FreshDone, FireDone, RunDone}
use Rattle.schedule.specs.Walker.{walker_checks}
use Rattle.schedule.specs.Plain.{plain_run, RunAnswer}
use Rattle.schedule.specs.declared.Walker.{Walker}
use Rattle.encoding.specs.Encoding.{encode, Encodable}
use Rattle.demands.specs.Terms.{said, Accepted}
use Rattle.demands.specs.Demand3.{Form, size, made}

-- ---- schedules

-- if there is a path, there is one with fewer firings than there are nodes (§6.9); this holds of all words that pass, whether or not they are a schedule
abbrev pub PathsShorten : Type 0
PathsShorten = (net sheet : List ℕ) → IsNet net → WordsPass (petri_net net) sheet → (n : ℕ) → n < (said net sheet).nodes → ShortWhereAny (petri_net net) (said net sheet) n

-- the choice sets are a partition of the transitions; there is a source, and the sources are one of the sets: §5.2, §2.9
pub record Partition (N : PetriNet) : Type 0 where
  pub reflexive : (t : ℕ) → SameChoice N t t
  pub symmetric : (t u : ℕ) → SameChoice N t u → SameChoice N u t
  pub transitive : (t u v : ℕ) → SameChoice N t u → SameChoice N u v → SameChoice N t v
  pub source : (t : ℕ) × (t < N.transitions) × Source N t
  pub sources : (t u : ℕ) → Source N t → SameChoice N t u ↔ Source N u
  -- members take the same; a set with two members has every transition that draws on a place of its members; if those that take the same are not closed, each is a set by itself: §5.1
  pub alike : (t u : ℕ) → SameChoice N t u → TakesSame N t u
  pub closed : (t u v : ℕ) → SameChoice N t u → (t ≡ u → ⊥) → v < N.transitions → SharesPlace N t v → SameChoice N t v
  pub alone : (t u : ℕ) → (FreeChoice N t → ⊥) → SameChoice N t u → t ≡ u
  -- a net without arbitration keeps the sets that it had before request #103: §5.5
  pub unarbitrated : ((t : ℕ) → t < N.transitions → FreeChoice N t) → (t u : ℕ) → t < N.transitions → SameChoice N t u ↔ TakesSame N t u

abbrev pub ChoicePartition : Type 0
ChoicePartition = (net : List ℕ) → IsNet net → Partition (petri_net net)

-- the choice sets are the published free-choice sets: §5.5
pub record FreeChoiceSets (N : PetriNet) : Type 0 where
  pub exactly : (C : ℕ → Bool) → FreeChoiceSet N C ↔ ((t : ℕ) × (t < N.transitions) × ChoiceSetOf N t C)
  pub together : (t u : ℕ) → t < N.transitions → u < N.transitions → SameChoice N t u ↔ InFCS N t u
  -- source document 001, Proposition 1: no set is empty, each transition is in one, and two sets with a common member are the same
  pub some : (C : ℕ → Bool) → FreeChoiceSet N C → (t : ℕ) × Member N C t
  pub covers : (t : ℕ) → t < N.transitions → InFCS N t t
  pub apart : (C D : ℕ → Bool) → FreeChoiceSet N C → FreeChoiceSet N D → (t : ℕ) → Member N C t → Member N D t → (u : ℕ) → u < N.transitions → C u ≡ D u
  -- the sources are one of these sets
  pub sources : (C : ℕ → Bool) → ((t : ℕ) → t < N.transitions → (C t ≡ true) ↔ Source N t) → FreeChoiceSet N C

abbrev pub PublishedChoiceSets : Type 0
PublishedChoiceSets = (net : List ℕ) → IsNet net → FreeChoiceSets (petri_net net)

-- every run can be continued by each member of one choice set, and by nothing else: §13.3
abbrev pub NeverStuck : Type 0
NeverStuck = (net sheet σ : List ℕ) → Accepted net sheet → allows (said net sheet) 0 σ ≡ true → GoesOn (petri_net net) (said net sheet) σ

-- ---- a run is one firing after the other

-- on every accepted schedule a fresh walker can fire whatever the root offers: it passes 18 and 19. So does each walker that a firing hands back (`FiresRight`)
abbrev pub FreshPasses : Type 0
FreshPasses = (net sheet : List ℕ) (v : Verdict) (w : Walker) (t : ℕ) → Accepted net sheet → FreshDone net v w → Offers (petri_net net) (said net sheet) 0 t
    → AllPass (walker_checks (petri_net net) sheet w t)

-- calls of the single firing, each accepted, each with the walker that the one before handed back
pub data Firings (net sheet : List ℕ) : Walker → List ℕ → Walker → Type 0 where
  none_fired : (w : Walker) → Firings net sheet w [] w
  one_fired : (w x y : Walker) (t e : ℕ) (σ s s' : List ℕ) → FireDone net sheet s w t (Ok (record { entry = e })) x s' → Firings net sheet x σ y → Firings net sheet w (t ∷ σ) y

-- a run answers 0 exactly if single firings from a fresh walker do; it ends at the same node, with the counts of the last walker
pub record Folds (net sheet firings out s : List ℕ) (a : RunAnswer) (out' : List ℕ) (w : Walker) : Type 0 where
  pub exactly : scratch_limit ≤ length s → (petri_net net).places ≤ length out → (number (plain_run a) ≡ 0) ↔ ((y : Walker) × Firings net sheet w firings y)
  pub node : (y : Walker) → number (plain_run a) ≡ 0 → Firings net sheet w firings y → y.node ≡ own (plain_run a) 1
  pub counts : (y : Walker) → number (plain_run a) ≡ 0 → Firings net sheet w firings y → (p : ℕ) → p < (petri_net net).places → get_or y.counts p 0 ≡ get_or out' p 0

abbrev pub RunFolds : Type 0
RunFolds = (net sheet firings out s out' s' : List ℕ) (a : RunAnswer) (v : Verdict) (w : Walker) → Accepted net sheet
    → RunDone net sheet firings out s a out' s' → FreshDone net v w → Folds net sheet firings out s a out' w

-- ---- words and graphs

-- encoding and decoding are inverse, between the words that pass 6 to 9 and the graphs that such words can describe: §11.6
pub record Inverse (N : PetriNet) : Type 0 where
  pub decodes : (sheet : List ℕ) → WordsPass N sheet → Encodable N (graph N sheet)
  pub encodes : (A : Automaton) → Encodable N A → WordsPass N (encode N A)
  pub encode_decode : (sheet : List ℕ) → WordsPass N sheet → encode N (graph N sheet) ≡ sheet
  pub decode_encode : (A : Automaton) → Encodable N A → graph N (encode N A) ≡ A

abbrev pub OneEncoding : Type 0
OneEncoding = (net : List ℕ) → IsNet net → Inverse (petri_net net)

-- ---- minimal forms

-- the minimal form is no longer than the schedule from which it was made
abbrev pub FormNoLonger : Type 0
FormNoLonger = (net sheet : List ℕ) → Accepted net sheet → (c : Form net sheet) → size c ≤ length sheet

-- the minimal form of a minimal form is itself
abbrev pub FormTwice : Type 0
FormTwice = (net sheet : List ℕ) → Accepted net sheet → (c : Form net sheet) (d : Form net (made c)) → made d ≡ made c
