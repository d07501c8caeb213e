-- What is promised of composition (§10.30 to §10.34), for anything that meets its postcondition. proofs/Compose has a term for the record.
use Rattle.refusal.specs.declared.Reason.TheVariants.{SmallOutput, SmallScratch}
use Rattle.std.specs.Prelude.{ℕ, ◌+◌, ◌*◌, ◌≤◌, ◌<◌, ◌≡◌, ◌↔◌, true, List, [], ◌∷◌, ◌++◌, length, take, drop}
use Rattle.std.proofs.Math.Option.{some}
use Rattle.automaton.specs.Automaton.{follow, allows}
use Rattle.automaton.specs.Reach.{Reachable}
use Rattle.automaton.specs.BreadthFirst.{BreadthFirst}
use Rattle.automaton.specs.Quotient.{Renumbering}
use Rattle.refusal.specs.Limits.{scratch_limit, most_entries}
use Rattle.refusal.specs.Checks.{Check, once, AllPass}
use Rattle.net.specs.Checks.{net_checks, IsNet}
use Rattle.sequential.specs.Petri.{petri_net}
use Rattle.sequential.specs.Words.{count_at}
use Rattle.sequential.specs.Schedule.{Await}
use Rattle.sequential.specs.Checks.{sheet_checks}
use Rattle.lending.specs.Demands.{number, own, EveryCall}
use Rattle.composed.specs.Tuples.{tuples}
use Rattle.composed.specs.Product.{Tasks, OnePerSource, size_of, node_of, all_await, held_by_all, product}
use Rattle.composed.specs.Composed.{ReachedPart, Disabled, Dependent, ReachedEnabled, OneBusy, Composable, Serves, OwnSources}
use Rattle.composed.specs.Sheet.{four_sheets, given_sheets, source_of, net_of, tasks_of}
use Rattle.composed.specs.Checks.{NumberPasses, FewPass, compose_checks}
use Rattle.lending.specs.Fault.{sheet_index}
use Rattle.composed.specs.Call.{ComposeDone, plain_compose, ComposeAnswer}
use Rattle.composed.specs.Named.{Named}
use Rattle.demands.specs.Terms.{said}
use Rattle.demands.specs.Demand1.{Unread}
use Rattle.demands.specs.Demand3.{AlwaysAccepted}

module _ (net : List ℕ) (k : ℕ) (a b c d : List ℕ) where
  -- the tasks of k schedules (§10.31), and the product of their graphs (§10.32)
  abbrev pub tasks : Tasks
  tasks = tasks_of (petri_net net) k (given_sheets k a b c d)

  -- a call that answered 0, whatever the buffers lent held before
  pub record Composing : Type 0 where
    pub out : List ℕ
    pub scratch : List ℕ
    pub answer : ComposeAnswer
    pub out' : List ℕ
    pub scratch' : List ℕ
    pub done : ComposeDone net k a b c d out scratch answer out' scratch'
    pub zero : number (plain_compose answer) ≡ 0

  -- all that is checked, in the order of §7.63; room for the result comes last
  abbrev pub all_compose_checks : Type 0 → List ℕ → List Check
  all_compose_checks Room scratch = once (scratch_limit ≤ length scratch) SmallScratch ∷ ((net_checks net ++ compose_checks (petri_net net) k (given_sheets k a b c d)) ++ (once Room SmallOutput ∷ []))

-- the length that the call answered, and that many words of its buffer: §10.30
abbrev pub composed_size : {net : List ℕ} {k : ℕ} {a b c d : List ℕ} → Composing net k a b c d → ℕ
composed_size c = own (plain_compose c.answer) 0

abbrev pub composed_by : {net : List ℕ} {k : ℕ} {a b c d : List ℕ} → Composing net k a b c d → List ℕ
composed_by c = take (composed_size c) c.out'

module _ (net : List ℕ) (k : ℕ) (a b c d : List ℕ) where
  -- it does what every call does (§13.1), by its checks; the words that it needs of the buffer are as many as the length that it answers
  pub record EveryComposition : Type 0 where
    pub needed : ℕ
    pub every : (out : List ℕ) → EveryCall scratch_limit plain_compose (all_compose_checks net k a b c d (needed ≤ length out)) out (ComposeDone net k a b c d out)
    pub answered : (x : Composing net k a b c d) → composed_size x ≡ needed

  -- the written schedule is accepted; its nodes are the reached states, numbered breadth first
  pub record Written (x : Composing net k a b c d) : Type 0 where
    pub accepted : AlwaysAccepted net (composed_by x)
    pub state : ℕ → ℕ
    pub states : ReachedPart (product (petri_net net) (tasks net k a b c d)) (said net (composed_by x)) state
    pub numbered : BreadthFirst (said net (composed_by x))
    -- a place holds its starting count and what each task has changed; no sum is below 0
    pub counts : (s p : ℕ) → Reachable (product (petri_net net) (tasks net k a b c d)) s → p < (petri_net net).places
        → count_at (petri_net net) (composed_by x) (state s) p + k * (petri_net net).start p ≡ (petri_net net).start p + held_by_all (tasks net k a b c d) s p
    -- its await nodes are the states in which every task waits: §10.32
    pub awaits : (s : ℕ) → Reachable (product (petri_net net) (tasks net k a b c d)) s
        → (all_await (tasks net k a b c d) s ≡ true) ↔ Await (petri_net net) (said net (composed_by x)) (state s)
    -- two different tasks are each served by a list: in either order the same state is reached, and there all tasks wait again (§10.34)
    pub either : (s i j m n : ℕ) (σ τ : List ℕ) → Reachable (product (petri_net net) (tasks net k a b c d)) s → all_await (tasks net k a b c d) s ≡ true
        → i < k → j < k → (j ≡ i → ⊥) → Serves (tasks net k a b c d) i (node_of (tasks net k a b c d) i s) σ m → Serves (tasks net k a b c d) j (node_of (tasks net k a b c d) j s) τ n
        → (end : ℕ) × (all_await (tasks net k a b c d) end ≡ true)
        × (follow (product (petri_net net) (tasks net k a b c d)) s (σ ++ τ) ≡ some end) × (follow (product (petri_net net) (tasks net k a b c d)) s (τ ++ σ) ≡ some end)
        × (follow (said net (composed_by x)) (state s) (σ ++ τ) ≡ some (state end)) × (follow (said net (composed_by x)) (state s) (τ ++ σ) ≡ some (state end))
    -- the result lies whole in the buffer, and the words behind it are as they were: §9.4
    pub short : composed_size x ≤ 2 + 2 * most_entries
    pub fits : composed_size x ≤ length x.out
    pub within : x.out' ≡ composed_by x ++ drop (composed_size x) x.out

  -- all checks before 30 pass
  pub record SheetsPass (scratch : List ℕ) : Type 0 where
    pub scratch_holds : scratch_limit ≤ length scratch
    pub net_passes : IsNet net
    pub number_passes : NumberPasses (petri_net net) k (given_sheets k a b c d)
    pub each_passes : (i : ℕ) → i < k → AllPass (sheet_checks (net_of (petri_net net) i) (given_sheets k a b c d i))
    pub few : FewPass (petri_net net) k (given_sheets k a b c d)

  -- then there is one task for each source, and the answer is 30 exactly if no counts make the composed graph a schedule (source document 001, Definition 8)
  pub record DependentAnswer (r : ComposeAnswer) : Type 0 where
    pub each_source : OnePerSource (petri_net net) (tasks net k a b c d)
    pub uncountable : (number (plain_compose r) ≡ 30) ↔ (Composable (petri_net net) (tasks net k a b c d) → ⊥)
    -- that is so exactly if some state fires a transition that is not enabled there; it makes no difference whether the state is reached by any firings or by enabled ones
    pub reached : (number (plain_compose r) ≡ 30) ↔ Dependent (petri_net net) (tasks net k a b c d)
    pub reached_enabled : (number (plain_compose r) ≡ 30) ↔ ((s : ℕ) × (t : ℕ) × ReachedEnabled (petri_net net) (tasks net k a b c d) s × Disabled (petri_net net) (tasks net k a b c d) s t)

pub record ComposeDemand : Type 0 where
  pub every : (net : List ℕ) (k : ℕ) (a b c d : List ℕ) → EveryComposition net k a b c d
  -- the index that comes with a refusal: §10.30
  pub named : (net : List ℕ) (k : ℕ) (a b c d out s out' s' : List ℕ) (r : ComposeAnswer) → ComposeDone net k a b c d out s r out' s'
      → (i : ℕ) → (sheet_index r ≡ i + 1) ↔ Named net k (given_sheets k a b c d) s i
  -- nothing depends on what the buffers held (§13.5), nor on a slice past the number of schedules
  pub unread : (net : List ℕ) (k : ℕ) (a b c d : List ℕ) → Unread (ComposeDone net k a b c d)
  pub past_unread : (net : List ℕ) (k : ℕ) (a b c d a₁ b₁ c₁ d₁ out s out' s' : List ℕ) (r : ComposeAnswer)
      → ((i : ℕ) → i < k → four_sheets a b c d i ≡ four_sheets a₁ b₁ c₁ d₁ i)
      → ComposeDone net k a b c d out s r out' s' → ComposeDone net k a₁ b₁ c₁ d₁ out s r out' s'
  pub dependent : (net : List ℕ) (k : ℕ) (a b c d out s out' s' : List ℕ) (r : ComposeAnswer) → ComposeDone net k a b c d out s r out' s'
      → SheetsPass net k a b c d s → DependentAnswer net k a b c d r
  pub written : (net : List ℕ) (k : ℕ) (a b c d : List ℕ) (x : Composing net k a b c d) → Written net k a b c d x
  -- the reached states are the tuples of nodes in which at most one task is busy
  pub reached : (net : List ℕ) (k : ℕ) (a b c d : List ℕ) → Composing net k a b c d → (s : ℕ)
      → Reachable (product (petri_net net) (tasks net k a b c d)) s ↔ ((s < tuples (size_of (tasks net k a b c d)) k) × OneBusy (tasks net k a b c d) s)
  -- a list in which no source but that of one task occurs is allowed by the written schedule exactly if the task's schedule allows it
  pub services : (net : List ℕ) (k : ℕ) (a b c d : List ℕ) (x : Composing net k a b c d) (i : ℕ) → i < k → (σ : List ℕ) → OwnSources (petri_net net) (source_of (petri_net net) i) σ
      → allows (said net (composed_by x)) 0 σ ≡ allows (said net (given_sheets k a b c d i)) 0 σ
  -- with one source the written schedule is the given one, numbered breadth first
  pub one_source : (net a b c d : List ℕ) (x : Composing net 1 a b c d) → (f : ℕ → ℕ) × Renumbering (said net a) (said net (composed_by x)) f
