-- What holds of tasks, one for each source, and of their composition, as statements. proofs/Demands has a term for each. What is promised of the call is
-- `ComposeDemand` of the crate demands.
use Rattle.std.specs.Prelude.{ℕ, ◌<◌, ◌≡◌, ◌↔◌, true}
use Rattle.std.proofs.Math.Option.{none, some}
use Rattle.automaton.specs.Reach.{Reachable}
use Rattle.automaton.specs.BreadthFirst.{BreadthFirst}
use Rattle.sequential.specs.Petri.{PetriNet}
use Rattle.sequential.specs.Only.{only}
use Rattle.sequential.specs.Schedule.{IsSchedule, Await}
use Rattle.composed.specs.Product.{Tasks, OnePerSource, awaits, product}
use Rattle.composed.specs.Composed.{composed, Disabled, Dependent, ReachedEnabled, EnabledSigned, Independent, Composable, AwaitsCover}

-- a node of a task is an await node (§5.4) exactly if it offers the task's source
abbrev pub AwaitsMeans : Type 0
AwaitsMeans = (N : PetriNet) (X : Tasks) → OnePerSource N X → (i n : ℕ) → i < X.number → n < (X.task i).nodes
    → (awaits X i n ≡ true) ↔ Await (only N (X.source i)) (X.task i) n

-- if the tasks are independent, the composed graph is a schedule of the whole net, numbered breadth first
abbrev pub ComposedIsSchedule : Type 0
ComposedIsSchedule = (N : PetriNet) (X : Tasks) → OnePerSource N X → Independent N X → IsSchedule N (composed N X) × BreadthFirst (composed N X)

-- if they are not, no counts make the composed graph a schedule
abbrev pub DependentExactly : Type 0
DependentExactly = (N : PetriNet) (X : Tasks) → OnePerSource N X → Independent N X ↔ Composable N X

-- refusal 30 does not depend on whether states are reached by any firings or by enabled ones only
abbrev pub DependentEarly : Type 0
DependentEarly = (N : PetriNet) (X : Tasks) → OnePerSource N X → Dependent N X → (s : ℕ) × (t : ℕ) × ReachedEnabled N X s × Disabled N X s t

-- nor on whether a sum below zero is read as it is or as 0
abbrev pub DependentSigned : Type 0
DependentSigned = (N : PetriNet) (X : Tasks) → OnePerSource N X
    → Independent N X ↔ ((s t m : ℕ) → Reachable (product N X) s → (product N X).arc s t ≡ some m → EnabledSigned N X s t)

-- source document 001, Corollary 1, for nets without capacities; with capacities it is false
abbrev pub CorollaryOne : Type 0
CorollaryOne = (N : PetriNet) (X : Tasks) → OnePerSource N X → ((p : ℕ) → p < N.places → N.capacity p ≡ none) → AwaitsCover N X → Independent N X

-- a single task is independent, so that with one source 30 is never answered
abbrev pub OneTask : Type 0
OneTask = (N : PetriNet) (X : Tasks) → OnePerSource N X → X.number ≡ 1 → Independent N X
