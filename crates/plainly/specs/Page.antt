-- The net and the graph that a page shows: those that its tables and its grid describe.
use Rattle.std.specs.Prelude.{ℕ, ◌≡◌, true, false, Option, MatchOption}
use Rattle.automaton.specs.Automaton.{Automaton}
use Rattle.sequential.specs.Petri.{PetriNet}
use Rattle.sequential.specs.Tests.{offers_some, first_offered}
use Rattle.plainly.specs.declared.page.Page.{Page}
use Rattle.plainly.specs.Tables.{net_of, graph_of}

abbrev pub net_on : Page → PetriNet
net_on page = net_of page.tables.now

abbrev pub graph_on : Page → Automaton
graph_on page = graph_of page.tables.now page.grid.now

-- the first transition that a node offers, if it offers one
abbrev pub IsFirstOffered : PetriNet → Automaton → ℕ → Option ℕ → Type 0
IsFirstOffered N A n r = MatchOption r (offers_some N A n ≡ false) (λ t. (offers_some N A n ≡ true) × (t ≡ first_offered N A n))
