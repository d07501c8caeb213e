-- The nine-node schedule: its check is computed, and its minimal form is found by a table of classes, which one round leaves as it is.
use Rattle.std.specs.Prelude.{Ok}
use Rattle.refusal.specs.Refusal.{Verdict}
use Rattle.scan.proofs.Basics.{ℕ, arith, ◌≡◌, refl, sym, ap, ◌∙◌, none, List, [], ◌∷◌, get_or}
use Rattle.scan.specs.Scan.{tabulate}
use Rattle.scan.proofs.Tabulate.{tabulate-at}
use Rattle.automaton.specs.Automaton.{Automaton, Closed}
use Rattle.automaton.specs.Equivalence.{equal_labels, agree, same_in, leader_by, in_class, same_class, refined, classes}
use Rattle.automaton.specs.Quotient.{minimal_by, minimal}
use Rattle.automaton.proofs.Classes.{classes-at}
use Rattle.automaton.proofs.MinimalBy.{minimal_by-stable}
use Rattle.net.specs.Net.{transition_count}
use Rattle.sequential.specs.Petri.{PetriNet, petri_net}
use Rattle.sequential.proofs.Words.{words-out}
use Rattle.sequential.proofs.Entries.{graph-closed}
use Rattle.minimal.specs.Minimal.{minimal_form}
use Rattle.demands.specs.Examples.{row, net_q, nine, nine_form, Nine}
use Rattle.demands.proofs.Examples.{checking, forming, answered, form_where, row-holds}
use Rattle.sequential.specs.Words as words
use Rattle.sequential.specs.Check as check
use Rattle.encoding.specs.Encoding as encoding

abbrev N : PetriNet
N = petri_net net_q

abbrev A : Automaton
A = words.graph (petri_net net_q) nine

-- no two nodes are in one class
abbrev own : List ℕ
own = 0 ∷ 1 ∷ 2 ∷ 3 ∷ 4 ∷ 5 ∷ 6 ∷ 7 ∷ 8 ∷ []

abbrev class : ℕ → ℕ
class n = get_or own n 0

passes : check.words_fault N nine ≡ none
unfolding checking
passes = refl

closed : Closed A
closed = graph-closed N nine (unfold transition_count in (omega arith)) (words-out N nine passes).arcs

by-labels : classes A 0 ≡ own
unfolding checking equal_labels same_in leader_by in_class classes
by-labels = refl

by-arcs : tabulate (leader_by (refined A class)) A.nodes ≡ own
unfolding checking agree leader_by in_class same_class refined
by-arcs = refl

is-minimal : minimal_by (same_class class) A ≡ minimal A
is-minimal =
    minimal_by-stable A closed 0 class (λ n l. sym (ap (λ (x : List ℕ). get_or x n 0) by-labels) ∙ classes-at A closed 0 n l)
    (λ n l. sym (tabulate-at (leader_by (refined A class)) 0 A.nodes n l) ∙ ap (λ (x : List ℕ). get_or x n 0) by-arcs)

words-of-it : encoding.encode N (minimal_by (same_class class) A) ≡ nine_form
unfolding checking forming same_class
words-of-it = refl

form : minimal_form net_q nine ≡ nine_form
unfolding minimal_form
form = ap (encoding.encode N) (sym is-minimal) ∙ words-of-it

abbrev answer : List ℕ
answer = 0 ∷ 0 ∷ 0 ∷ 9 ∷ 12 ∷ 3 ∷ []

checked : (check.schedule_reply net_q nine ≡ Ok tt) × (answered (row net_q nine answer nine_form) ≡ answer)
unfolding checking
checked = (refl, refl)

pub nine-holds : Nine
nine-holds = row-holds (row net_q nine answer nine_form) checked.1 (ap (λ (v : Verdict). form_where v net_q nine) checked.0 ∙ form)
