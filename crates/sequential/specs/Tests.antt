-- What the clauses of a schedule say, as tests: enabling, sources and choice sets, and what a node offers.
-- That each decides its clause is proved in proofs/Clauses.
use Rattle.std.specs.Prelude.{ℕ, ◌+◌, List, Bool, not, ◌&&◌, ◌||◌, get_or, ltb, leb, eqb}
use Rattle.std.specs.Bool.{beq}
use Rattle.scan.specs.Scan.{found, all, any, least}
use Rattle.automaton.specs.Automaton.{Automaton}
use Rattle.net.specs.Check.{within}
use Rattle.sequential.specs.Petri.{PetriNet}

module _ (N : PetriNet) where
  -- what is put does not help: §4.4
  unfoldable pub holds_enough : List ℕ → ℕ → ℕ → Bool
  holds_enough marking t p = leb (N.taken t p) (get_or marking p 0)

  -- §4.2
  unfoldable pub holds_taken : List ℕ → ℕ → Bool
  holds_taken marking t = all (holds_enough marking t) N.places

  -- if nothing is put, nothing is asked; and what is taken makes no room: §4.5
  unfoldable pub room_at : List ℕ → ℕ → ℕ → Bool
  room_at marking t p = eqb (N.put t p) 0 || within (N.capacity p) (get_or marking p 0 + N.put t p)

  unfoldable pub has_room : List ℕ → ℕ → Bool
  has_room marking t = all (room_at marking t) N.places

  unfoldable pub enabled : List ℕ → ℕ → Bool
  enabled marking t = holds_taken marking t && has_room marking t

  unfoldable pub takes_nothing : ℕ → ℕ → Bool
  takes_nothing t p = eqb (N.taken t p) 0

  -- §2.9
  unfoldable pub is_source : ℕ → Bool
  is_source t = N.kept t && all (takes_nothing t) N.places

  unfoldable pub takes_alike : ℕ → ℕ → ℕ → Bool
  takes_alike t u p = eqb (N.taken t p) (N.taken u p)

  unfoldable pub takes_same : ℕ → ℕ → Bool
  takes_same t u = all (takes_alike t u) N.places

  unfoldable pub both_draw : ℕ → ℕ → ℕ → Bool
  both_draw t u p = ltb 0 (N.taken t p) && ltb 0 (N.taken u p)

  unfoldable pub shares_place : ℕ → ℕ → Bool
  shares_place t u = any (both_draw t u) N.places

  unfoldable pub shares_alike : ℕ → ℕ → Bool
  shares_alike t u = not (N.kept u && shares_place t u) || takes_same t u

  unfoldable pub free_choice : ℕ → Bool
  free_choice t = all (shares_alike t) N.transitions

  -- §5.1
  unfoldable pub same_choice : ℕ → ℕ → Bool
  same_choice t u = eqb t u || (N.kept t && (N.kept u && (takes_same t u && free_choice t)))

module _ (N : PetriNet) (A : Automaton) where
  -- §3.7
  unfoldable pub offers : ℕ → ℕ → Bool
  offers n t = found (A.arc n t)

  unfoldable pub offers_as_source : ℕ → ℕ → Bool
  offers_as_source n t = beq (offers n t) (is_source N t)

  -- §5.4
  unfoldable pub is_await : ℕ → Bool
  is_await n = all (offers_as_source n) N.transitions

  unfoldable pub offers_some : ℕ → Bool
  offers_some n = any (offers n) N.transitions

  -- the choice set is that of the first transition offered
  unfoldable pub first_offered : ℕ → ℕ
  first_offered n = least (offers n) N.transitions

  unfoldable pub offers_as_choice : ℕ → ℕ → Bool
  offers_as_choice n t = beq (offers n t) (same_choice N (first_offered n) t)

  -- §5.3, of a node that offers some transition
  unfoldable pub offers_one_choice_set : ℕ → Bool
  offers_one_choice_set n = N.kept (first_offered n) && all (offers_as_choice n) N.transitions
