-- Verdicts: a finding that refuses, and one check after the other.
use Rattle.std.specs.Prelude.{Result, Err, Ok, IsErrAnd, is_err, true, false}
use Rattle.std.proofs.lemmas.Result.{err_from_is_err_and}
use Rattle.scan.proofs.Basics.{ℕ, ◌<◌, arith, ◌≡◌, refl, sym, ap, ◌∙◌, ◌⊎◌, inl, inr, Option, none, some, [], ◌∷◌, ◌++◌}
use Rattle.scan.specs.Scan.{or_else, first}
use Rattle.scan.proofs.First.{first-hit, or_else-hit, or_else-next}
use Rattle.refusal.specs.Refusal.{refusal_number, plain_position, plain_refusal, kind_of, index_of, Verdict}
use Rattle.refusal.specs.Verdict.{verdict_of, and_then}
use Rattle.refusal.specs.declared.Position.{Position}
use Rattle.refusal.specs.declared.Position.TheVariants.{Nothing, Entry, Place, Node, Record}
use Rattle.refusal.specs.declared.Refusal.{Refusal}

pub accepted-refused {ℓ} : {C : Type ℓ} (v : Verdict) (r : Refusal) → v ≡ Ok tt → v ≡ Err r → C
accepted-refused v r p q = let z : ◌≡◌ {A = ℕ} 0 1 = cc in absurd (omega arith)

-- ---- what a `?` hands back

pub passed_on : {A : Type 0} {r : Refusal} (w : Result A Refusal) → IsErrAnd w (λ x. x ≡ r) → w ≡ Err r
passed_on w h = let p = err_from_is_err_and w h in p.1 ∙ ap Err p.2

pub handed : {r : Refusal} {v w : Verdict} → IsErrAnd w (λ x. x ≡ r) → v ≡ Err r → w ≡ v
handed {w = w} h e = passed_on w h ∙ sym e

-- a test for a refusal
pub err_of : (v : Verdict) → is_err v ≡ true → (r : Refusal) × (v ≡ Err r)
err_of (Ok tt) e = cc
err_of (Err r) e = (r, refl)

pub ok_of : (v : Verdict) → is_err v ≡ false → v ≡ Ok tt
ok_of (Ok tt) e = refl
ok_of (Err r) e = cc

-- ---- what is found

pub answer-none : (o : Option Refusal) → verdict_of o ≡ Ok tt → o ≡ none
answer-none none h = refl
answer-none (some a) h = cc

pub answer-some : (o : Option Refusal) (r : Refusal) → verdict_of o ≡ Err r → o ≡ some r
answer-some none r h = cc
answer-some (some a) r h = cc

-- what is refused stays refused, whatever would be asked after it
pub answer-left : (a b : Option Refusal) (s : Verdict) (r : Refusal) → s ≡ verdict_of a → s ≡ Err r → s ≡ verdict_of (or_else a b)
answer-left a b s r h k = k ∙ ap verdict_of (sym (or_else-hit a b r (answer-some a r (sym h ∙ k))))

-- a scan that is left at i with what was found there
pub answer-first : (f : ℕ → Option Refusal) (i n : ℕ) (a : Verdict) (r : Refusal) → first f i ≡ none → a ≡ verdict_of (f i) → a ≡ Err r → i < n → a ≡ verdict_of (first f n)
answer-first f i n a r h e k l = k ∙ ap verdict_of (sym (first-hit f i r h (answer-some (f i) r (sym e ∙ k)) n l))

-- what is accepted lets the next check speak
pub verdict-next : (a b : Option Refusal) → verdict_of a ≡ Ok tt → verdict_of (or_else a b) ≡ verdict_of b
verdict-next a b h = ap verdict_of (or_else-next a b (answer-none a h))

pub answer-next : (a b : Option Refusal) {v w : Verdict} → v ≡ verdict_of a → v ≡ Ok tt → w ≡ verdict_of b → w ≡ verdict_of (or_else a b)
answer-next a b e h f = f ∙ sym (verdict-next a b (sym e ∙ h))

pub then_next : (v w : Verdict) → v ≡ Ok tt → and_then v w ≡ w
then_next v w h = rw h

pub then-refused : (v w : Verdict) (r : Refusal) → v ≡ Err r → and_then v w ≡ v
then-refused v w r h = rw h

-- accepted, so both are
pub then-accepted : (v w : Verdict) → and_then v w ≡ Ok tt → (v ≡ Ok tt) × (w ≡ Ok tt)
then-accepted (Ok tt) w h = (refl, h)
then-accepted (Err r) w h = (h, cc)

-- refused, so the first is, or the second where the first accepts
pub then-cases : (v w : Verdict) (r : Refusal) → and_then v w ≡ Err r → (v ≡ Err r) ⊎ ((v ≡ Ok tt) × (w ≡ Err r))
then-cases (Ok tt) w r h = inr (refl, h)
then-cases (Err x) w r h = inl h

-- ---- plain numbers by their parts

pub refusal-parts : (r : Refusal) → refusal_number r ∷ kind_of r.at ∷ index_of r.at ∷ 0 ∷ 0 ∷ 0 ∷ [] ≡ plain_refusal r
refusal-parts r = go r.at
  where
    go : (p : Position) → refusal_number r ∷ kind_of p ∷ index_of p ∷ 0 ∷ 0 ∷ 0 ∷ [] ≡ refusal_number r ∷ (plain_position p ++ (0 ∷ 0 ∷ 0 ∷ []))
    go Nothing = refl
    go (Entry i) = refl
    go (Place i) = refl
    go (Node i) = refl
    go (Record i) = refl
