-- A text that is put into a lent buffer, piece by piece.
use Rattle.std.specs.Prelude.{ℕ, zero, suc, ◌+◌, ◌-◌, min, ◌≡◌, List, [], ◌∷◌, length}

-- a buffer after bytes were put into it from an index on, as many as there is room for
unfoldable pub put_at : List ℕ → ℕ → List ℕ → List ℕ
put_at [] at bytes = []
put_at (x ∷ out) (suc at) bytes = x ∷ put_at out at bytes
put_at (x ∷ out) zero [] = x ∷ out
put_at (x ∷ out) zero (b ∷ bytes) = b ∷ put_at out zero bytes

-- one piece put at an index: the index after it, and what the buffer holds then
pub record Put (out : List ℕ) (at : ℕ) (bytes : List ℕ) (r : ℕ) (out' : List ℕ) : Type 0 where
  pub behind : r ≡ at + min (length bytes) (length out - at)
  pub held : out' ≡ put_at out at bytes
