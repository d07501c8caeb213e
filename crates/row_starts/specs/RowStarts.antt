-- Where the keys of a node's arcs begin (§3.5): what the page of row starts has (§3.9).
use Rattle.std.specs.Prelude.{ℕ, ◌*◌, Bool, cond, ◌&&◌, ltb, leb}

-- the page has a number for n and T
unfoldable pub on_page : ℕ → ℕ → Bool
on_page n T = ltb n 128 && (leb 1 T && leb T 32)

-- the number that the page has, 0 if it has none
unfoldable pub row_start : ℕ → ℕ → ℕ
row_start n T = cond (on_page n T) (n * T) 0
