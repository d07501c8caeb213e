-- The test of a key (§2.3, §3.4): too large, or not above the one before it.
use Rattle.std.specs.Prelude.{ℕ, ◌-◌, List, Bool, ◌&&◌, ◌||◌, ltb, leb}
use Rattle.table.specs.Table.{key_at}

unfoldable pub key_fails : List ℕ → ℕ → ℕ → ℕ → Bool
key_fails words offset limit i = leb limit (key_at words offset i) || (ltb 0 i && leb (key_at words offset i) (key_at words offset (i - 1)))
