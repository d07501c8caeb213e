-- A lent buffer whose front is cleared.
use Rattle.std.specs.Prelude.{ℕ, min, List, ◌++◌, length, drop, replicate}

-- the first n words are 0, or all if there are fewer; the words behind them are unchanged
unfoldable pub cleared : ℕ → List ℕ → List ℕ
cleared n words = replicate (min n (length words)) 0 ++ drop n words
