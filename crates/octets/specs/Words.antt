-- A file as words: §12.1, §12.3, §12.4.
use Rattle.std.specs.Prelude.{ℕ, ◌+◌, ◌*◌, ◌/◌, ◌%◌, ◌≡◌, List, ◌++◌, Bool, cond, not, ◌&&◌, length, get_or, take, drop, leb, eqb}
use Rattle.scan.specs.Scan.{tabulate}
use Rattle.octets.specs.declared.Reading.{Reading}

-- §12.1: the word that starts at a byte, missing bytes being 0
unfoldable pub word_from : List ℕ → ℕ → ℕ
word_from bytes at = get_or bytes at 0 + 256 * get_or bytes (at + 1) 0 + 65536 * get_or bytes (at + 2) 0 + 16777216 * get_or bytes (at + 3) 0

-- word i of a file
unfoldable pub word_at : List ℕ → ℕ → ℕ
word_at bytes i = word_from bytes (4 * i)

-- `most` is how many words are handed on at most
module _ (most : ℕ) (bytes : List ℕ) where
  -- the file has at least as many bytes as the most words need
  unfoldable pub is_long : Bool
  is_long = leb (4 * most) (length bytes)

  -- the file has a tail (§12.4); that of a longer file does not count (§12.3)
  unfoldable pub is_ragged : Bool
  is_ragged = not is_long && not (eqb (length bytes % 4) 0)

  -- how many words are handed on: §12.3
  unfoldable pub word_count : ℕ
  word_count = cond is_long most (length bytes / 4)

  unfoldable pub words_of : List ℕ
  words_of = tabulate (word_at bytes) word_count

  -- the bytes of a longer file that are handed on as words
  unfoldable pub cut : List ℕ
  cut = take (4 * most) bytes

-- a buffer after a file was decoded into it: at most as many words as the buffer has, with what lies past them unchanged
unfoldable pub decoded : List ℕ → List ℕ → List ℕ
decoded bytes out = words_of (length out) bytes ++ drop (word_count (length out) bytes) out

-- The postcondition of decoding: what it is handed, what it answers, and what the buffer holds afterwards.
pub record FileRead (bytes out : List ℕ) (r : Reading) (out' : List ℕ) : Type 0 where
  pub words : r.words ≡ word_count (length out) bytes
  pub ragged : r.ragged ≡ is_ragged (length out) bytes
  pub written : out' ≡ decoded bytes out

-- every word of a file
unfoldable pub all_words : List ℕ → List ℕ
all_words bytes = tabulate (word_at bytes) (length bytes / 4)

-- the words that are handed on (§12.3); and a file is read as its cut is
pub record ReadAsCut (most : ℕ) (bytes : List ℕ) : Type 0 where
  pub handed_on : words_of most bytes ≡ take most (all_words bytes)
  pub words : words_of most (cut most bytes) ≡ words_of most bytes
  pub ragged : is_ragged most (cut most bytes) ≡ is_ragged most bytes
