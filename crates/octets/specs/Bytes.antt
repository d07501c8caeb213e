-- Numbers as bytes, the least significant first: §15.2.
use Rattle.std.specs.Prelude.{ℕ, zero, suc, ◌+◌, ◌*◌, ◌/◌, ◌%◌, ◌^◌, List, ◌++◌, length, get_or, drop}
use Rattle.scan.specs.Scan.{tabulate}

-- ---- written

-- byte j of a number
unfoldable pub byte_of : ℕ → ℕ → ℕ
byte_of x j = x / 256 ^ j % 256

-- byte i of a list of numbers, each of which has the same number of bytes
unfoldable pub byte_at : ℕ → List ℕ → ℕ → ℕ
byte_at width numbers i = byte_of (get_or numbers (i / width) 0) (i % width)

-- the bytes of a list of numbers: 4 for each word, or 8 for each number of 64 bits
unfoldable pub bytes_of : ℕ → List ℕ → List ℕ
bytes_of width numbers = tabulate (byte_at width numbers) (width * length numbers)

-- a buffer after these bytes were written over its front; what lies past them is unchanged
unfoldable pub bytes_over : ℕ → List ℕ → List ℕ → List ℕ
bytes_over width numbers out = bytes_of width numbers ++ drop (width * length numbers) out

-- ---- and read

-- the number that starts at a byte, given how many bytes it has
unfoldable pub number_from : ℕ → List ℕ → ℕ → ℕ
number_from zero bytes at = 0
number_from (suc width) bytes at = get_or bytes at 0 + 256 * number_from width bytes (at + 1)

-- number i of bytes that hold numbers one after the other, each with the same number of bytes
unfoldable pub number_at : ℕ → List ℕ → ℕ → ℕ
number_at width bytes i = number_from width bytes (width * i)
