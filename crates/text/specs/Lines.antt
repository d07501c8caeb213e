-- The lines that are printed for an answer: §12.6, §12.7.
use Rattle.std.specs.Prelude.{ℕ, zero, suc, List, [], ◌++◌, length, get_or}
use Prim.Native.String.{String}
use Rattle.text.specs.Decimal.{ascii, decimal}

-- a text, and a number after it
unfoldable pub field : String → ℕ → List ℕ
field name n = ascii name ++ decimal n

-- the texts f 0, f 1, .., f (n - 1), one after the other
unfoldable pub joined : (ℕ → List ℕ) → ℕ → List ℕ
joined f zero = []
joined f (suc n) = joined f n ++ f n

-- ---- line 1: §12.6

-- by the number of the kind: §8.2
abbrev pub kind_name : ℕ → String
kind_name zero = " none"
kind_name (suc zero) = " entry"
kind_name (suc (suc zero)) = " place"
kind_name (suc (suc (suc zero))) = " node"
kind_name (suc (suc (suc (suc k)))) = " record"

-- without its line end
unfoldable pub answer_text : ℕ → ℕ → ℕ → List ℕ
answer_text number kind index = field "answer " number ++ (ascii (kind_name kind) ++ field " " index)

unfoldable pub answer_line : ℕ → ℕ → ℕ → List ℕ
answer_line number kind index = answer_text number kind index ++ ascii "\n"

-- ---- the lines after line 1: §12.7

unfoldable pub counts_line : ℕ → ℕ → ℕ → List ℕ
counts_line nodes arcs awaits = field "nodes " nodes ++ (field " arcs " arcs ++ (field " awaits " awaits ++ ascii "\n"))

unfoldable pub bound_line : ℕ → ℕ → List ℕ
bound_line place bound = field "place " place ++ (field " bound " bound ++ ascii "\n")

unfoldable pub bound_line_of : List ℕ → ℕ → List ℕ
bound_line_of bounds p = bound_line p (get_or bounds p 0)

unfoldable pub bound_lines : List ℕ → List ℕ
bound_lines bounds = joined (bound_line_of bounds) (length bounds)

unfoldable pub word_of : List ℕ → ℕ → List ℕ
word_of words i = field " " (get_or words i 0)

-- each word after a blank
unfoldable pub words_text : List ℕ → List ℕ
words_text words = joined (word_of words) (length words)

unfoldable pub form_line : List ℕ → List ℕ
form_line form = ascii "short" ++ (words_text form ++ ascii "\n")

-- all lines of an accepted schedule; a refusal has line 1 only
unfoldable pub accepted_lines : ℕ → ℕ → ℕ → List ℕ → List ℕ → List ℕ
accepted_lines nodes arcs awaits bounds form = answer_line 0 0 0 ++ (counts_line nodes arcs awaits ++ (bound_lines bounds ++ form_line form))
