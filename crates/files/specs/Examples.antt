-- Worked files: their bytes, how many words are handed on at most, which words are handed on, and whether a tail was found; and all that is printed for two files.
use Rattle.std.specs.Prelude.{ℕ, List, [], ◌∷◌, Bool, true, false, ◌≡◌}
use Prim.Native.String.{String}
use Rattle.text.specs.Decimal.{ascii}
use Rattle.octets.specs.Words.{is_ragged, words_of}
use Rattle.files.specs.Printed.{printed}

pub record Example : Type 0 where
  pub bytes : List ℕ
  pub most : ℕ
  pub words : List ℕ
  pub ragged : Bool

abbrev pub whole : List ℕ → ℕ → List ℕ → Example
whole bytes most words = record { bytes = bytes; most = most; words = words; ragged = false }

abbrev pub tailed : List ℕ → ℕ → List ℕ → Example
tailed bytes most words = record { bytes = bytes; most = most; words = words; ragged = true }

abbrev pub table : List Example
table =
    -- no file: §12.2
    whole [] 2 [] ∷
    -- §12.1
    whole (1 ∷ 2 ∷ 3 ∷ 4 ∷ []) 2 (67305985 ∷ []) ∷
    whole (255 ∷ 255 ∷ 255 ∷ 255 ∷ []) 2 (4294967295 ∷ []) ∷
    -- tails: §12.4
    tailed (1 ∷ []) 2 [] ∷
    tailed (1 ∷ 2 ∷ []) 2 [] ∷
    tailed (1 ∷ 2 ∷ 3 ∷ []) 2 [] ∷
    tailed (1 ∷ 0 ∷ 0 ∷ 0 ∷ 9 ∷ []) 2 (1 ∷ []) ∷
    tailed (1 ∷ 0 ∷ 0 ∷ 0 ∷ 9 ∷ 9 ∷ 9 ∷ []) 2 (1 ∷ []) ∷
    -- as many words as are handed on at most, without a tail, and with one that is not looked for: §12.3
    whole (1 ∷ 0 ∷ 0 ∷ 0 ∷ 0 ∷ 1 ∷ 0 ∷ 0 ∷ []) 2 (1 ∷ 256 ∷ []) ∷
    whole (1 ∷ 0 ∷ 0 ∷ 0 ∷ 0 ∷ 1 ∷ 0 ∷ 0 ∷ 9 ∷ []) 2 (1 ∷ 256 ∷ []) ∷
    -- more words than are handed on: §12.3
    whole (1 ∷ 0 ∷ 0 ∷ 0 ∷ 0 ∷ 1 ∷ 0 ∷ 0 ∷ 9 ∷ 9 ∷ 9 ∷ 9 ∷ []) 2 (1 ∷ 256 ∷ []) ∷
    whole (1 ∷ 0 ∷ 0 ∷ 0 ∷ 0 ∷ 1 ∷ 0 ∷ 0 ∷ 9 ∷ 9 ∷ 9 ∷ 9 ∷ 9 ∷ []) 2 (1 ∷ 256 ∷ []) ∷ []

abbrev pub readings : List Example → List (List ℕ)
readings [] = []
readings (e ∷ es) = words_of e.most e.bytes ∷ readings es

abbrev pub words_in : List Example → List (List ℕ)
words_in [] = []
words_in (e ∷ es) = e.words ∷ words_in es

abbrev pub tails : List Example → List Bool
tails [] = []
tails (e ∷ es) = is_ragged e.most e.bytes ∷ tails es

abbrev pub tails_in : List Example → List Bool
tails_in [] = []
tails_in (e ∷ es) = e.ragged ∷ tails_in es

-- ---- all that is printed

-- words below 256, as the bytes of a file
abbrev pub small : List ℕ → List ℕ
small [] = []
small (word ∷ words) = word ∷ 0 ∷ 0 ∷ 0 ∷ small words

pub record Sample : Type 0 where
  pub net : List ℕ
  pub sheet : List ℕ
  pub text : String

abbrev pub sample : List ℕ → List ℕ → String → Sample
sample net sheet text = record { net = net; sheet = sheet; text = text }

-- §14.2
abbrev pub net_a : List ℕ
net_a = small (1 ∷ 2 ∷ 2 ∷ 1 ∷ 2 ∷ 1 ∷ 1 ∷ [])

abbrev pub samples : List Sample
samples =
    -- §14.4: the whole output for four nodes
    sample net_a (small (4 ∷ 6 ∷ 0 ∷ 3 ∷ 4 ∷ 7 ∷ 9 ∷ 11 ∷ 1 ∷ 2 ∷ 3 ∷ 0 ∷ 1 ∷ 1 ∷ [])) "answer 0 none 0\nnodes 4 arcs 4 awaits 2\nplace 0 bound 1\nshort 2 3 0 3 5 1 0 1\n"
    -- §14.1: two places
    ∷ sample (small (2 ∷ 3 ∷ 4 ∷ 2 ∷ 5 ∷ 6 ∷ 9 ∷ 1 ∷ 2 ∷ 1 ∷ 2 ∷ [])) (small (3 ∷ 5 ∷ 0 ∷ 4 ∷ 8 ∷ 11 ∷ 14 ∷ 1 ∷ 2 ∷ 0 ∷ 1 ∷ 2 ∷ []))
    "answer 0 none 0\nnodes 3 arcs 3 awaits 1\nplace 0 bound 1\nplace 1 bound 2\nshort 3 5 0 4 8 11 14 1 2 0 1 2\n"
    -- §12.6: a refusal at a node, at an entry and at a place
    ∷ sample net_a (small (1 ∷ 0 ∷ [])) "answer 11 node 0\n"
    ∷ sample net_a (small (2 ∷ 2 ∷ 0 ∷ 3 ∷ 1 ∷ 0 ∷ [])) "answer 15 entry 0\n"
    ∷ sample net_a (small (1 ∷ 1 ∷ 2 ∷ 1 ∷ [])) "answer 10 place 0\n"
    -- no files (§12.2), and tails (§12.4)
    ∷ sample [] [] "answer 1 none 0\n"
    ∷ sample (9 ∷ []) [] "answer 1 none 0\n"
    ∷ sample net_a (9 ∷ []) "answer 6 none 0\n"
    ∷ []

abbrev pub printings : List Sample → List (List ℕ)
printings [] = []
printings (s ∷ ss) = printed s.net s.sheet ∷ printings ss

abbrev pub texts_in : List Sample → List (List ℕ)
texts_in [] = []
texts_in (s ∷ ss) = ascii s.text ∷ texts_in ss

-- what is printed, byte by byte
abbrev pub SamplesPrinted : Type 0
SamplesPrinted = printings samples ≡ texts_in samples
