-- Compositions to try: the net, the sheets, and the fault or the words that are written.
use Rattle.refusal.specs.declared.Reason.TheVariants.{Dependent, NotOneChoiceSet, WrongNumber}
use Rattle.std.specs.Prelude.{ℕ, List, [], ◌∷◌, get_or}
use Rattle.std.proofs.Math.Option.{Option, none, some}
use Rattle.refusal.specs.Refusal.{refusal}
use Rattle.refusal.specs.declared.Position.TheVariants.{Nothing, Node}
use Rattle.sequential.specs.Petri.{petri_net}
use Rattle.refusal.specs.declared.Refusal.{Refusal}
use Rattle.composed.specs.Sheet.{composed_sheet}
use Rattle.composed.specs.Fault.{compose_fault, refused_sheet}

pub record Example : Type 0 where
  pub net : List ℕ
  pub number : ℕ
  pub sheets : List (List ℕ)
  pub fault : Option Refusal
  -- the sheet that the fault names
  pub index : Option ℕ
  -- what is written if there is no fault
  pub written : List ℕ

-- a and b fill A and B, x takes A, y takes B
abbrev pub apart : List ℕ
apart = 2 ∷ 4 ∷ 4 ∷ 4 ∷ 7 ∷ 8 ∷ 11 ∷ 1 ∷ 1 ∷ 1 ∷ 1 ∷ []

-- a x, and b y
abbrev pub apart_a : List ℕ
apart_a = 2 ∷ 3 ∷ 0 ∷ 6 ∷ 10 ∷ 1 ∷ 0 ∷ 1 ∷ []

abbrev pub apart_b : List ℕ
apart_b = 2 ∷ 3 ∷ 1 ∷ 7 ∷ 11 ∷ 1 ∷ 0 ∷ 1 ∷ []

-- three of the four tuples are reached: the two tasks are never busy at the same time
abbrev pub apart_both : List ℕ
apart_both = 3 ∷ 6 ∷ 0 ∷ 1 ∷ 6 ∷ 11 ∷ 14 ∷ 17 ∷ 1 ∷ 2 ∷ 0 ∷ 0 ∷ 1 ∷ 1 ∷ []

-- the net of §14.5, whose one flag either task takes for good
abbrev pub flag : List ℕ
flag = 4 ∷ 6 ∷ 10 ∷ 8 ∷ 10 ∷ 12 ∷ 17 ∷ 18 ∷ 21 ∷ 24 ∷ 29 ∷ 35 ∷ 50 ∷ 1 ∷ 1 ∷ 1 ∷ 1 ∷ 1 ∷ 1 ∷ 1 ∷ 1 ∷ 1 ∷ 1 ∷ []

-- a x, then a y for ever; b z, then b w for ever; a y for ever
abbrev pub flag_a : List ℕ
flag_a = 4 ∷ 10 ∷ 0 ∷ 8 ∷ 12 ∷ 21 ∷ 26 ∷ 28 ∷ 30 ∷ 35 ∷ 36 ∷ 39 ∷ 1 ∷ 2 ∷ 3 ∷ 2 ∷ 1 ∷ 1 ∷ 1 ∷ 1 ∷ 1 ∷ 1 ∷ []

abbrev pub flag_b : List ℕ
flag_b = 4 ∷ 8 ∷ 1 ∷ 10 ∷ 13 ∷ 23 ∷ 26 ∷ 29 ∷ 30 ∷ 37 ∷ 1 ∷ 2 ∷ 3 ∷ 2 ∷ 1 ∷ 1 ∷ 1 ∷ 1 ∷ []

abbrev pub flag_y : List ℕ
flag_y = 2 ∷ 5 ∷ 0 ∷ 9 ∷ 14 ∷ 16 ∷ 18 ∷ 1 ∷ 0 ∷ 1 ∷ 1 ∷ 1 ∷ []

abbrev pub flag_both : List ℕ
flag_both = 6 ∷ 15 ∷ 0 ∷ 1 ∷ 9 ∷ 16 ∷ 18 ∷ 19 ∷ 27 ∷ 35 ∷ 38 ∷ 40 ∷ 42 ∷ 45 ∷ 46 ∷ 52 ∷ 57 ∷ 1 ∷ 2 ∷ 0 ∷ 3 ∷ 4 ∷ 5 ∷ 3 ∷ 3 ∷ 1 ∷ 1 ∷ 1 ∷ 1 ∷ 1 ∷ 1 ∷ 1 ∷ []

abbrev pub table : List Example
table =
    record { net = apart; number = 2; sheets = apart_a ∷ apart_b ∷ []; fault = none; index = none; written = apart_both } ∷
    record { net = flag; number = 2; sheets = flag_y ∷ flag_b ∷ []; fault = none; index = none; written = flag_both } ∷
    -- both take the one F: after a x the sum at F is 0, after b z it would be - 1
    record { net = flag; number = 2; sheets = flag_a ∷ flag_b ∷ []; fault = some (refusal Dependent Nothing); index = none; written = [] } ∷
    -- one sheet for two sources, and in falling order: node 0 of the first sheet offers the removed source b
    record { net = apart; number = 1; sheets = apart_a ∷ []; fault = some (refusal WrongNumber Nothing); index = none; written = [] } ∷
    record { net = apart; number = 2; sheets = apart_b ∷ apart_a ∷ []; fault = some (refusal NotOneChoiceSet (Node 0)); index = some 0; written = [] } ∷
    -- a sheet of the whole net is no sheet of one source
    record { net = apart; number = 2; sheets = apart_a ∷ apart_both ∷ []; fault = some (refusal NotOneChoiceSet (Node 0)); index = some 1; written = [] } ∷
    -- one source: the sheet itself, here with its nodes renumbered breadth first
    record {
      net = 1 ∷ 2 ∷ 2 ∷ 1 ∷ 2 ∷ 1 ∷ 1 ∷ [];
      number = 1;
      sheets = (4 ∷ 6 ∷ 0 ∷ 3 ∷ 4 ∷ 7 ∷ 9 ∷ 11 ∷ 1 ∷ 2 ∷ 3 ∷ 0 ∷ 1 ∷ 1 ∷ []) ∷ [];
      fault = none;
      index = none;
      written = 4 ∷ 6 ∷ 0 ∷ 3 ∷ 4 ∷ 7 ∷ 9 ∷ 11 ∷ 1 ∷ 2 ∷ 3 ∷ 0 ∷ 1 ∷ 1 ∷ [];
    } ∷ []

abbrev pub sheet_at : List (List ℕ) → ℕ → List ℕ
sheet_at sheets i = get_or sheets i []

abbrev pub faults_of : List Example → List (Option Refusal)
faults_of [] = []
faults_of (e ∷ es) = compose_fault (petri_net e.net) e.number (sheet_at e.sheets) ∷ faults_of es

abbrev pub expected_faults : List Example → List (Option Refusal)
expected_faults [] = []
expected_faults (e ∷ es) = e.fault ∷ expected_faults es

abbrev pub words_where : Option Refusal → Example → List ℕ
words_where none e = composed_sheet (petri_net e.net) e.number (sheet_at e.sheets)
words_where (some f) e = []

abbrev pub words_of : List Example → List (List ℕ)
words_of [] = []
words_of (e ∷ es) = words_where e.fault e ∷ words_of es

abbrev pub expected_words : List Example → List (List ℕ)
expected_words [] = []
expected_words (e ∷ es) = e.written ∷ expected_words es

abbrev pub indices_of : List Example → List (Option ℕ)
indices_of [] = []
indices_of (e ∷ es) = refused_sheet (petri_net e.net) e.number (sheet_at e.sheets) ∷ indices_of es

abbrev pub expected_indices : List Example → List (Option ℕ)
expected_indices [] = []
expected_indices (e ∷ es) = e.index ∷ expected_indices es
