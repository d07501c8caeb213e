-- A refusal (§7.51): its reason, which has a number, and what its position counts; what a check answers; and answers as plain numbers.
use Rattle.std.specs.Prelude.{ℕ, List, [], ◌∷◌, ◌++◌, get_or, Result, Err, Ok}
use Rattle.refusal.specs.declared.Position.{Position}
use Rattle.refusal.specs.declared.Position.TheVariants.{Nothing, Entry, Place, Node, Record}
use Rattle.refusal.specs.declared.Reason.{Reason}
use Rattle.refusal.specs.declared.Reason.TheVariants.{NetLength, NetSize, NetOrder, NetWeight, NoSource, ScheduleLength, ScheduleSize, ScheduleOrder, ScheduleValue, WrongStart, NoArc, NotOneChoiceSet, RootNotAwait, NotHeld, WrongTarget, NotReached, NoPathToAwait, NoSuchNode, WrongCounts, NotOffered, SmallScratch, SmallOutput, LogShape, WrongNode, NoCountsFit, StartOverCapacity, OverCapacity, WrongNumber, TooLarge, Dependent, BrokenWord, BadDuration, EndlessReaction}
use Rattle.refusal.specs.declared.Refusal.{Refusal}

abbrev pub refusal : Reason → Position → Refusal
refusal reason position = record { reason = reason; at = position }

-- what a check without numbers of its own answers
abbrev pub Verdict : Type 0
Verdict = Result Unit Refusal

-- ---- the numbers of part 7, reason by reason

abbrev pub reason_number : Reason → ℕ
reason_number NetLength = 1
reason_number NetSize = 2
reason_number NetOrder = 3
reason_number NetWeight = 4
reason_number NoSource = 5
reason_number ScheduleLength = 6
reason_number ScheduleSize = 7
reason_number ScheduleOrder = 8
reason_number ScheduleValue = 9
reason_number WrongStart = 10
reason_number NoArc = 11
reason_number NotOneChoiceSet = 12
reason_number RootNotAwait = 13
reason_number NotHeld = 14
reason_number WrongTarget = 15
reason_number NotReached = 16
reason_number NoPathToAwait = 17
reason_number NoSuchNode = 18
reason_number WrongCounts = 19
reason_number NotOffered = 20
reason_number SmallScratch = 21
reason_number SmallOutput = 22
reason_number LogShape = 23
reason_number WrongNode = 24
reason_number NoCountsFit = 25
reason_number StartOverCapacity = 26
reason_number OverCapacity = 27
reason_number WrongNumber = 28
reason_number TooLarge = 29
reason_number Dependent = 30
reason_number BrokenWord = 31
reason_number BadDuration = 32
reason_number EndlessReaction = 33

abbrev pub refusal_number : Refusal → ℕ
refusal_number r = reason_number r.reason

-- ---- plain numbers, case by case (§13.9): six for every answer, three of which are the call's own (§8.1)

-- the kind of a position (§8.2), and its index, 0 if it counts nothing (§7.52)
abbrev pub plain_position : Position → List ℕ
plain_position Nothing = 0 ∷ 0 ∷ []
plain_position (Entry i) = 1 ∷ i ∷ []
plain_position (Place i) = 2 ∷ i ∷ []
plain_position (Node i) = 3 ∷ i ∷ []
plain_position (Record i) = 4 ∷ i ∷ []

-- a refusal: every number of the call's own is 0 (§8.3)
abbrev pub plain_refusal : Refusal → List ℕ
plain_refusal r = refusal_number r ∷ (plain_position r.at ++ (0 ∷ 0 ∷ 0 ∷ []))

-- an answer, by the call's own three numbers if nothing is refused
abbrev pub plain_answer : {A : Type 0} → (A → List ℕ) → Result A Refusal → List ℕ
plain_answer own (Ok a) = 0 ∷ 0 ∷ 0 ∷ own a
plain_answer own (Err r) = plain_refusal r

-- the answer of a call without own numbers: they are 0 (§8.4)
abbrev pub plain_verdict : Verdict → List ℕ
plain_verdict verdict = plain_answer (λ u. 0 ∷ 0 ∷ 0 ∷ []) verdict

-- ---- its parts

abbrev pub number_of : Verdict → ℕ
number_of (Ok tt) = 0
number_of (Err r) = refusal_number r

abbrev pub position_of : Verdict → Position
position_of (Ok tt) = Nothing
position_of (Err r) = r.at

abbrev pub kind_of : Position → ℕ
kind_of position = get_or (plain_position position) 0 0

abbrev pub index_of : Position → ℕ
index_of position = get_or (plain_position position) 1 0
