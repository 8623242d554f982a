-- The number and the value of each answer (01, "What each call answers"), and its sort. Assumes nothing.
use Rattle.std.specs.Prelude.{ℕ}
use Rattle.rules.specs.declared.Answer.{Answer}
use Rattle.rules.specs.declared.Answer.TheVariants.{Done, BadShape, BadLength, ShortOutput, BadBit, BadLevel, BadSheet, Erase, BadRecord}

-- the answer's number
abbrev pub number_of : Answer → ℕ
number_of (Done v) = 0
number_of BadShape = 1
number_of BadLength = 2
number_of ShortOutput = 3
number_of BadBit = 4
number_of (BadLevel c) = 5
number_of BadSheet = 6
number_of Erase = 7
number_of BadRecord = 8

-- the value returned with it: 0 unless a rule names another
abbrev pub value_of : Answer → ℕ
value_of (Done v) = v
value_of BadShape = 0
value_of BadLength = 0
value_of ShortOutput = 0
value_of BadBit = 0
value_of (BadLevel c) = c
value_of BadSheet = 0
value_of Erase = 0
value_of BadRecord = 0

-- what an answer says of a call: it is made, the maps find no place for it, or a check refuses it
pub data Sort : Type 0 where
  made stuck refusal : Sort

-- the sort of each answer: only Done is made, and only Erase says that there is no place
abbrev pub sort_of : Answer → Sort
sort_of (Done v) = made
sort_of BadShape = refusal
sort_of BadLength = refusal
sort_of ShortOutput = refusal
sort_of BadBit = refusal
sort_of (BadLevel c) = refusal
sort_of BadSheet = refusal
sort_of Erase = stuck
sort_of BadRecord = refusal

-- the first where the call is made, else the second
abbrev pub if_made : {A : Type 0} → Sort → A → A → A
if_made made x y = x
if_made stuck x y = y
if_made refusal x y = y
