-- What each call answers and leaves, for any input at all (01, "What each call answers"). Assumes nothing.
use Rattle.std.specs.Prelude.{List, ◌++◌, ℕ, zero, suc, ◌-◌, length, drop, replicate}
use Rattle.std.proofs.Math.Decide.{ℕ_discrete, dec_le, dec_lt}
use Rattle.rules.specs.Search.{pick, Found, at, nowhere, Result, done, no_place_left}
use Rattle.rules.specs.Cells.{sum, first_above, tabulate}
use Rattle.rules.specs.Plain as P
use Rattle.rules.specs.Staged.{read_cells, change_cells}
use Rattle.rules.specs.Batches as B
use Rattle.rules.specs.Accept.{accept, genuine?, guarantee}
use Rattle.rules.specs.Answer.{sort_of, if_made}
use Rattle.rules.specs.declared.Settings.{Settings}
use Rattle.rules.specs.declared.Setup.{Setup}
use Rattle.rules.specs.declared.Answer.{Answer}
use Rattle.rules.specs.declared.Answer.TheVariants.{Done, BadShape, BadLength, ShortOutput, BadBit, BadLevel, BadSheet, Erase}

-- ---- what the cells of a sheet say, by the kind of its settings

-- the sheet rules of a kind
abbrev pub SoundAt : ℕ → Settings → List ℕ → Type 0
SoundAt zero r xs = P.Sound r.k r.top r.m r.n xs
SoundAt (suc kind) r xs = B.Sound r.s r.m r.top r.w r.n xs

-- the sheet keeps the sheet rules
abbrev pub Sound : Settings → List ℕ → Type 0
Sound r xs = SoundAt r.kind r xs

-- whether it keeps those of a kind
abbrev pub sound_at? : (kind : ℕ) (r : Settings) (xs : List ℕ) → Dec (SoundAt kind r xs)
sound_at? zero r xs = P.sound? r.k r.top r.m r.n xs
sound_at? (suc kind) r xs = B.sound? r.s r.m r.top r.w r.n xs

-- whether it does
unfoldable pub sound? : (r : Settings) (xs : List ℕ) → Dec (Sound r xs)
sound? r xs = sound_at? r.kind r xs

-- the decoding map of a kind
abbrev pub read_at : ℕ → Settings → List ℕ → ℕ → ℕ
read_at zero r xs i = P.read r.k r.top r.m xs i
read_at (suc kind) r xs i = read_cells r.s r.m r.top (B.decode r.s r.m r.top r.w) xs i

-- the value of bit i: the decoding map of the sheet's stage
unfoldable pub read_bit : Settings → List ℕ → ℕ → ℕ
read_bit r xs i = read_at r.kind r xs i

-- the k bits, bit 0 first
abbrev pub bits_of : Settings → List ℕ → List ℕ
bits_of r xs = tabulate r.k (read_bit r xs)

-- the encoding map of a kind
abbrev pub change_at : ℕ → Settings → List ℕ → ℕ → Result (List ℕ)
change_at zero r xs i = P.change r.k r.top r.m i xs
change_at (suc kind) r xs i = change_cells r.s r.m r.top (B.decode r.s r.m r.top r.w) (B.write r.s r.m r.top r.w) i xs

-- the sheet after a change of bit i: the encoding map of the sheet's stage
unfoldable pub change_sheet : Settings → List ℕ → ℕ → Result (List ℕ)
change_sheet r xs i = change_at r.kind r xs i

-- ---- the checks

-- what a check finds: nothing against the call, or its refusal
pub data Check : Type 0 where
  Pass : Check
  Refuse : Answer → Check

-- an answer as a check's: one that is made passes, any other is its refusal
abbrev pub as_check : Answer → Check
as_check a = if_made (sort_of a) Pass (Refuse a)

-- a check passes, or refuses with its answer
abbrev pub ask : {A : Type 0} → Dec A → Answer → Check
ask d a = pick d Pass (Refuse a)

-- checks run in order, and a refused check ends the call there
abbrev pub and_then : Check → Check → Check
and_then Pass c = c
and_then (Refuse a) c = Refuse a

-- 1: the record is one that acceptance gives
abbrev pub check_shape : Settings → Check
check_shape r = ask (genuine? r) BadShape

-- 2: the sheet's length is n
abbrev pub check_length : Settings → List ℕ → Check
check_length r xs = ask (ℕ_discrete (length xs) r.n) BadLength

-- 3: the output has k places
abbrev pub check_output : Settings → List ℕ → Check
check_output r out = ask (dec_le r.k (length out)) ShortOutput

-- 4: the bit's number is below k
abbrev pub check_bit : Settings → ℕ → Check
check_bit r i = ask (dec_lt i r.k) BadBit

-- a cell found above L is refused, with its number
abbrev pub level_check : Found → Check
level_check nowhere = Pass
level_check (at c) = Refuse (BadLevel c)

-- 5: no cell is above L
abbrev pub check_levels : Settings → List ℕ → Check
check_levels r xs = level_check (first_above r.top xs)

-- 6: the sheet keeps the sheet rules
abbrev pub check_sheet : Settings → List ℕ → Check
check_sheet r xs = ask (sound? r xs) BadSheet

-- erase runs checks 1 and 2
abbrev pub erase_checks : Settings → List ℕ → Check
erase_checks r xs = and_then (check_shape r) (check_length r xs)

-- a call on a sheet runs 1 and 2, the check of what it asks for itself, and then 5 and 6
abbrev pub sheet_checks : Settings → List ℕ → Check → Check
sheet_checks r xs own = and_then (check_shape r) (and_then (check_length r xs) (and_then own (and_then (check_levels r xs) (check_sheet r xs))))

-- read runs checks 1, 2, 3, 5 and 6
abbrev pub read_checks : Settings → List ℕ → List ℕ → Check
read_checks r xs out = sheet_checks r xs (check_output r out)

-- change runs checks 1, 2, 4, 5 and 6; the seventh is the encoding map's own
abbrev pub change_checks : Settings → List ℕ → ℕ → Check
change_checks r xs i = sheet_checks r xs (check_bit r i)

-- ---- the calls

-- a record of no bits is the record of zeros
abbrev pub setup_of : Settings → Setup
setup_of r = record { answer = pick (dec_lt 0 r.k) (Done (guarantee r)) BadShape; settings = r }

-- settings: the guarantee and the record, or BadShape and the record of zeros
unfoldable pub settings_call : ℕ → ℕ → ℕ → ℕ → Setup
settings_call kind k L n = setup_of (accept kind k L n)

-- what erase and change answer, and the sheet after them
pub record Outcome : Type 0 where
  pub answer : Answer
  pub sheet : List ℕ

-- an answer with the sheet after it
abbrev pub outcome : Answer → List ℕ → Outcome
outcome a ys = record { answer = a; sheet = ys }

-- a refusal leaves the sheet as it was
abbrev pub erasing : Settings → List ℕ → Check → Outcome
erasing r xs (Refuse a) = record { answer = a; sheet = xs }
erasing r xs Pass = record { answer = Done (guarantee r); sheet = replicate r.n 0 }

-- erase: all n cells are set to 0
unfoldable pub erase_call : Settings → List ℕ → Outcome
erase_call r xs = erasing r xs (erase_checks r xs)

-- levels raised: the sum after less the sum before; no place leaves the sheet as it was
abbrev pub changed : List ℕ → Result (List ℕ) → Outcome
changed xs (done ys) = record { answer = Done (sum ys - sum xs); sheet = ys }
changed xs no_place_left = record { answer = Erase; sheet = xs }

-- a refusal leaves the sheet as it was
abbrev pub changing : Settings → List ℕ → ℕ → Check → Outcome
changing r xs i (Refuse a) = record { answer = a; sheet = xs }
changing r xs i Pass = changed xs (change_sheet r xs i)

-- change: the sheet of the encoding map and the levels raised, or Erase where it finds no place
unfoldable pub change_call : Settings → List ℕ → ℕ → Outcome
change_call r xs i = changing r xs i (change_checks r xs i)

-- what a reading answers, and the places of the output after it
pub record Reading : Type 0 where
  pub answer : Answer
  pub places : List ℕ

-- an answer with the output after it
abbrev pub read_out : Answer → List ℕ → Reading
read_out a places = record { answer = a; places = places }

-- a refusal leaves every place as it was
abbrev pub reading : Settings → List ℕ → List ℕ → Check → Reading
reading r xs out (Refuse a) = record { answer = a; places = out }
reading r xs out Pass = record { answer = Done (sum (bits_of r xs)); places = bits_of r xs ++ drop r.k out }

-- read: the k bits and how many are 1; no place after them is touched
unfoldable pub read_call : Settings → List ℕ → List ℕ → Reading
read_call r xs out = reading r xs out (read_checks r xs out)
