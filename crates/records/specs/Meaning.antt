-- What the parts of a record's meaning ask for and hand back. Assumes nothing.
use Rattle.std.specs.Prelude.{◌≡◌, Option, Some, None, List, ℕ, zero, suc, ◌≤◌, ◌<◌, length, get_or, take, drop}
use Rattle.rules.specs.Accept.{accept}
use Rattle.rules.specs.Calls.{Check, Refuse, and_then}
use Rattle.rules.specs.Records.{operation, kind_asked, bits_asked, top_asked, cells_asked, bit_named, check_form, check_unused, check_held, Step, keep, erase_step, change_step, read_step}
use Rattle.rules.specs.declared.Settings.{Settings}
use Rattle.rules.specs.declared.Setup.{Setup}
use Rattle.rules.specs.declared.Answer.TheVariants.{BadRecord}
use Rattle.records.specs.declared.Operation.{Operation}
use Rattle.records.specs.declared.Operation.TheVariants.{Erase, Change, Read}

-- what a record answers and the settings then held, with the cells after it
abbrev pub step_of : Setup → List ℕ → Step
step_of x ys = record { answer = x.answer; settings = x.settings; cells = ys }

-- ---- what the tests for BadRecord ask for

-- a whole record of a known operation, its last byte 0
pub record Form (rec : List ℕ) : Type 0 where
  pub whole : length rec ≡ 8
  pub least : 1 ≤ operation rec
  pub most : operation rec ≤ 3
  pub last : get_or rec 7 0 ≡ 0

-- a sheet is held, and the record has its settings
pub record HeldFacts (rec : List ℕ) (r : Settings) : Type 0 where
  pub held : 0 < r.k
  pub kind : kind_asked rec ≡ r.kind
  pub bits : bits_asked rec ≡ r.k
  pub top : top_asked rec ≡ r.top
  pub cells : cells_asked rec ≡ r.n

-- a sheet is held, and these are its settings
abbrev pub SameAsked : ℕ → ℕ → ℕ → ℕ → Settings → Type 0
SameAsked kind k L n r = (0 < r.k) × (kind ≡ r.kind) × (k ≡ r.k) × (L ≡ r.top) × (n ≡ r.n)

-- ---- a record's tests apart from its work

-- the tests that an operation adds
abbrev pub check_use : ℕ → List ℕ → Settings → Check
check_use zero rec r = Refuse BadRecord
check_use (suc zero) rec r = check_unused rec
check_use (suc (suc zero)) rec r = check_held rec r
check_use (suc (suc (suc op))) rec r = and_then (check_unused rec) (check_held rec r)

-- every test for BadRecord
abbrev pub check_record : List ℕ → Settings → Check
check_record rec r = and_then (check_form rec) (check_use (operation rec) rec r)

-- the settings that a record asks for, as they are accepted
abbrev pub asked : List ℕ → Settings
asked rec = accept (kind_asked rec) (bits_asked rec) (top_asked rec) (cells_asked rec)

-- an operation's work
abbrev pub work : ℕ → List ℕ → Settings → List ℕ → Step
work zero rec r xs = keep r xs BadRecord
work (suc zero) rec r xs = erase_step (asked rec) r xs
work (suc (suc zero)) rec r xs = change_step r xs (bit_named rec)
work (suc (suc (suc op))) rec r xs = read_step r xs

-- what is asked for, done; where there is no operation the record is refused
abbrev pub asked_step : Option Operation → Settings → List ℕ → Step
asked_step (Some (Erase new)) r xs = erase_step new r xs
asked_step (Some (Change i)) r xs = change_step r xs i
asked_step (Some Read) r xs = read_step r xs
asked_step None r xs = keep r xs BadRecord

-- ---- the cells of a sheet

-- a is n cut to the length of xs: the first a cells are the first n, and what stands after them is the same
pub record Front (n : ℕ) (xs : List ℕ) (a : ℕ) : Type 0 where
  pub inside : a ≤ length xs
  pub most : a ≤ n
  pub counted : a ≡ length (take a xs)
  pub part : take a xs ≡ take n xs
  pub rest : drop a xs ≡ drop n xs
