-- What the checks of a call find, and a look at a sheet of either kind. Assumes nothing.
use Rattle.std.specs.Prelude.{◌≡◌, Bool, true, false, List, ℕ, length}
use Rattle.std.proofs.Math.Decide.{ℕ_discrete, dec_le, dec_lt}
use Rattle.rules.specs.Accept.{Genuine}
use Rattle.rules.specs.AcceptLaws.{PlainFacts, StagedFacts}
use Rattle.rules.specs.Calls.{Check, and_then, ask, as_check, check_levels, check_shape, sheet_checks}
use Rattle.rules.specs.declared.Answer.{Answer}
use Rattle.rules.specs.declared.Answer.TheVariants.{BadBit, BadLength, Done, Erase, ShortOutput}
use Rattle.rules.specs.declared.Settings.{Settings}
use Rattle.plain.specs.Meaning.{SeenPlain}
use Rattle.plan.specs.Meaning.{Levelled, LookOf}
use Rattle.plan.specs.declared.Look.{Look}
use Rattle.plan.specs.declared.Plan.{Plan}
use Rattle.plan.specs.declared.Plan.TheVariants.{Close, Move, Nowhere, Raise, Step, Take}
use Rattle.staged.specs.Meaning.{StagedSeen}
use Rattle.sheet.specs.declared.checks.Asked.{Asked}
use Rattle.sheet.specs.declared.checks.Asked.TheVariants.{Bit, Places}
use Rattle.sheet.specs.declared.accepted.Accepted.{Accepted}
use Rattle.sheet.specs.declared.accepted.Accepted.TheVariants.{Plain, Staged}

-- ---- the kinds

-- accepted settings of either kind
abbrev pub settings_of : Accepted → Settings
settings_of (Plain of) = of.settings
settings_of (Staged of) = of.settings

-- ---- the checks, in number order

-- a test's answer: Done with what was found where it holds, else its refusal
abbrev pub answer_if : Bool → ℕ → Answer → Answer
answer_if true v a = Done v
answer_if false v a = a

-- 3 or 4: what the call asks for itself
abbrev pub check_asked : ℕ → Asked → Check
check_asked k (Places places) = ask (dec_le k places) ShortOutput
check_asked k (Bit i) = ask (dec_lt i k) BadBit

-- 1 and 2, of a sheet of so many cells
abbrev pub size_checks : Settings → ℕ → Check
size_checks r cells = and_then (check_shape r) (ask (ℕ_discrete cells r.n) BadLength)

-- 1 to 5
abbrev pub first_checks : Settings → List ℕ → Asked → Check
first_checks r xs asked = and_then (size_checks r (length xs)) (and_then (check_asked r.k asked) (check_levels r xs))

-- 7: the maps find a place
abbrev pub place_check : Plan → Answer
place_check (Step j v) = Done 0
place_check (Raise j) = Done 0
place_check (Close j a) = Done 0
place_check (Take j a up) = Done 0
place_check (Move e) = Done 0
place_check Nowhere = Erase

-- ---- the look

-- a sheet that keeps the rules, at stage v: one constructor for each kind, with its facts
pub data Seen (r : Settings) (f : List ℕ) (b : Look) : ℕ → Type 0 where
  plain : PlainFacts r → SeenPlain r f b → Seen r f b 0
  staged : {v : ℕ} → StagedFacts r → StagedSeen r f b v → Seen r f b v

-- check 6
abbrev pub SheetLook : Settings → List ℕ → Look → Type 0
SheetLook r f b = LookOf (Seen r f b) r f b

-- checks 1 to 6: the first refusal, or a look at a sheet that every check passed
pub record LookAt (r : Settings) (xs : List ℕ) (asked : Asked) (b : Look) : Type 0 where
  pub told : as_check b.answer ≡ sheet_checks r xs (check_asked r.k asked)
  pub look : (v : ℕ) → b.answer ≡ Done v → Genuine r × Levelled r xs × SheetLook r xs b
