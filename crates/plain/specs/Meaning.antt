-- What a scan of the blocks finds, in terms of their states. Assumes nothing.
use Rattle.std.specs.Prelude.{Bool, true, false, ◌≡◌, List, [], ◌∷◌, ℕ, ◌+◌, ◌*◌, ◌≤◌, ◌<◌, get_or, Option, Some, None}
use Rattle.std.proofs.Math.Decide.{ℕ_discrete}
use Rattle.laws.specs.Distinct.{Distinct}
use Rattle.rules.specs.Search.{Found, at, both?, done, no_place_left, nowhere, pick}
use Rattle.rules.specs.SearchLaws.{First}
use Rattle.rules.specs.Cells.{tabulate, block, store, sum}
use Rattle.rules.specs.Block.{State, active, cycle}
use Rattle.rules.specs.Plain.{HasBit, IsEmpty, BlocksOk, Spare, blocks_ok?, states, change}
use Rattle.rules.specs.Stage.{absent?}
use Rattle.rules.specs.declared.Answer.{Answer}
use Rattle.rules.specs.declared.Answer.TheVariants.{BadSheet, Done}
use Rattle.rules.specs.declared.Settings.{Settings}
use Rattle.plan.specs.declared.Look.{Look}
use Rattle.plan.specs.declared.Place as Looked
use Rattle.plan.specs.Meaning.{LookOf, value_in}
use Rattle.plan.specs.declared.Plan.{Plan}
use Rattle.plan.specs.declared.Plan.TheVariants.{Nowhere, Step}

-- no block below j has bit i
abbrev pub Free : (ℕ → State) → ℕ → ℕ → Type 0
Free st j i = (y : ℕ) → y < j → ¬ (HasBit i (st y))

-- the first place below j where P holds; m stands for none
pub data Place (P : ℕ → Type 0) (j m : ℕ) : ℕ → Type 0 where
  some : (x : ℕ) → x < j → P x → ((y : ℕ) → y < x → ¬ (P y)) → Place P j m x
  none : ((y : ℕ) → y < j → ¬ (P y)) → Place P j m m

-- bit i below block j: its block and its weight, or none
pub data Held (st : ℕ → State) (i j : ℕ) : Option Looked.Place → Type 0 where
  held : (p : Looked.Place) → p.block < j → st p.block ≡ active i p.weight → Free st p.block i → Held st i j (Some p)
  free : Free st j i → Held st i j None

-- the number of the block that a look has, or none
abbrev pub block_found : Option Looked.Place → Found
block_found (Some p) = at p.block
block_found None = nowhere

-- every block from a number on weighs nothing
abbrev pub EmptyFrom : ℕ → List ℕ → ℕ → ℕ → Type 0
EmptyFrom k xs from m = (y : ℕ) → from ≤ y → y < m → sum (block k xs y) ≡ 0

-- whether no number stands twice
unfoldable pub distinct? : (xs : List ℕ) → Dec (Distinct xs)
distinct? [] = yes tt
distinct? (x ∷ xs) = both? (absent? x xs) (distinct? xs)

-- what the search for a repeat answers: Done where no bit stands twice, else BadSheet
abbrev pub differing : List ℕ → Answer
differing bits = pick (distinct? bits) (Done 0) BadSheet

-- what a scan answers: BadSheet where the n bits noted are k and the last block in use is full, else the answer given
abbrev pub closing : Bool → ℕ → ℕ → Answer → Answer
closing true n k a = pick (ℕ_discrete n k) BadSheet a
closing false n k a = a

-- block j, of this weight; at stage 0 no index block goes with it
abbrev pub block_at : ℕ → ℕ → Looked.Place
block_at j weight = record { block = j; slot = 0; weight = weight }

-- the look of stage 0 with this answer, these blocks of the bits, and this first empty block
abbrev pub look_of : Answer → List (Option Looked.Place) → Option Looked.Place → Look
look_of answer bits e = record { answer = answer; batch = 0; bits = bits; free = e }

-- what a scan says of the m blocks: Done, of stage 0, where they keep the rules, else BadSheet; and where they do, the first empty block and every bit's block and weight
pub record Scanned (k L m : ℕ) (xs : List ℕ) (r : Look) : Type 0 where
  pub answer : r.answer ≡ pick (blocks_ok? k L m xs) (Done 0) BadSheet
  pub first : BlocksOk k L m xs → First (λ j. IsEmpty (states k L xs j)) m (block_found r.free)
  pub bits : BlocksOk k L m xs → (i : ℕ) → i < k → Held (states k L xs) i m (get_or r.bits i None)

-- a step of the block that a bit has, or else a new one of an empty block; or no place
abbrev pub step_in : Option Looked.Place → Option Looked.Place → Plan
step_in (Some p) e = Step p.block p.weight
step_in None (Some p) = Step p.block 0
step_in None None = Nowhere

-- the plan that a scan gives for a change of bit i: the next step of its block, or else of the first empty one
abbrev pub plan_in : Look → ℕ → Plan
plan_in s i = step_in (get_or s.bits i None) s.free

-- what a plan means for the change of bit i: a block takes its next step from the weight that it has on the bit's cycle, or there is no place
pub data PlaceOf (k L m i : ℕ) (xs : List ℕ) : Plan → Type 0 where
  step : (j v : ℕ) → j < m → v < k * L → block k xs j ≡ cycle k L i v → change k L m i xs ≡ done (store k xs j (cycle k L i (v + 1))) → PlaceOf k L m i xs (Step j v)
  erase : change k L m i xs ≡ no_place_left → PlaceOf k L m i xs Nowhere

-- the values of k bits, from their blocks
abbrev pub parities : ℕ → List (Option Looked.Place) → List ℕ
parities k bits = tabulate k (value_in bits)

-- ---- the whole sheet

-- a plain sheet that keeps the rules
pub record SeenPlain (r : Settings) (f : List ℕ) (b : Look) : Type 0 where
  pub passed : b.answer ≡ Done 0
  pub blocks : Scanned r.k r.top r.m f b
  pub spare : Spare (r.m * r.k) r.n f

-- check 6 of a plain sheet
abbrev pub PlainLook : Settings → List ℕ → Look → Type 0
PlainLook r f b = LookOf (λ v. (v ≡ 0) × SeenPlain r f b) r f b
