-- What index blocks say and how they are written, above a floor: each digit is stored as the floor and at most `step` levels more. Assumes nothing.
use Rattle.std.specs.Prelude.{List, Option, Some, None, ◌≡◌, ℕ, suc, ◌+◌, ◌-◌, ◌*◌, ◌/◌, ◌%◌, ◌^◌, ◌≤◌, ◌<◌, length}
use Rattle.std.proofs.Math.Decide.{dec_lt}
use Rattle.laws.specs.Regions.{Steady, less, over, plus}
use Rattle.rules.specs.Batches.{entry_cells, entry_of}
use Rattle.rules.specs.Cells.{Low, block}
use Rattle.rules.specs.Search.{Found, first}
use Rattle.rules.specs.Stage.{Entry, index, closed}
use Rattle.index.specs.declared.Index.{Index}
use Rattle.index.specs.declared.Index.TheVariants.{Number, Full}
use Rattle.index.specs.declared.Region.{Region}

-- ---- one index block

-- what an index block says, in the rules' words
abbrev pub as_entry : Index → Entry
as_entry (Number u) = index u
as_entry Full = closed

-- what an index block of w cells says
abbrev pub said : ℕ → ℕ → ℕ → List ℕ → Entry
said floor step w b = entry_of step w (less floor b)

-- the w cells of an index block that says e
abbrev pub cells_at : ℕ → ℕ → ℕ → Entry → List ℕ
cells_at floor step w e = plus floor (entry_cells step w e)

-- w cells can say e: a number has no more than w digits
abbrev pub Holds : ℕ → ℕ → Entry → Type 0
Holds step w closed = Unit {0}
Holds step w (index u) = u < suc step ^ w

-- the last digit of what an index block says; each digit of a full one is the greatest
abbrev pub last_digit : ℕ → Entry → ℕ
last_digit step (index u) = u % suc step
last_digit step closed = step

-- and what the digits before it say
abbrev pub before_last : ℕ → Entry → Entry
before_last step (index u) = index (u / suc step)
before_last step closed = closed

-- ---- the next index block that isn't full

-- the region of a stage that has all levels up to L to itself
abbrev pub whole_region : ℕ → ℕ → ℕ → Region
whole_region cell w L = record { cell = cell; width = w; floor = 0; step = L }

-- what index block x of a region says, where batch is the region's cells
abbrev pub entry_at : Region → List ℕ → ℕ → Entry
entry_at region batch x = said region.floor region.step region.width (block region.width batch x)

-- the index blocks from one number up to another are all full
abbrev pub ClosedFrom : Region → List ℕ → ℕ → ℕ → Type 0
ClosedFrom region batch from to = (x : ℕ) → from ≤ x → x < to → entry_at region batch x ≡ closed

-- what the look for the next index block that isn't full asks of a region of q index blocks
pub record BatchFits (region : Region) (q : ℕ) (batch : List ℕ) : Type 0 where
  pub holds : q * region.width ≤ length batch
  pub narrow : suc region.step ^ region.width ≤ 16777216
  pub steady : Steady region.step region.floor batch

-- what it answers: the first from a number on, with its own number; or none, where all from there on are full
pub data NextIndex (region : Region) (batch : List ℕ) (q from : ℕ) : Option (ℕ × ℕ) → Type 0 where
  next-at : (x u : ℕ) → from ≤ x → x < q → ClosedFrom region batch from x → entry_at region batch x ≡ index u → NextIndex region batch q from (Some (x, u))
  next-nowhere : ClosedFrom region batch from q → NextIndex region batch q from None

-- ---- the stage

-- place p has region p / per and floor p % per * step; a cell of the stage with d left, at place stages - 1 - d, stands above its floor
abbrev pub Above : ℕ → ℕ → ℕ → ℕ → List ℕ → ℕ → Type 0
Above cells stages per step xs d = 0 < over ((stages - 1 - d) % per * step) (block cells xs ((stages - 1 - d) / per))

-- how many stages are left at the last one of which a cell stands above its floor
abbrev pub stage_left : ℕ → ℕ → ℕ → ℕ → List ℕ → Found
stage_left cells stages per step xs = first {P = Above cells stages per step xs} (λ d. dec_lt 0 (over ((stages - 1 - d) % per * step) (block cells xs ((stages - 1 - d) / per)))) stages

-- what the look for the stage asks: regions of `cells` cells, each of which serves `per` stages of `step` levels, and as many of them as the stages need
pub record RegionsFit (cells regions stages per step : ℕ) (xs : List ℕ) : Type 0 where
  pub served : regions ≡ (stages + per - 1) / per
  pub inside : regions * cells ≤ length xs
  pub few : stages ≤ 65536
  pub some : 1 ≤ per
  pub up : 1 ≤ step
  pub low : Low (per * step) xs
