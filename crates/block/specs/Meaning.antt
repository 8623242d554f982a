-- What the answers on one block mean, as definitions of the rules. Assumes nothing.
use Rattle.std.specs.Prelude.{ℕ, ◌+◌, ◌-◌, ◌%◌, min, List, [], ◌∷◌}
use Rattle.std.proofs.Math.Decide.{dec_lt}
use Rattle.rules.specs.Block.{State, empty, full, broken, active}
use Rattle.rules.specs.Cells.{sum}
use Rattle.rules.specs.Search.{pick}
use Rattle.block.specs.declared.BlockState.{BlockState}
use Rattle.block.specs.declared.BlockState.TheVariants.{Empty, Full, Active, Broken}
use Rattle.block.specs.declared.Shape.{Shape}

-- the state that a look at a block found
abbrev pub as_state : BlockState → State
as_state Empty = empty
as_state Full = full
as_state (Active bit v) = active bit v
as_state Broken = broken

-- the level of a run's last cell; d where there is no cell
unfoldable pub last_of : ℕ → List ℕ → ℕ
last_of d [] = d
last_of d (x ∷ xs) = last_of x xs

-- 1 where level x is higher than level a, else 0: the difference, cut at 1
unfoldable pub higher : ℕ → ℕ → ℕ
higher a x = min 1 (x - a)

-- how many cells are higher than the one before them; before the first comes level a
unfoldable pub rises : ℕ → List ℕ → ℕ
rises a [] = 0
rises a (x ∷ xs) = higher a x + rises x xs

-- the numbers of the cells that are higher than the one before them, added up; the run begins with cell i, and before it comes level a
unfoldable pub rise_cells : ℕ → ℕ → List ℕ → ℕ
rise_cells i a [] = 0
rise_cells i a (x ∷ xs) = pick (dec_lt a x) i 0 + rise_cells (i + 1) x xs

-- how many cells are above 0
unfoldable pub nonzero : List ℕ → ℕ
nonzero [] = 0
nonzero (x ∷ xs) = higher 0 x + nonzero xs

-- how many cells are not below L
unfoldable pub tops : ℕ → List ℕ → ℕ
tops L [] = 0
tops L (x ∷ xs) = 1 - higher x L + tops L xs

-- a block's shape; before cell 0 comes the last, and the two sums are what 256 leaves of them
abbrev pub shape_of : ℕ → List ℕ → Shape
shape_of L b = record {
  rises = rises (last_of 0 b) b;
  start = rise_cells 0 (last_of 0 b) b % 256;
  nonzero = nonzero b;
  tops = tops L b;
  total = sum b % 256;
}
