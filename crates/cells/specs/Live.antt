-- What the look at cells cut into blocks answers: the blocks that aren't full, one after the other. Assumes nothing.
use Rattle.std.specs.Prelude.{◌≡◌, ◌≢◌, ℕ, ◌+◌, ◌*◌, ◌≤◌, ◌<◌, Option, Some, None}
use Rattle.rules.specs.Cells.{block, sum}
use Rattle.cells.specs.declared.blocks.Blocks.{Blocks}
use Rattle.cells.specs.declared.blocks.LiveBlocks.{LiveBlocks}

-- every block from one number up to another is full
abbrev pub FullFrom : Blocks → ℕ → ℕ → Type 0
FullFrom b from to = (x : ℕ) → from ≤ x → x < to → sum (block b.len b.cells.now x) ≡ b.len * b.top

-- block j is the first one from a number on that isn't full, and weighs v
pub record FirstLive (b : Blocks) (from j v : ℕ) : Type 0 where
  pub after : from ≤ j
  pub inside : j < b.count
  pub passed : FullFrom b from j
  pub weighs : v ≡ sum (block b.len b.cells.now j)
  pub live : v ≢ b.len * b.top

-- that block and its weight; or none, where all from there on are full
abbrev pub NextLive : Blocks → ℕ → Option (ℕ × ℕ) → Type 0
NextLive b from (Some p) = FirstLive b from p.0 p.1
NextLive b from None = FullFrom b from b.count

-- after that block the iterator goes on
abbrev pub GoesOn : LiveBlocks → Option (ℕ × ℕ) → LiveBlocks → Type 0
GoesOn from (Some p) to = (to.blocks ≡ from.blocks) × (to.at ≡ p.0 + 1)
GoesOn from None to = Unit {0}

abbrev pub GivesLive : LiveBlocks → Option (ℕ × ℕ) → LiveBlocks → Type 0
GivesLive from item to = NextLive from.blocks from.at item × GoesOn from item to
