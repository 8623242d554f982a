-- What the blocks that cells are cut into answer one after the other: each with its state. Assumes nothing.
use Rattle.std.specs.Prelude.{◌≡◌, ℕ, ◌+◌, ◌≤◌, ◌<◌, Option, Some, None}
use Rattle.rules.specs.Plain.{states}
use Rattle.cells.specs.Meaning.{RunFrom}
use Rattle.cells.specs.declared.blocks.Blocks.{Blocks}
use Rattle.block.specs.Meaning.{as_state}
use Rattle.block.specs.declared.BlockState.{BlockState}
use Rattle.block.specs.declared.BlockState.TheVariants.{Empty, Full, Active, Broken}
use Rattle.block.specs.declared.states.States.{States}

-- after a block of this state the number goes to the next one, after a full one past a run of full ones
abbrev pub After : Blocks → ℕ → BlockState → ℕ → Type 0
After b next Full to = (next ≤ to) × (to ≤ b.count) × RunFrom b.len b.top b.cells.now next to
After b next Empty to = to ≡ next
After b next (Active bit v) to = to ≡ next
After b next Broken to = to ≡ next

-- the block at hand with its state, and where the iterator goes on after it; or none, where no block is left
abbrev pub GivesState : States → Option (ℕ × BlockState) → States → Type 0
GivesState from (Some p) to =
    (p.0 ≡ from.at) × (from.at < from.blocks.count) × (as_state p.1 ≡ states from.blocks.len from.blocks.top from.blocks.cells.now from.at)
    × (to.blocks ≡ from.blocks) × After from.blocks (from.at + 1) p.1 to.at
GivesState from None to = from.at ≡ from.blocks.count
