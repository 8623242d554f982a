-- The start that is found (02, K2): of a block that is answered active, it is the start of the cycle, and the only cell higher than the one before it, cyclically. Assumes nothing.
use Rattle.std.specs.Prelude.{◌≡◌, ℕ, ◌≤◌, List, length}
use Rattle.std.proofs.Common.{sym}
use Rattle.laws.specs.Rise.{StartsAt, active-start}
use Rattle.rules.specs.Block.{state_of}
use Rattle.block.specs.Meaning.{as_state}
use Rattle.block.specs.declared.BlockState.TheVariants.{Active}

-- ---- the start that is found

-- where a function that ensures what `state_of` does answers active, the start that it answers is the cycle's, and the only cell higher than the one before it, cyclically
pub found-start : (L : ℕ) (b : List ℕ) → 2 ≤ length b → 1 ≤ L → (i v : ℕ) → as_state (Active i v) ≡ state_of (length b) L b → StartsAt (length b) L b i v
found-start L b two g i v e = active-start (length b) L two g b i v (sym e)
