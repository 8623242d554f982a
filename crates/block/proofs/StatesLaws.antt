-- Laws of a block's state by its number. Assumes nothing.
use Rattle.std.specs.Prelude.{◌≡◌, ℕ, List, length}
use Rattle.std.proofs.Common.{◌∙◌, ap₂}
use Rattle.rules.specs.Block.{State, state_of}
use Rattle.rules.specs.Cells.{block}
use Rattle.rules.specs.Plain.{states}

-- what a look at its cells says of block j
pub block-state : (k L : ℕ) (xs b : List ℕ) (j : ℕ) (s : State) → b ≡ block k xs j → length b ≡ k → s ≡ state_of (length b) L b → s ≡ states k L xs j
unfolding states
block-state k L xs b j s q n e = e ∙ ap₂ (λ (m : ℕ) (c : List ℕ). state_of m L c) n q
