-- What the look at a region's index blocks answers: those that aren't full, one after the other. Assumes nothing.
use Rattle.std.specs.Prelude.{◌≡◌, ℕ, ◌+◌, Option, Some, None}
use Rattle.index.specs.Meaning.{NextIndex}
use Rattle.index.specs.declared.OpenIndexes.{OpenIndexes}

-- after an index block the look goes on
abbrev pub GoesOn : OpenIndexes → Option (ℕ × ℕ) → OpenIndexes → Type 0
GoesOn from (Some p) to = (to.region ≡ from.region) × (to.batch.now ≡ from.batch.now) × (to.count ≡ from.count) × (to.at ≡ p.0 + 1)
GoesOn from None to = Unit {0}

-- it gives the next one that isn't full
abbrev pub GivesOpen : OpenIndexes → Option (ℕ × ℕ) → OpenIndexes → Type 0
GivesOpen from item to = NextIndex from.region from.batch.now from.count from.at item × GoesOn from item to
