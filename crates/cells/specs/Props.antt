-- A sheet's levels are low in one way at most, so that a type can hold that they are. Assumes nothing.
use Rattle.std.specs.Prelude.{ℕ, List, [], ◌∷◌}
use Rattle.std.specs.Coded.{×_prop, Unit-prop, le_prop}
use Rattle.rules.specs.Cells.{Low}

pub low-prop : (L : ℕ) (xs : List ℕ) → IsProp (Low L xs)
low-prop L [] = Unit-prop
low-prop L (x ∷ xs) = ×_prop le_prop (low-prop L xs)
