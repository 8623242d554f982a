-- Cells fit the regions of a sheet's stages in one way at most, so that a type can hold that they do. Assumes nothing.
use Rattle.std.specs.Prelude.{ℕ, ◌*◌, List, [], ◌∷◌}
use Rattle.std.specs.Coded.{×_prop, Unit-prop, le_prop}
use Rattle.std.proofs.Math.Nat.{ℕ_set}
use Rattle.cells.specs.Props.{low-prop}
use Rattle.laws.specs.Regions.{Steady}
use Rattle.index.specs.Meaning.{BatchFits, RegionsFit}
use Rattle.index.specs.declared.Region.{Region}

pub regions_fit-prop : (cells regions stages per step : ℕ) (xs : List ℕ) → IsProp (RegionsFit cells regions stages per step xs)
regions_fit-prop cells regions stages per step xs a b i = record {
  served = ℕ_set _ _ a.served b.served i;
  inside = le_prop a.inside b.inside i;
  few = le_prop a.few b.few i;
  some = le_prop a.some b.some i;
  up = le_prop a.up b.up i;
  low = low-prop (per * step) xs a.low b.low i;
}

steady-prop : (step b : ℕ) (xs : List ℕ) → IsProp (Steady step b xs)
steady-prop step b [] = Unit-prop
steady-prop step b (x ∷ xs) = ×_prop (×_prop le_prop le_prop) (steady-prop step b xs)

pub batch_fits-prop : (region : Region) (q : ℕ) (batch : List ℕ) → IsProp (BatchFits region q batch)
batch_fits-prop region q batch a b i = record {
  holds = le_prop a.holds b.holds i;
  narrow = le_prop a.narrow b.narrow i;
  steady = steady-prop region.step region.floor batch a.steady b.steady i;
}
