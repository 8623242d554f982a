-- That a sheet is levelled is one fact: it has one proof. Assumes nothing.
use Rattle.std.specs.Prelude.{ℕ, List, length}
use Rattle.std.proofs.Math.Nat.{ℕ_set}
use Rattle.cells.specs.Props.{low-prop}
use Rattle.plan.specs.Meaning.{Levelled}
use Rattle.rules.specs.declared.Settings.{Settings}

-- the length, and every level
pub levelled-prop : (r : Settings) (f : List ℕ) → IsProp (Levelled r f)
levelled-prop r f a b i = record { long = ℕ_set (length f) r.n a.long b.long i; low = low-prop r.top f a.low b.low i }
