-- The marked move of document 01 has room and a route, and comes out as marked. Assumes nothing.
use Rattle.std.specs.Prelude.{List, [], ◌∷◌, ◌≡◌, refl, ℕ, zero, suc, ◌*◌, ◌≤◌, ◌<◌, length, get_or, replicate}
use Rattle.std.proofs.Math.Decide.{dec_lt, ℕ_discrete}
use Rattle.std.proofs.Common.{arith}
use Rattle.cells.specs.Laws.{greatest-low}
use Rattle.cells.specs.Meaning.{greatest_of}
use Rattle.laws.specs.Live.{live, live_block}
use Rattle.rules.specs.Batches.{digits}
use Rattle.rules.specs.Cells.{Low, chop}
use Rattle.rules.specs.Stage.{live_weights}
use Rattle.moving.specs.Meaning.{MoveFits, RegionFits, RouteFits, batch_after, block_at, mark, mark_at, moved}
use Rattle.moving.specs.declared.route.Mark.TheVariants.{Raised, Stays}
use Rattle.moving.specs.declared.route.ParityBlocks.{ParityBlocks}
use Rattle.index.specs.declared.Region.{Region}
use Rattle.moving.specs.declared.route.Route.{Route}

-- blocks 1000 0100 0010 2222, index cells 0: k = 4, L = 2, w = 2
abbrev marked : List ℕ
marked = 1 ∷ 0 ∷ 0 ∷ 0 ∷ 0 ∷ 1 ∷ 0 ∷ 0 ∷ 0 ∷ 0 ∷ 1 ∷ 0 ∷ 2 ∷ 2 ∷ 2 ∷ 2 ∷ replicate 12 0

-- stage 1 has 8 parity blocks of 2 cells
abbrev parity : ParityBlocks
parity = record { len = 2; count = 8 }

-- its batch begins at cell 16
abbrev region : Region
region = record { cell = 16; width = 2; floor = 0; step = 2 }

-- six of them aren't full; the first four record the values 1 1 1 1, and two of these are raised
abbrev route : Route
route = record {
  parity = parity;
  top = 2;
  k = 4;
  live = 6;
  recorders = record { block = 0; mark = Stays } ∷ record { block = 1; mark = Raised } ∷ record { block = 2; mark = Stays } ∷ record { block = 3; mark = Raised } ∷ [];
  few = omega arith;
}

-- the region has room for the batch
pub marked-region : RegionFits region 4 marked
marked-region = record { some = omega arith; inside = omega arith; short = omega arith; wide = omega arith; below = omega arith; fresh = refl }

-- the parity blocks are as their type asks
pub marked-blocks : (1 ≤ 2) × (2 ≤ 65536) × (8 * 2 ≤ length marked) × (length marked ≤ 65536) × Low 2 marked
unfolding greatest_of
marked-blocks = (omega arith, omega arith, omega arith, omega arith, greatest-low 2 marked (omega arith))

-- and the search for a route has what it asks
pub marked-search : RouteFits 2 8 4 2 marked
unfolding live ℕ_discrete
marked-search = record { few = omega arith; enough = omega arith }

-- the four places
marked-places : (t : ℕ) → t < 4 → block_at route.recorders t ≡ live_block 4 t (chop 2 8 marked)
unfolding ℕ_discrete
marked-places zero h = refl
marked-places (suc zero) h = refl
marked-places (suc (suc zero)) h = refl
marked-places (suc (suc (suc zero))) h = refl
marked-places (suc (suc (suc (suc t)))) h = absurd (omega arith)

-- and the four marks
marked-marks : (t : ℕ) → t < 4 → mark_at route.recorders t ≡ mark 4 (get_or (live_weights 4 (chop 2 8 marked)) t 0) (get_or (1 ∷ 1 ∷ 1 ∷ 1 ∷ []) t 0)
unfolding mark ℕ_discrete
marked-marks zero h = refl
marked-marks (suc zero) h = refl
marked-marks (suc (suc zero)) h = refl
marked-marks (suc (suc (suc zero))) h = refl
marked-marks (suc (suc (suc (suc t)))) h = absurd (omega arith)

-- the route is one for the move
pub marked-fits : MoveFits region (1 ∷ 1 ∷ 1 ∷ 1 ∷ []) route marked
unfolding live greatest_of ℕ_discrete
marked-fits = record {
  ordered = omega arith;
  low = greatest-low 2 marked (omega arith);
  as_many = refl;
  enough = omega arith;
  room = omega arith;
  routed = record { live = refl; places = marked-places; marks = marked-marks };
}

-- blocks 1010 0110 0010 2222, index blocks 01 02 10 11 00 00
pub marked-moved : moved 16 2 8 2 4 2 (1 ∷ 1 ∷ 1 ∷ 1 ∷ []) marked
    ≡ 1 ∷ 0 ∷ 1 ∷ 0 ∷ 0 ∷ 1 ∷ 1 ∷ 0 ∷ 0 ∷ 0 ∷ 1 ∷ 0 ∷ 2 ∷ 2 ∷ 2 ∷ 2 ∷ 0 ∷ 1 ∷ 0 ∷ 2 ∷ 1 ∷ 0 ∷ 1 ∷ 1 ∷ 0 ∷ 0 ∷ 0 ∷ 0 ∷ []
unfolding moved batch_after live digits ℕ_discrete dec_lt
marked-moved = refl
