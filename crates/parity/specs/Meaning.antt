-- What the search for a later stage answers, as definitions of the rules. Assumes nothing.
use Rattle.std.specs.Prelude.{List, ℕ, zero, suc, ◌*◌, ◌^◌, length}
use Rattle.std.proofs.Math.Decide.{dec_le}
use Rattle.rules.specs.Cells.{chop}
use Rattle.rules.specs.Search.{Found, Result, at, done, no_place_left, nowhere, pick}
use Rattle.rules.specs.Stage.{live_weights}
use Rattle.rules.specs.Staged.{Sheet, live_count, move_to, parity_length}

-- the first later stage, with d left and fewer, in which at least 2 ^ s parity blocks aren't full: how many stages are left there
unfoldable pub later_left : ℕ → ℕ → ℕ → ℕ → List ℕ → Found
later_left s m L zero xs = nowhere
later_left s m L (suc d) xs = pick (dec_le (2 ^ s) (live_count s m L d xs)) (at d) (later_left s m L d xs)

-- the same told by k and by the count of parity blocks at the stage with d left: the next stage has twice as many, half as long
unfoldable pub later_from : ℕ → ℕ → ℕ → ℕ → List ℕ → Found
later_from k L count zero xs = nowhere
later_from k L count (suc d) xs =
    pick (dec_le k (length (live_weights (parity_length d * L) (chop (parity_length d) (2 * count) xs)))) (at d) (later_from k L (2 * count) d xs)

-- the move to the stage found, or no place
abbrev pub moved : ℕ → ℕ → ℕ → List ℕ → List ℕ → Found → Result Sheet
moved s m L xs vs (at d) = done (move_to s m L d xs vs)
moved s m L xs vs nowhere = no_place_left
