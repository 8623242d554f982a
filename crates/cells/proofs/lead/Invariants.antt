-- `cells::lead` meets its contract: no cell passed is below the level and before the front's end. Assumes nothing.
use Prim.Native.Nat.{ℕ, ◌≤◌, ◌<◌}
use lib.ListN.{get_or, length}
use Rattle.cells.proofs.lead.Given as goal

abbrev pub invariant-loop-i : goal.invariant-loop-i
invariant-loop-i l = (l.best ≤ length l.cells) × ((x : ℕ) → x < l.i → x < l.best → l.level ≤ get_or l.cells x 0)
