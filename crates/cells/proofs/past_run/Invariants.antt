-- `cells::past_run` meets its contract: every block passed over weighs what the level says. Assumes nothing.
use Prim.Native.Nat.{◌-◌, ◌≤◌}
use Rattle.cells.specs.Meaning.{RunFrom}
use Rattle.cells.proofs.past_run.Given as goal

abbrev pub invariant-loop-j : goal.invariant-loop-j
invariant-loop-j l = (l.from ≤ l.j) × (l.j ≤ l.count) × RunFrom l.len l.level l.cells l.from l.j

abbrev pub decreases-loop-j : goal.decreases-loop-j
decreases-loop-j l = l.count - l.j
