-- `parity::raise_one` meets its contract: no cell passed is below the top level. Assumes nothing.
use Rattle.std.proofs.Common.{ℕ, ◌≡◌, ◌≤◌, ◌<◌, get_or}
use Rattle.parity.proofs.raise_one.Given as goal

abbrev pub invariant-loop-i : goal.invariant-loop-i
invariant-loop-i l = record {
  same : l.b ≡ l.initial.b;
  passed : (j : ℕ) → j < l.i → l.top ≤ get_or l.b j 0;
}
