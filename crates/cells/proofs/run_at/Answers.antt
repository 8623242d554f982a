-- `cells::run_at` meets its contract: the room above decides at level 0, and the least at any other. Assumes nothing.
use native.Mathlib.Omega.{arith}
use borrow.Author.Tests.{eqb-true}
use Rattle.cells.proofs.run_at.Goals as goal

pub returns-then-level-eq0 : goal.returns-then-level-eq0
returns-then-level-eq0 c = λ e. (omega arith, λ z. let h = eqb-true c.room_above.result _ e in omega (arith, h))
