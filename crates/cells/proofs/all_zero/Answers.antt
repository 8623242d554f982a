-- `cells::all_zero` meets its contract: all cells are 0 if the greatest is. Assumes nothing.
use mathlib.Core.Path.{◌∙◌, ap}
use Prim.Native.Nat.{ℕ}
use lib.Dec.{eqb}
use Rattle.cells.proofs.Laws.{all-zero-is}
use Rattle.cells.proofs.all_zero.Goals as goal

pub returns : goal.returns
returns c = ap (λ (r : ℕ). eqb r 0) c.greatest.ensures ∙ all-zero-is c.args.cells.now
