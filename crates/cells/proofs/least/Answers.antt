-- `cells::least` meets its contract: the least so far, up to the last cell. Assumes nothing.
use mathlib.Core.Path.{◌∙◌}
use Prim.Native.Nat.{min}
use borrow.Author.Rules.{rules}
use Rattle.std.proofs.lemmas.Iterator.{YieldsList-from_slice}
use Rattle.std.proofs.lemmas.Iterator.Consumers.{fold_from_yields_List}
use Rattle.cells.proofs.Laws.{least-fold}
use Rattle.cells.proofs.least.Goals as goal

pub returns : goal.returns
returns c =
    fold_from_yields_List _ min 255 c.fold.result c.fold.ensures.ran (YieldsList-from_slice c.args.cells.now cc) (λ a x b q k. search rules) ∙ least-fold c.args.cells.now
