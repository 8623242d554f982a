-- `cells::greatest` meets its contract: the greatest so far, up to the last cell. Assumes nothing.
use mathlib.Core.Path.{◌∙◌}
use Prim.Native.Nat.{max}
use borrow.Author.Rules.{rules}
use Rattle.std.proofs.lemmas.Iterator.{YieldsList-from_slice}
use Rattle.std.proofs.lemmas.Iterator.Consumers.{fold_from_yields_List}
use Rattle.cells.proofs.Laws.{greatest-fold}
use Rattle.cells.proofs.greatest.Goals as goal

pub returns : goal.returns
returns c =
    fold_from_yields_List _ max 0 c.fold.result c.fold.ensures.ran (YieldsList-from_slice c.args.cells.now cc) (λ a x b q k. search rules) ∙ greatest-fold c.args.cells.now
