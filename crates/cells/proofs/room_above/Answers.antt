-- `cells::room_above` meets its contract: the least room so far, up to the last cell. Assumes nothing.
use mathlib.Core.Path.{◌≡◌}
use Prim.Native.Nat.{◌-◌, min}
use native.Mathlib.Omega.{arith}
use borrow.Author.Rules.{rules}
use Rattle.std.specs.List.{fold}
use Rattle.std.proofs.lemmas.Iterator.{YieldsList-from_slice}
use Rattle.std.proofs.lemmas.Iterator.Consumers.{fold_from_yields_List}
use Rattle.laws.specs.Lists.{low-all}
use Rattle.cells.proofs.Laws.{room-fold}
use Rattle.cells.proofs.room_above.Goals as goal

pub returns : goal.returns
returns c =
    let e : c.fold.result ≡ fold (λ a x. min a (255 - x)) 255 c.args.cells.now =
    fold_from_yields_List _ (λ a x. min a (255 - x)) 255 c.fold.result c.fold.ensures.ran (YieldsList-from_slice c.args.cells.now cc) (λ a x b q k. search rules) in
    omega (arith, e, room-fold c.args.cells.now (low-all 255 c.args.cells.now (λ i l. omega (arith, c.type_inv.cells i))))
