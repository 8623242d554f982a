-- `cells::sum_of` meets its contract: 256 levels fit in 16 bits, and a total from the first cell on is the sum. Assumes nothing.
use mathlib.Core.Path.{◌∙◌}
use native.Mathlib.Omega.{arith}
use borrow.Author.Rules.{rules}
use Rattle.std.proofs.lemmas.Iterator.{YieldsList-from_map, YieldsList-from_slice}
use Rattle.std.proofs.lemmas.Iterator.Adapters.{at_most_from_yields_List, fits_from_length}
use Rattle.std.proofs.lemmas.Iterator.Consumers.{sum_by_from_yields_List}
use Rattle.cells.proofs.Laws.{sum-fold}
use Rattle.cells.proofs.sum_of.Goals as goal

pub sum-requires-clause-fits : goal.sum-requires-clause-fits
sum-requires-clause-fits c =
    fits_from_length _ _ 256 65536 (at_most_from_yields_List (YieldsList-from_slice c.args.cells.now cc) (omega arith)) c.map.ensures.closure (omega arith) (λ x r q k. search rules)

pub returns-then-cells-le256 : goal.returns-then-cells-le256
returns-then-cells-le256 c =
    let s = c.args.cells.now in
    sum_by_from_yields_List (λ x. x) s c.map.result c.sum.result c.sum.ensures.ran (YieldsList-from_map _ (λ x. x) (YieldsList-from_slice s cc) c.map.ensures.closure (λ x r q k. search rules)) ∙ sum-fold s

pub returns : goal.returns
returns c =
    let s = c.args.cells.now in
    sum_by_from_yields_List (λ x. x) s c.map-2.result c.sum-2.result c.sum-2.ensures.ran (YieldsList-from_map _ (λ x. x) (YieldsList-from_slice s cc) c.map-2.ensures.closure (λ x r q k. search rules)) ∙ sum-fold s
