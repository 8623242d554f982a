-- `cells::first_above` meets its contract: no cell is above the top level, or the place is the first that is. Assumes nothing.
use mathlib.Core.Path.{◌≡◌, ◌∙◌, ap, sym}
use native.Mathlib.Omega.{arith}
use borrow.Author.Rules.{rules}
use borrow.Author.Tests.{tests}
use Rattle.std.proofs.lemmas.Iterator.{YieldsList-from_slice}
use Rattle.std.proofs.lemmas.Iterator.Search.{position_from_yields_List}
use Rattle.std.specs.Prelude.{nat_lt, position}
use Rattle.cells.specs.Laws.{greatest-low}
use Rattle.rules.specs.Search.{as_found}
use Rattle.cells.proofs.Laws.{low-fine, position-above}
use Rattle.cells.proofs.first_above.Goals as goal

pub returns-then-greatest-top : goal.returns-then-greatest-top
returns-then-greatest-top c =
    let a = c.args in
    sym (low-fine a.top a.cells.now (greatest-low a.top a.cells.now (omega arith)))

pub returns : goal.returns
returns c =
    let a = c.args in
    let e : c.position.result ≡ position (λ x. nat_lt a.top x) a.cells.now =
    position_from_yields_List (λ x. nat_lt a.top x) _ _ c.position.result c.position.ensures.ran (YieldsList-from_slice a.cells.now cc) (λ x b q k. search (rules, tests)) in
    ap as_found e ∙ position-above a.top a.cells.now
