-- `cells::full_at_front` meets its contract: no block at all, or those that end before the first lower cell. Assumes nothing.
use native.Mathlib.Omega.{arith}
use Rattle.cells.proofs.RunLaws.{front-none, front-run}
use Rattle.cells.proofs.full_at_front.Goals as goal

pub returns-then-level-eq0 : goal.returns-then-level-eq0
returns-then-level-eq0 c =
    let a = c.args in
    front-none a.len a.level a.step a.cells.now (omega arith)

pub returns : goal.returns
returns c =
    let a = c.args in
    rw c.requires.1 (front-run a.len a.level c.lead.result a.cells.now (omega arith) (omega arith) c.if-level-eq0.false c.told-cells c.lead.ensures.0 c.lead.ensures.1)
