-- A reading of the first cells is operation 3.
use Rattle.std.proofs.Common.{le_refl}
use Rattle.records.specs.ReadLaws.{read-step}
use Rattle.records.proofs.read.Goals as goal

pub returns : goal.returns
returns c =
    let a = c.args in
    read-step a.held a.cells.now _ _ _ c.read-answer.result (le_refl 64) c.front-n.ensures c.read-answer.ensures
