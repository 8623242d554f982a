-- `block::raise_block` meets its contract: the part lent on, put back, is the sheet with that block stored. Assumes nothing.
use Rattle.std.proofs.Common.{◌+◌, ◌∙◌}
use Rattle.block.proofs.LentLaws.{lent_back, lent-block}
use Rattle.rules.specs.Block.{cycle}
use Rattle.block.proofs.raise_block.Goals as goal

pub raise_step-requires-clause-on_cycle : goal.raise_step-requires-clause-on_cycle
raise_step-requires-clause-on_cycle c =
    let a = c.args in
    lent-block a.k a.sheet.now a.j ∙ c.requires.on_cycle

pub returns : goal.returns
returns c =
    let a = c.args in
    rw c.raise_step.ensures (lent_back a.k a.sheet.now a.j (cycle a.k a.top a.bit (a.weight + 1)))
