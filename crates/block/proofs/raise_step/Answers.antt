-- `block::raise_step` meets its contract: the one cell raised is the step's. Assumes nothing.
use Rattle.std.proofs.Common.{arith}
use Rattle.laws.specs.Step.{part-below, part_step}
use Rattle.block.proofs.raise_step.Goals as goal

pub overflow_add-part : goal.overflow_add-part
overflow_add-part c =
    let a = c.args in
    omega (arith, part-below a.k a.top a.bit (omega arith) a.weight (omega arith) (omega arith) a.part.now c.requires.on_cycle)

pub returns : goal.returns
returns c =
    let a = c.args in
    part_step a.k a.top a.bit (omega arith) a.weight (omega arith) (omega arith) a.part.now c.requires.on_cycle
