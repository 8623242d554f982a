-- `Blocks::block` meets its contract: the part of the cells is the block. Assumes nothing.
use Rattle.laws.specs.Cut.{part-block}
use Rattle.cells.proofs.blocks.Blocks.block.Goals as goal

pub returns : goal.returns
returns c = part-block c.args.self.len c.args.self.cells.now c.args.j
