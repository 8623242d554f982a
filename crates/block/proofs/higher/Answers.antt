-- `block::higher` meets its contract. Assumes nothing.
use Rattle.std.proofs.Common.{arith}
use Rattle.std.proofs.lemmas.Grind.{common_steps}
use Rattle.block.specs.Meaning.{higher}
use Rattle.block.proofs.higher.Goals as goal

pub returns : goal.returns
unfolding higher
returns c = grind (arith, common_steps)
