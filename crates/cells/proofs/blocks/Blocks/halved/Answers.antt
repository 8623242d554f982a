-- `Blocks::halved` meets its contract: half as long and twice as many, they have no more cells. Assumes nothing.
use Rattle.cells.proofs.LiveLaws.{halves-inside}
use Rattle.cells.proofs.blocks.Blocks.halved.Goals as goal

pub invariant_of-result-clause-inside : goal.invariant_of-result-clause-inside
invariant_of-result-clause-inside c = halves-inside c.args.self.count c.args.self.len _ c.args.self.inside
