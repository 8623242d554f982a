-- `States::state` meets its contract: the cells lent on are those of the block at hand. Assumes nothing.
use Rattle.std.proofs.Common.{◌∙◌, ◌≡◌, ap, arith, length, subst, sym}
use Rattle.laws.specs.Cut.{block-fits, length-block, low-block}
use Rattle.rules.specs.Cells.{Low}
use Rattle.block.proofs.StatesLaws.{block-state}
use Rattle.block.proofs.states.States.state.Goals as goal
use Rattle.block.proofs.states.States.state.Goals.{After-block}

-- the block at hand has as many cells as a block
sized : (c : After-block) → length c.block.result.now ≡ c.args.self.blocks.len
sized c =
    let b = c.args.self.blocks in
    ap length c.block.ensures ∙ length-block b.len b.cells.now c.args.self.at (omega (arith, block-fits b.len c.args.self.at b.count c.requires, b.inside))

pub state_of-requires : goal.state_of-requires
state_of-requires c =
    let b = c.args.self.blocks in
    let l = sized (goal.at.state_of-requires c).After-block in
    record { sized = (omega (arith, l, c.args.self.two), omega (arith, l, c.args.self.few), c.args.self.levels); low = subst (Low b.top) (sym c.block.ensures) (low-block b.top b.len b.cells.now c.args.self.at b.low) }

pub returns : goal.returns
returns c =
    let b = c.args.self.blocks in
    block-state b.len b.top b.cells.now _ c.args.self.at _ c.block.ensures (sized (goal.at.returns c).After-block) c.state_of.ensures
