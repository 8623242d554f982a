-- The stage is told by the cells from the first batch on.
use mathlib.Core.Path.{◌∙◌}
use Rattle.staged.specs.ZeroLaws.{batches-asked, stage-from}
use Rattle.staged.proofs.layout.StagedSheet.stage_left.Goals as goal

pub invariant_of-batches : goal.invariant_of-batches
invariant_of-batches c =
    let s = c.args.self.now in
    record { fit = batches-asked _ s.of.staged _ s.levelled _ _ c.block_cells.ensures c.batch_cells.ensures }

pub returns : goal.returns
returns c =
    let s = c.args.self.now in
    c.stage_of.ensures ∙ stage-from _ s.of.staged _ s.levelled _ _ c.block_cells.ensures c.batch_cells.ensures
