-- The parts lent are those of the stage, and its scan is a look at the sheet.
use mathlib.Core.Path.{refl}
use native.Mathlib.Omega.{arith}
use Rattle.staged.specs.StageLaws.{stage-below}
use Rattle.staged.specs.ScanLaws.{scan-asked, scan-told, stage-look}
use Rattle.staged.proofs.layout.StagedSheet.look_stage.Goals as goal

pub region_of-region-requires : goal.region_of-region-requires
region_of-region-requires c = stage-below _ c.args.self.now.of.staged _ _ c.requires.stage

pub parity_blocks-requires : goal.parity_blocks-requires
parity_blocks-requires c = omega (arith, stage-below _ c.args.self.now.of.staged _ _ c.requires.stage)

pub overflow_sub-settings-2 : goal.overflow_sub-settings-2
overflow_sub-settings-2 c = omega (arith, stage-below _ c.args.self.now.of.staged _ _ c.requires.stage)

pub scan_stage-requires : goal.scan_stage-requires
scan_stage-requires c =
    let s = c.args.self.now in
    scan-asked _ s.of.staged _ s.levelled _ (stage-below _ s.of.staged _ _ c.requires.stage) _ c.parity_blocks.ensures _ c.region_of-region.ensures _ c.batch_cells.ensures

pub returns : goal.returns
returns c =
    let s = c.args.self.now in
    stage-look _ s.of.staged _ s.levelled _ c.requires _
    (scan-told _ s.of.staged _ s.levelled _ (stage-below _ s.of.staged _ _ c.requires.stage) _ c.parity_blocks.ensures _ c.region_of-region.ensures _ c.batch_cells.ensures _ _ refl c.scan_stage.ensures)
