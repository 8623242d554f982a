-- Stage 0 is seen by the scan of the m blocks.
use Rattle.staged.specs.ZeroLaws.{scan-asks, zero-look}
use Rattle.staged.proofs.layout.StagedSheet.look_stage0.Goals as goal

pub scan_blocks-requires : goal.scan_blocks-requires
scan_blocks-requires c =
    let s = c.args.self.now in
    scan-asks _ s.of.staged _ s.levelled _ c.m_blocks.ensures

pub returns : goal.returns
returns c =
    let s = c.args.self.now in
    zero-look _ s.of.staged _ s.levelled c.requires _ c.m_blocks.ensures _ c.scan_blocks.ensures
