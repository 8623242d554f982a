-- The parity blocks of a stage are the m blocks cut anew.
use Rattle.staged.specs.LayoutLaws.{parity-cut}
use Rattle.staged.proofs.layout.StagedSheet.parity_blocks.Goals as goal

pub cut-requires : goal.cut-requires
cut-requires c = parity-cut _ c.args.self.now.of.staged _ _ _ c.requires c.parity_length.ensures c.parity_count.ensures
