-- The m blocks are lent.
use Rattle.staged.specs.WithinLaws.{raise-asks}
use Rattle.staged.proofs.layout.StagedSettings.raise_at.Goals as goal

pub raise_parity-requires : goal.raise_parity-requires
raise_parity-requires c =
    raise-asks _ c.args.self.staged _ c.requires.0 _ c.requires.1.stage _ c.requires.1.inside _ _ c.block_cells-cells.ensures c.parity_length-len.ensures
