-- The first cell of a batch is worked out.
use Rattle.rules.specs.AcceptLaws.{staged-width}
use Rattle.rules.proofs.Settings.first_cell.Goals as goal

pub batch_cells-requires : goal.batch_cells-requires
batch_cells-requires c = (c.requires.0.stages-most, staged-width _ c.requires.0)
