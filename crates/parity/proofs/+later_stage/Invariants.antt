-- The length of the blocks falls. Assumes nothing.
use Rattle.parity.proofs.+later_stage.Given as goal

abbrev pub decreases-later_stage : goal.decreases-later_stage
decreases-later_stage l = l.blocks.len
