-- The look for the next block that isn't full: all that were passed are full, and fewer are left. Assumes nothing.
use Rattle.std.proofs.Common.{◌-◌, ◌≤◌}
use Rattle.cells.specs.Live.{FullFrom}
use Rattle.cells.proofs.blocks.LiveBlocks.next_live.Given as goal

abbrev pub invariant-loop-next : goal.invariant-loop-next
invariant-loop-next l = (l.self.at ≤ l.next) × (l.next ≤ l.self.blocks.count) × FullFrom l.self.blocks l.self.at l.next

abbrev pub decreases-loop-next : goal.decreases-loop-next
decreases-loop-next l = l.self.blocks.count - l.next
