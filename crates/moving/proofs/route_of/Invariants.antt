-- `moving::route_of` meets its contract: block after block the route holds what the blocks passed say. Assumes nothing.
use Rattle.std.proofs.Common.{◌≡◌, ◌≤◌}
use Rattle.plan.specs.Meaning.{value_in}
use Rattle.rules.specs.Cells.{tabulate}
use Rattle.rules.specs.Staged.{after}
use Rattle.moving.specs.RouteLaws.{Past}
use Rattle.moving.proofs.route_of.Given as goal

abbrev pub invariant-loop-block : goal.invariant-loop-block
invariant-loop-block l = record {
  of : l.block-iterator.blocks ≡ l.blocks;
  few : l.live ≤ l.block-iterator.at;
  past : Past l.blocks (tabulate l.k (after l.bit (value_in l.bits))) l.block-iterator.at l.live l.recorders;
}
