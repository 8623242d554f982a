-- `moving::raise_marked` meets its contract: block after block the cells are those that the marks so far leave. Assumes nothing.
use Rattle.std.proofs.Common.{◌≡◌}
use Rattle.moving.specs.Meaning.{marked_cells}
use Rattle.moving.proofs.raise_marked.Given as goal

abbrev pub invariant-loop-recorder : goal.invariant-loop-recorder
invariant-loop-recorder l = l.cells ≡ marked_cells l.route.parity.len l.route.top l.recorder-index l.recorder-items l.initial.cells
