-- `moving::write_batch` meets its contract: index block after index block the batch is what the route leaves so far. Assumes nothing.
use Rattle.std.proofs.Common.{◌≡◌, ◌*◌, ◌++◌, drop}
use Rattle.moving.specs.RowLaws.{front}
use Rattle.moving.proofs.write_batch.Given as goal

abbrev pub invariant-loop-x : goal.invariant-loop-x
invariant-loop-x l = l.batch ≡ front l.region.floor l.region.step l.region.width l.route.k l.route.live l.route.recorders l.x ++ drop (l.x * l.region.width) l.initial.batch
