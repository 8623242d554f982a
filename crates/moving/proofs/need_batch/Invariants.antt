-- `moving::need_batch` meets its contract: index block after index block, what those so far need. Assumes nothing.
use Rattle.std.proofs.Common.{◌*◌, take}
use Rattle.plan.specs.Meaning.{Needs}
use Rattle.moving.specs.RowLaws.{front}
use Rattle.moving.proofs.need_batch.Given as goal

abbrev pub invariant-loop-x : goal.invariant-loop-x
invariant-loop-x l = Needs (take (l.x * l.region.width) l.batch) (front l.region.floor l.region.step l.region.width l.route.k l.route.live l.route.recorders l.x) (record { cells = l.cells; levels = l.levels })
