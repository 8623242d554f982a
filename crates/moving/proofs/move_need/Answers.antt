-- `moving::move_need` meets its contract: so much for the marks, and what the batch does. Assumes nothing.
use Rattle.std.proofs.Math.Nat.{add-sub_cancel_left}
use Rattle.std.proofs.Common.{arith, refl}
use Rattle.moving.specs.CommitLaws.{move_needs, region-batch, region-low}
use Rattle.moving.specs.Meaning.{taken_over}
use Rattle.moving.proofs.move_need.Goals as goal

pub need_batch-batch-requires : goal.need_batch-batch-requires
need_batch-batch-requires c = rw (c.slots.ensures, add-sub_cancel_left) (region-batch c.requires _ refl, region-low c.requires)

pub returns : goal.returns
returns c = λ parity L vs m.
    move_needs c.args.region vs (taken_over parity L c.args.route.now) c.args.sheet.now c.requires m c.raised-raised.result c.need_batch-batch.result (omega (arith, c.args.route.now.few)) c.raised-raised.ensures.0 (rw (c.slots.ensures, add-sub_cancel_left) at c.need_batch-batch.ensures.needs)
