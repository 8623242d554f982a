-- `moving::write_batch` meets its contract: index block after index block the batch is what the route leaves so far. Assumes nothing.
use Rattle.std.proofs.Math.Nat.{add-sub_cancel_left}
use Rattle.std.proofs.Common.{◌≡◌, ◌*◌, ◌-◌, arith, refl}
use Rattle.moving.specs.RowLaws.{next-long, slot-inside, written_all, written-more, written_none}
use Rattle.moving.specs.SlotLaws.{slot-holds}
use Rattle.moving.proofs.write_batch.Goals as goal

pub loop-x-init : goal.loop-x-init
loop-x-init c = written_none _ _ _ _ _ _ _

pub set_entry-requires : goal.set_entry-requires
set_entry-requires c =
    let l = c.loop-x in
    let p = c.requires in
    let n = next-long _ _ _ _ _ _ l.x _ (slot-inside l.x _ p c.slots-x-end.ensures c.loop-x-test.true) l.invariant in
    rw (add-sub_cancel_left, n, c.entry.ensures) (p.below, slot-holds _ _ _ _ _ l.x p.wide)

pub loop-x-preserved : goal.loop-x-preserved
loop-x-preserved c =
    let l = c.loop-x in
    let i = slot-inside l.x _ c.requires c.slots-x-end.ensures c.loop-x-test.true in
    let n = next-long _ _ _ _ _ _ l.x _ i l.invariant in
    rw add-sub_cancel_left (written-more _ _ _ _ _ _ l.x _ i l.invariant _ _ refl (rw (add-sub_cancel_left, n, c.entry.ensures) at c.set_entry.ensures))

pub returns : goal.returns
returns c =
    let l = c.loop-x in
    let e : l.x ≡ 2 * (c.args.route.now.k - 1) = omega arith in
    rw (← e) (written_all _ _ _ _ _ _ l.x _ (rw e c.requires.exact) l.invariant)
