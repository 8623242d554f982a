-- `moving::need_batch` meets its contract: index block after index block, what those so far need. Assumes nothing.
use Rattle.std.proofs.Math.Nat.{add-sub_cancel_left}
use Rattle.std.proofs.Common.{◌≡◌, ℕ, List, ◌+◌, ◌*◌, ◌-◌, ◌≤◌, ap, arith, drop, length, length-drop, length-take-le, take}
use Rattle.std.proofs.Math.Seq.{take_all}
use Rattle.plan.specs.Meaning.{Needs}
use Rattle.moving.specs.NeedLaws.{batch-more, batch-none, batch-small, block-floor, floor-rises}
use Rattle.moving.specs.RowLaws.{front, slot-inside}
use Rattle.moving.specs.SlotLaws.{slot-holds}
use Rattle.moving.proofs.need_batch.Goals as goal
use Rattle.moving.proofs.need_batch.Goals.{After-need_entry-need}

pub loop-x-init : goal.loop-x-init
loop-x-init c = batch-none _ _ _ _ _ _ _

-- an index block that lies in the batch has w cells
long : (x w : ℕ) (batch : List ℕ) → x * w + w ≤ length batch → length (take w (drop (x * w) batch)) ≡ w
long x w batch h = length-take-le w (drop (x * w) batch) (omega (arith, length-drop (x * w) batch))

pub need_entry-need-requires : goal.need_entry-need-requires
need_entry-need-requires c =
    let x = c.loop-x.x in
    let w = c.args.region.width in
    let batch = c.args.batch.now in
    let p = c.requires in
    let i = slot-inside x _ p.0 c.slots-x-end.ensures c.loop-x-test.true in
    let n : length (take w (drop (x * w) batch)) ≡ w = long x w batch i in
    rw (add-sub_cancel_left, n, c.entry.ensures)
    record {
      holds = (p.0.below, slot-holds _ _ _ _ _ x p.0.wide, omega (arith, i, p.0.short));
      rises = floor-rises _ _ w _ _ n (block-floor _ (x * w) w batch p.1);
    }

-- what the index blocks so far need, with this one
turn : (c : After-need_entry-need) →
    let l = c.loop-x in
    let g = c.args.region in
    let r = c.args.route.now in
    Needs (take ((l.x + 1) * g.width) c.args.batch.now) (front g.floor g.step g.width r.k r.live r.recorders (l.x + 1))
    (record { cells = l.cells + c.need_entry-need.result.cells; levels = l.levels + c.need_entry-need.result.levels })
turn c =
    let l = c.loop-x in
    let i = slot-inside l.x _ c.requires.0 c.slots-x-end.ensures c.loop-x-test.true in
    batch-more _ _ _ _ _ _ l.x _ _ _ i l.invariant (rw (add-sub_cancel_left, long l.x c.args.region.width c.args.batch.now i, c.entry.ensures) at c.need_entry-need.ensures)

-- which is small
small : (c : After-need_entry-need) →
    let l = c.loop-x in
    (l.cells + c.need_entry-need.result.cells ≤ 65536) × (l.levels + c.need_entry-need.result.levels ≤ 65536 * 255)
small c =
    let l = c.loop-x in
    let p = c.requires.0 in
    batch-small _ _ _ _ _ _ p.wide p.below (l.x + 1) _ (omega (arith, slot-inside l.x _ p c.slots-x-end.ensures c.loop-x-test.true)) p.short (turn c)

pub overflow_add-cells : goal.overflow_add-cells
overflow_add-cells c = omega (arith, small (goal.at.overflow_add-cells c).After-need_entry-need)

pub overflow_add-levels : goal.overflow_add-levels
overflow_add-levels c = omega (arith, small (goal.at.overflow_add-levels c).After-need_entry-need)

pub loop-x-preserved : goal.loop-x-preserved
loop-x-preserved c = turn (goal.at.loop-x-preserved c).After-need_entry-need

pub returns : goal.returns
returns c =
    let l = c.loop-x in
    let w = c.args.region.width in
    let p = c.requires.0 in
    let e : l.x ≡ 2 * (c.args.route.now.k - 1) = omega (arith, c.slots-x-end.ensures) in
    let n : length c.args.batch.now ≡ l.x * w = omega (arith, p.exact, ap (λ (x : ℕ). x * w) e) in
    record {
      needs = rw (← e) (rw (take_all (l.x * w) c.args.batch.now (omega (arith, n))) at l.invariant);
      small = batch-small _ _ _ _ _ _ p.wide p.below l.x _ (omega (arith, n)) p.short l.invariant;
    }
