-- `stage::scan_stage` meets its contract: after the blocks passed the scan holds what they and their index blocks say. Assumes nothing.
use Rattle.std.proofs.Common.{ℕ, ◌≡◌, suc, ◌-◌, ◌*◌, ◌∙◌, sym, le_refl, arith}
use Rattle.std.specs.Prelude.{Some}
use Rattle.cells.specs.Live.{FirstLive}
use Rattle.index.specs.Meaning.{NextIndex}
use Rattle.stage.specs.Laws.{fits-of, weight-most}
use Rattle.stage.specs.Meaning.{ScanAt, Turn}
use Rattle.stage.specs.TurnLaws.{left-over, scan-begun, scan-ended, too_few, too-great, turn-begun, turn-free, turn-own, turn-past, twice}
use Rattle.stage.proofs.scan_stage.Goals as goal
use Rattle.stage.proofs.scan_stage.Goals.{In-None, In-Some, In-Some-next, then-k-u-via-then-k-u, then-k-u-via-else-k-u+then-is_some}

pub loop-j-init : goal.loop-j-init
loop-j-init c =
    let e : c.into_iter-j-iterator.result ≡ c.live-j-items.result = c.into_iter-j-iterator.ensures.into_iter_gives in
    let o = c.open-indexes.ensures in
    rw (e, c.live-j-items.ensures.1, c.clear.ensures, o.3) (c.live-j-items.ensures.0, o.0, o.1, o.2, scan-begun c.requires.few)

-- the block met is the next one of those given that isn't full
met : (c : In-Some) → FirstLive c.args.blocks c.loop-j.j-iterator.at c.in-Some.j c.in-Some.weight
met c = rw c.loop-j.invariant.0 at c.in-Some.ensures.steps.0

-- and the scan stands before it
before : (c : In-Some) →
    let a = c.args in
    let b = a.blocks in
    ScanAt a.stage a.k (b.len * b.top) b.count b.len b.cells.now a.region a.batch.now (2 * (a.k - 1)) c.in-Some.j c.loop-j.indexes.at c.loop-j.look
before c = turn-past c.loop-j.invariant.4 (met c).after (omega (arith, (met c).inside)) (met c).passed

pub returns-in_default : goal.returns-in_default
returns-in_default c =
    let s = (goal.at.returns-in_default c).In-Some in
    let i = c.loop-j.invariant in
    let n = rw (i.1, i.2, i.3) at c.in_default.ensures.steps.0 in
    too_few (before s) (met s).inside (met s).weighs (met s).live n c.clear-in_default.ensures

-- the index block taken up is the next one that isn't full
taken : (c : In-Some-next) → NextIndex c.args.region c.args.batch.now (2 * (c.args.k - 1)) c.loop-j.indexes.at (Some (c.in-Some-next.slot, c.in-Some-next.u))
taken c =
    let i = c.loop-j.invariant in
    rw (i.1, i.2, i.3) at c.in-Some-next.ensures.steps.0

-- the turn that takes up an index block
turn : (c : In-Some) {slot u : ℕ} → NextIndex c.args.region c.args.batch.now (2 * (c.args.k - 1)) c.loop-j.indexes.at (Some (slot, u)) →
    let a = c.args in
    let b = a.blocks in
    Turn a.stage a.k (b.len * b.top) b.count b.len b.cells.now a.region a.batch.now (2 * (a.k - 1)) c.in-Some.j slot u c.in-Some.weight c.loop-j.look
turn c n = turn-begun (before c) (met c).inside (met c).weighs (met c).live n

pub overflow_cast-place-in-loop-j : goal.overflow_cast-place-in-loop-j
overflow_cast-place-in-loop-j c =
    let g = goal.at.overflow_cast-place-in-loop-j c in
    omega (arith, (turn g.In-Some (taken g.In-Some-next)).an-index)

pub overflow_cast-place-in-loop-j-2 : goal.overflow_cast-place-in-loop-j-2
overflow_cast-place-in-loop-j-2 c =
    let g = goal.at.overflow_cast-place-in-loop-j-2 c in
    let t = turn g.In-Some (taken g.In-Some-next) in
    omega (arith, weight-most (fits-of c.requires) (omega arith) _ _ t.a_block t.weight)

pub loop-j-preserved-then-u-eq0 : goal.loop-j-preserved-then-u-eq0
loop-j-preserved-then-u-eq0 c =
    let g = goal.at.loop-j-preserved-then-u-eq0 c in
    let b = c.in-Some.ensures.steps.1 in
    let o = c.in-Some-next.ensures.steps.1 in
    let i = c.loop-j.invariant in
    (b.0 ∙ i.0, o.0 ∙ i.1, o.1 ∙ i.2, o.2 ∙ i.3, rw (b.1, o.3, c.or-look.ensures) (turn-free (turn g.In-Some (taken g.In-Some-next)) c.if-u-eq0.true))

pub returns-then-k-u : goal.returns-then-k-u
returns-then-k-u c =
    let u = c.in-Some-next.u in
    let z : u ≡ suc (u - 1) = omega arith in
    let g = goal.at.returns-then-k-u c in
    let t = turn g.In-Some (taken g.In-Some-next) in
    elim c.then-k-u.branch [ then-k-u-via-then-k-u w ↦ too-great t w.if-k-u.true c.clear-then-k-u.ensures | then-k-u-via-else-k-u+then-is_some w ↦ twice t (u - 1) z (omega (arith, w.if-k-u.false)) (sym w.is_some.ensures ∙ w.if-is_some.true) c.clear-then-k-u.ensures ]

pub loop-j-preserved : goal.loop-j-preserved
loop-j-preserved c =
    let u = c.in-Some-next.u in
    let z : u ≡ suc (u - 1) = omega arith in
    let g = goal.at.loop-j-preserved c in
    let b = c.in-Some.ensures.steps.1 in
    let o = c.in-Some-next.ensures.steps.1 in
    let i = c.loop-j.invariant in
    (b.0 ∙ i.0, o.0 ∙ i.1, o.1 ∙ i.2, o.2 ∙ i.3, rw (b.1, o.3) (turn-own (turn g.In-Some (taken g.In-Some-next)) (u - 1) z (omega arith) (sym c.is_some.ensures ∙ c.if-is_some.false)))

-- no block is left
after : (c : In-None) →
    let a = c.args in
    let b = a.blocks in
    ScanAt a.stage a.k (b.len * b.top) b.count b.len b.cells.now a.region a.batch.now (2 * (a.k - 1)) b.count c.loop-j.indexes.at c.loop-j.look
after c = turn-past c.loop-j.invariant.4 c.loop-j.invariant.4.in_cells (le_refl c.args.blocks.count) (rw c.loop-j.invariant.0 at c.in-None.ensures.steps.0)

pub returns-in-Some-next-2 : goal.returns-in-Some-next-2
returns-in-Some-next-2 c =
    let i = c.loop-j.invariant in
    left-over (after (goal.at.returns-in-Some-next-2 c).In-None) (le_refl c.args.blocks.count) (rw (i.1, i.2, i.3) at c.in-Some-next-2.ensures.steps.0) c.clear-in-Some-next-2.ensures

pub returns-in_default-next : goal.returns-in_default-next
returns-in_default-next c =
    let i = c.loop-j.invariant in
    scan-ended (after (goal.at.returns-in_default-next c).In-None) (le_refl c.args.blocks.count) (rw (i.1, i.2, i.3) at c.in_default-next.ensures.steps.0)
