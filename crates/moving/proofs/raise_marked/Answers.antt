-- `moving::raise_marked` meets its contract: block after block the cells are those that the marks so far leave. Assumes nothing.
use Rattle.std.proofs.Common.{◌≡◌, ◌∙◌, ◌<◌, arith, length, length-take, length-take-le, sym, take}
use Rattle.moving.specs.RaiseLaws.{marked-none, marked-raised, marked-stays, marked-take, placed-take}
use Rattle.moving.proofs.raise_marked.Goals as goal
use Rattle.moving.proofs.raise_marked.Goals.{then-raises, else-raises}

pub loop-recorder-init : goal.loop-recorder-init
loop-recorder-init c = marked-none _ _ _ _

pub raise_parity-requires : goal.raise_parity-requires
raise_parity-requires c =
    let r = c.args.route.now in
    let l = c.loop-recorder in
    let e = c.recorders-recorder-items.ensures in
    let h : l.recorder-index < r.k = omega (arith, rw e at c.loop-recorder-test.true, length-take r.k r.recorders) in
    rw (e, l.auto.cells) (placed-take _ r.k r.recorders _ c.requires l.recorder-index h)

pub loop-recorder-preserved : goal.loop-recorder-preserved
loop-recorder-preserved c =
    let l = c.loop-recorder in
    elim c.if-raises.branch [
      | then-raises w ↦ w.cells-is ∙ w.raise_parity.ensures ∙ marked-raised _ _ l.recorder-index _ _ l.invariant (sym c.raises.ensures ∙ w.if-raises.true)
      | else-raises w ↦ w.cells-is ∙ marked-stays _ _ l.recorder-index _ _ l.invariant (sym c.raises.ensures ∙ w.if-raises.false)
    ]

pub returns : goal.returns
returns c =
    let r = c.args.route.now in
    let l = c.loop-recorder in
    let i : l.recorder-index ≡ length c.recorders-recorder-items.result.now = omega arith in
    let n : length (take r.k r.recorders) ≡ r.k = length-take-le r.k r.recorders (omega (arith, r.few)) in
    (rw (i, c.recorders-recorder-items.ensures, n) at l.invariant) ∙ marked-take _ _ r.k r.k _ _ (omega arith)
