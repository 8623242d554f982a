-- `cells::past_run` meets its contract: every block passed over weighs what the level says. Assumes nothing.
use mathlib.Core.Path.{◌≡◌, ◌∙◌, ap, subst}
use Prim.Native.Nat.{◌*◌, ◌+◌, ◌-◌, ◌≤◌}
use native.Mathlib.Nat.{div-le_self, div-mul-le_self, le-mul_of_pos_right, le_refl, mul-le-mul_right}
use native.Mathlib.Omega.{arith}
use Rattle.cells.proofs.RunLaws.{past_more, past-none}
use Rattle.cells.specs.Meaning.{RunAt, run}
use lib.ListN.{drop, length, length-drop, length-take, take}
use lib.Seq.{take-take}
use Rattle.cells.proofs.past_run.Goals as goal
use Rattle.cells.proofs.past_run.Goals.{In-loop-j, In-Some}

pub loop-j-init : goal.loop-j-init
loop-j-init c =
    let a = c.args in
    (omega arith, omega arith, past-none a.len a.level a.from a.cells.now)

pub overflow_add-j : goal.overflow_add-j
overflow_add-j c =
    let a = c.args in
    omega (arith, div-le_self run a.len, le-mul_of_pos_right {m = a.len} a.count (omega arith))

-- in a turn the run begins in the cells
begins : (c : In-loop-j) → c.loop-j.j * c.args.len ≤ 65536
begins c =
    let a = c.args in
    omega (arith, mul-le-mul_right {m = c.loop-j.j} {n = a.count} a.len (omega arith))

pub overflow_add-result : goal.overflow_add-result
overflow_add-result c =
    let a = c.args in
    omega (arith, c.full_at_front.ensures.0, le-mul_of_pos_right {m = a.len} a.count (omega arith))

-- a run's worth of cells is left from block j on, and the front is those
front : (c : In-Some) → (c.loop-j.j * c.args.len + run ≤ length c.args.cells.now) × (c.in-Some.front.now ≡ take run (drop (c.loop-j.j * c.args.len) c.args.cells.now))
front c =
    let s = drop (c.loop-j.j * c.args.len) c.args.cells.now in
    let f = c.in-Some.ensures.cases in
    let l : c.loop-j.j * c.args.len + run ≤ length c.args.cells.now = omega (arith, simp (length-take, length-drop) at f.enough) in
    (l, f.same ∙ take-take run (length c.args.cells.now - c.loop-j.j * c.args.len) s (omega (arith, l)))

pub returns-then-not-run_at : goal.returns-then-not-run_at
returns-then-not-run_at c =
    let a = c.args in
    let r = c.full_at_front.result in
    let s = drop (c.loop-j.j * a.len) a.cells.now in
    let (h, q) = front (goal.at.returns-then-not-run_at c).In-Some in
    let f = c.full_at_front.ensures in
    let e = ap (take (r * a.len)) q ∙ take-take (r * a.len) run s (omega (arith, f.1)) in (
      omega arith,
      omega (arith, f.0),
      past_more a.len a.level r (r * a.len) a.from c.loop-j.j a.cells.now (le_refl (r * a.len)) (omega (arith, f.1)) (subst (RunAt a.level) e f.2) c.loop-j.invariant.2,
    )

pub loop-j-preserved : goal.loop-j-preserved
loop-j-preserved c =
    let a = c.args in
    let (h, q) = front (goal.at.loop-j-preserved c).In-Some in
    let g = subst (RunAt a.level) q (c.run_at.ensures c.if-not-run_at.false) in (
      omega arith,
      omega arith,
      past_more a.len a.level a.step run a.from c.loop-j.j a.cells.now (omega (arith, rw (← c.requires.stride.1) at (div-mul-le_self run a.len))) (omega arith) g c.loop-j.invariant.2,
    )
