-- The loop stops at the first width that is enough.
use Rattle.std.proofs.Common.{◌≡◌, suc, ◌+◌, ◌*◌, ◌≤◌, ◌^◌, rules, sym, ap, add-one, mul-le-mul_left, pow-suc, arith}
use native.Mathlib.Nat.{pow-zero}
use Rattle.rules.specs.SearchLaws.{first-none, first-miss}
use Rattle.rules.specs.StagesLaws.{width_is}
use Rattle.rules.proofs.acceptance.index_width.Goals as goal

pub loop-p-init : goal.loop-p-init
loop-p-init c = (sym (pow-zero (suc c.args.top)), search rules, search rules, first-none)

pub loop-p-preserved : goal.loop-p-preserved
loop-p-preserved c =
    let l = c.loop-p in
    let top = c.args.top in
    let two : 2 ≤ top + 1 = omega arith in
    let e : l.p * (top + 1) ≡ suc top ^ (l.w + 1) = rw (add-one top, add-one l.w, pow-suc) (ap (λ z. z * suc top) l.invariant.0) in
    (e, omega (arith, mul-le-mul_left l.p two), omega arith, first-miss l.invariant.3 (λ h. omega arith))

pub returns : goal.returns
returns c =
    let l = c.loop-p in
    let a = c.args in
    sym (width_is a.top a.k l.w l.invariant.3 l.invariant.2 (rw l.invariant.0 at c.loop-p-test.false))
