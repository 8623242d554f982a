-- `parity::raise_one` meets its contract: no cell passed is below the top level. Assumes nothing.
use Rattle.std.proofs.Common.{◌≡◌, ◌∙◌, add-one, ap, arith, get_or, length, set, sym}
use Rattle.laws.specs.Stage.{raise-here, raise-none}
use Rattle.rules.specs.Stage.{raise}
use Rattle.parity.proofs.raise_one.Goals as goal

pub returns-then-level-top : goal.returns-then-level-top
returns-then-level-top c =
    let l = c.loop-i in
    ap (set l.b l.i) (add-one (get_or l.b l.i 0))
    ∙ sym (raise-here c.args.top l.i l.b (omega arith) (omega arith) l.invariant.passed)
    ∙ ap (raise c.args.top) l.invariant.same

pub returns : goal.returns
returns c =
    let e : c.loop-i.i ≡ length c.loop-i.b = omega arith in
    sym (raise-none c.args.top c.loop-i.b (rw e at c.loop-i.invariant.passed)) ∙ ap (raise c.args.top) c.loop-i.invariant.same
