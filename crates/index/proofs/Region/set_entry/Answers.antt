-- `index::Region::set_entry` meets its contract: the digits from i on stand, and those of the rest are still to be written. Assumes nothing.
use Rattle.std.proofs.Common.{◌∙◌, ◌≡◌, arith, sym}
use Rattle.index.specs.Laws.{cells-first, cells-last, cells-turn}
use Rattle.index.proofs.Region.set_entry.Goals as goal

pub loop-i-init : goal.loop-i-init
loop-i-init c = record { holds = c.requires.1; written = cells-first _ _ _ _ }

pub loop-i-preserved : goal.loop-i-preserved
loop-i-preserved c =
    let l = c.loop-i in
    let t = cells-turn c.args.self.floor c.args.self.step l.i _ l.b c.loop-i-test.true (omega arith) l.invariant.holds in
    rw (c.last_digit-digit.ensures.0, c.last_digit-digit.ensures.1) (record { holds = t.0; written = l.invariant.written ∙ t.1 })

pub returns : goal.returns
returns c =
    let e : c.loop-i.i ≡ 0 = omega arith in
    sym (rw (e, cells-last) at c.loop-i.invariant.written)
