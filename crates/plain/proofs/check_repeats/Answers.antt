-- `plain::check_repeats` meets its contract: the bits below the later one differ, and it is none of those below the earlier one. Assumes nothing.
use Rattle.std.proofs.Common.{arith, get_or-take, length-take-le, sym, ◌<◌, ◌∙◌, ◌≡◌, take, length}
use Rattle.plain.specs.Laws.{absent_more, differing-not, distinct_more}
use Rattle.plain.proofs.check_repeats.Goals as goal
use Rattle.plain.proofs.check_repeats.Goals.{At-loop-earlier}

-- the bits below the later one are so many
earlier_bits : (c : At-loop-earlier) → length (take c.pairs.later c.args.noted.now) ≡ c.pairs.later
earlier_bits c = length-take-le c.pairs.later c.args.noted.now (omega arith)

pub loop-earlier-preserved : goal.loop-earlier-preserved
loop-earlier-preserved c =
    let h : c.loop-earlier.earlier-index < c.pairs.later = omega (arith, earlier_bits (goal.at.loop-earlier-preserved c).At-loop-earlier) in
    record {
      none = c.loop-earlier.invariant.none;
      absent = absent_more _ _ c.args.noted.now (omega arith) c.loop-earlier.invariant.absent
          (λ e. c.if-earlier-bit.false (get_or-take c.pairs.later c.args.noted.now c.loop-earlier.earlier-index 0 h ∙ e));
    }

pub pairs-preserved : goal.pairs-preserved
pairs-preserved c =
    let e : c.loop-earlier.earlier-index ≡ c.pairs.later = omega (arith, earlier_bits (goal.at.pairs-preserved c).At-loop-earlier) in
    record { none = c.loop-earlier.invariant.none; apart = distinct_more _ c.args.noted.now c.pairs-test.true c.pairs.invariant.apart (rw e at c.loop-earlier.invariant.absent) }

pub returns-then-earlier-bit : goal.returns-then-earlier-bit
returns-then-earlier-bit c =
    let h : c.loop-earlier.earlier-index < c.pairs.later = omega (arith, earlier_bits (goal.at.returns-then-earlier-bit c).At-loop-earlier) in
    differing-not c.loop-earlier.earlier-index c.pairs.later c.args.noted.now h c.pairs-test.true
    (sym (get_or-take c.pairs.later c.args.noted.now c.loop-earlier.earlier-index 0 h) ∙ c.if-earlier-bit.true)
