-- `plain::write_bits` meets its contract: the values written so far stand before the rest of the output. Assumes nothing.
use Rattle.std.proofs.Common.{◌%◌, ◌<◌, ◌≡◌, ap, arith, get_or-take, length-take-le, set, ◌∙◌}
use Rattle.std.specs.Prelude.{None, Option}
use Rattle.plan.specs.Meaning.{value_in, weight_in}
use Rattle.plan.specs.declared.Place.{Place}
use Rattle.plain.specs.Laws.{parities-set, parities-sum}
use Rattle.plain.proofs.write_bits.Goals as goal

pub loop-i-preserved : goal.loop-i-preserved
loop-i-preserved c =
    let a = c.args in
    let i = c.loop-i.i in
    let l : i < a.k = omega (arith, length-take-le a.k a.bits.now (omega arith)) in
    let e : c.value_of-value.result ≡ value_in a.bits.now i = c.value_of-value.ensures ∙ ap (λ (p : Option Place). weight_in p % 2) (get_or-take a.k a.bits.now i None l) in
    record {
      ones = omega (arith, parities-sum i a.bits.now);
      few = omega arith;
      written = ap (set c.loop-i.out i) e ∙ ap (λ z. set z i (value_in a.bits.now i)) c.loop-i.invariant.written ∙ parities-set i a.bits.now a.out.now (omega arith);
    }
