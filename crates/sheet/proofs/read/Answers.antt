-- A reading answers by the checks in number order, and then writes the bits.
use mathlib.Core.Path.{refl}
use native.Mathlib.Omega.{arith}
use Rattle.rules.specs.AcceptLaws.{genuine-common}
use Rattle.rules.specs.PromiseLaws.{told-read}
use Rattle.sheet.specs.CallLaws.{accepted-asks, accepted-levelled, accepted-told, look-refused, read_made, read-places, read-refused}
use Rattle.sheet.specs.declared.checks.Asked.TheVariants.{Places}
use Rattle.sheet.proofs.read.Goals as goal

pub returns-in_default : goal.returns-in_default
returns-in_default c =
    told-read (read-refused _ _ _ _ _ (look-refused _ _ _ _ c.check_call-checked.ensures c.in_default.not-Done) refl c.in_default.not-Done)

pub of-requires : goal.of-requires
of-requires c = accepted-asks _ _ (Places _) c.check_call-checked.ensures c.in-Done.is _ c.blocks-blocks.ensures

pub look-requires : goal.look-requires
look-requires c = accepted-levelled _ _ (Places _) c.check_call-checked.ensures c.in-Done.is c.of.result c.of.ensures

pub returns-in_default-answer : goal.returns-in_default-answer
returns-in_default-answer c =
    let h = accepted-told _ _ (Places _) c.check_call-checked.ensures c.in-Done.is c.of.result c.of.ensures _ c.look.ensures in
    told-read (read-refused _ _ _ _ _ h refl c.in_default-answer.not-Done)

pub write_bits-requires : goal.write_bits-requires
write_bits-requires c =
    let h = accepted-told _ _ (Places _) c.check_call-checked.ensures c.in-Done.is c.of.result c.of.ensures _ c.look.ensures in
    let e = c.in-Done-answer.is in
    (omega (arith, (genuine-common _ (h.look _ e).0).bits_most), read-places _ _ _ _ _ h e)

pub returns : goal.returns
returns c =
    let h = accepted-told _ _ (Places _) c.check_call-checked.ensures c.in-Done.is c.of.result c.of.ensures _ c.look.ensures in
    told-read (read_made _ _ _ _ _ _ _ h c.in-Done-answer.is c.write_bits.ensures.ones c.write_bits.ensures.places)
