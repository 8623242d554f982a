-- A reading that is done has the bits, and one that is refused has none.
use Rattle.std.proofs.Common.{refl}
use Rattle.rules.specs.AnswerLaws.{zero-done}
use Rattle.rules.specs.declared.Answer.TheVariants.{Done}
use Rattle.records.specs.ReadLaws.{bits-done, bits_none}
use Rattle.records.proofs.bits_held.Goals as goal

pub returns-in-Done : goal.returns-in-Done
returns-in-Done c =
    bits-done c.args.held c.args.cells.now _ _ _ (Done _) c.front-n.ensures c.in-Done.ensures refl

pub returns-in_default : goal.returns-in_default
returns-in_default c =
    bits_none c.args.held c.args.cells.now _ _ _ c.read.result c.front-n.ensures c.read.ensures (λ z. c.in_default.not-Done _ (zero-done c.read.result z))
