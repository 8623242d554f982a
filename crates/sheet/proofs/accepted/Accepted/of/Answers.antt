-- A genuine record is of kind 0 or of kind 1.
use mathlib.Core.Path.{◌∙◌}
use Rattle.rules.specs.AcceptLaws.{genuine-plain, genuine-staged}
use Rattle.rules.specs.GuaranteeLaws.{reported-is}
use Rattle.sheet.proofs.accepted.Accepted.of.Goals as goal

pub invariant_of-result-clause-plain : goal.invariant_of-result-clause-plain
invariant_of-result-clause-plain c = genuine-plain _ c.requires.0 c.if-settings.true

pub invariant_of-result-2-clause-staged : goal.invariant_of-result-2-clause-staged
invariant_of-result-2-clause-staged c = genuine-staged _ c.requires.0 c.if-settings.false

pub invariant_of-result-2-clause-has_width : goal.invariant_of-result-2-clause-has_width
invariant_of-result-2-clause-has_width c = c.width.ensures ∙ reported-is _ _ c.requires.0
