-- Check 1 and then check 2.
use mathlib.Core.Path.{sym, ap, ◌∙◌}
use Rattle.rules.specs.Calls.{as_check}
use Rattle.laws.specs.Calls.{ends_there, then-goes}
use Rattle.sheet.specs.CallLaws.{shape-told}
use Rattle.sheet.proofs.checks.check_size.Goals as goal

pub returns-in_default : goal.returns-in_default
returns-in_default c =
    ends_there c.check_shape-shape.result _ (c.check_shape-shape.ensures ∙ shape-told _ _ c.requires) c.in_default.not-Done

pub returns : goal.returns
returns c =
    c.check_length.ensures ∙ sym (then-goes _ (sym (c.check_shape-shape.ensures ∙ shape-told _ _ c.requires) ∙ ap as_check c.in-Done.is))
