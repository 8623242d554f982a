-- The plan of a plain sheet is one among its blocks.
use mathlib.Core.Path.{subst, sym}
use Rattle.plan.specs.Meaning.{Planned}
use Rattle.sheet.specs.ChangeLaws.{plain-plan}
use Rattle.sheet.proofs.accepted.Accepted.plan.Goals as goal

pub returns-in-Plain : goal.returns-in-Plain
returns-in-Plain c =
    subst (Planned _ _ _ _ _) (sym c.plan_blocks.ensures) (plain-plan c.in-Plain.is c.args.sheet.now _ _ _ _ c.requires.0 c.requires.1 c.requires.2)
