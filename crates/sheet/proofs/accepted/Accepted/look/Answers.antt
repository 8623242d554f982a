-- Check 6, by the kind.
use mathlib.Core.Path.{subst, sym}
use Rattle.sheet.specs.ChangeLaws.{plain-seen, staged-seen}
use Rattle.sheet.specs.Meaning.{SheetLook, settings_of}
use Rattle.sheet.specs.declared.accepted.Accepted.{Accepted}
use Rattle.sheet.proofs.accepted.Accepted.look.Goals as goal

pub returns-in-Plain : goal.returns-in-Plain
returns-in-Plain c =
    subst (λ (k : Accepted). SheetLook (settings_of k) c.args.sheet.now c.look.new.look) (sym c.in-Plain.is) (plain-seen _ _ _ c.in-Plain.of.plain c.look.ensures)

pub returns-in-Staged : goal.returns-in-Staged
returns-in-Staged c =
    subst (λ (k : Accepted). SheetLook (settings_of k) c.args.sheet.now c.look-in-Staged.new.look) (sym c.in-Staged.is) (staged-seen _ _ _ c.in-Staged.of.staged c.look-in-Staged.ensures)
