-- A step of a block raises one level.
use mathlib.Core.Path.{◌∙◌, ap, sym, subst}
use Prim.Native.Nat.{◌-◌, ◌<◌}
use Rattle.rules.specs.AcceptLaws.{CommonFacts}
use Rattle.rules.specs.Cells.{sum}
use Rattle.rules.specs.declared.Settings.{Settings}
use Rattle.plan.specs.Meaning.{Fits, StepFits}
use Rattle.sheet.specs.ChangeLaws.{accepted-common, step-one}
use Rattle.sheet.specs.Meaning.{settings_of}
use Rattle.sheet.proofs.accepted.Accepted.carry.Goals as goal

pub returns-in-Step-clause-levels_raised : goal.returns-in-Step-clause-levels_raised
returns-in-Step-clause-levels_raised c =
    let a = c.args in
    let e = sym c.settings-settings.ensures in
    let h = subst (Fits (settings_of a.self) a.sheet.now a.bit ((settings_of a.self).s - 1 - a.stage)) c.in-Step.is c.requires.plan_fits.0 in
    step-one c.settings-settings.result (subst CommonFacts e (accepted-common a.self)) a.sheet.now a.bit _ _ (subst (λ (r : Settings). a.bit < r.k) e c.requires.sheet_fits.1) (subst (λ (r : Settings). StepFits r a.sheet.now a.bit c.in-Step.j c.in-Step.weight) e h) ∙ sym (ap sum c.raise_block.ensures)
