-- A move, or a plan within the present stage; what it needs is known before.
use mathlib.Core.Path.{◌∙◌, ap, sym}
use Rattle.plan.specs.Meaning.{value_in}
use Rattle.rules.specs.Cells.{sum}
use Rattle.rules.specs.Staged.{after}
use Rattle.staged.specs.NeedLaws.{carried-parts, plan-needs}
use Rattle.staged.proofs.PlanLaws.{within-no-move}
use Rattle.staged.proofs.layout.StagedSettings.carry_out.Goals as goal

pub returns : goal.returns
returns c =
    let a = c.args in
    let r = a.self.settings in
    let g = after a.bit (value_in a.bits.now) in
    let w = within-no-move a.plan c.in_default.not-Move c.requires.2 in
    let q = c.carry_within.ensures ∙ carried-parts r a.self.staged a.sheet.now c.requires.0 a.bit a.left g a.plan w in
    record { sheet_after = q; levels_raised = (plan-needs r a.self.staged a.sheet.now c.requires.0 a.bit a.left g a.plan _ w c.requires.3 c.need_within-need.ensures).levels ∙ sym (ap sum q) }
