-- The plan in the present stage, or else the move to a later one.
use mathlib.Core.Path.{sym, subst}
use Rattle.plan.specs.Meaning.{Planned}
use Rattle.staged.specs.MoveLaws.{later-planned}
use Rattle.staged.proofs.layout.StagedSheet.plan.Goals as goal

pub returns : goal.returns
returns c =
    let s = c.args.self.now in
    subst (Planned _ _ _ _ _) (sym c.plan_later.ensures) (later-planned _ s.of.staged _ s.levelled _ _ _ (c.plan_stage-plan.ensures.beyond c.in-Nowhere.is))
