-- The plan by the stage that the look found.
use mathlib.Core.Path.{ap, sym, subst}
use Prim.Native.Nat.{◌*◌}
use native.Mathlib.Omega.{arith}
use Rattle.rules.specs.AcceptLaws.{staged-bits}
use Rattle.staged.specs.Meaning.{StagePlan}
use Rattle.staged.specs.SeenLaws.{later-near, later-plan, seen_most, zero-plan}
use Rattle.staged.proofs.layout.StagedSheet.plan_stage.Goals as goal

pub plan_blocks-requires : goal.plan_blocks-requires
plan_blocks-requires c = omega (arith, c.requires.0, (staged-bits _ c.args.self.now.of.staged).1)

pub returns-then-stage-eq0 : goal.returns-then-stage-eq0
returns-then-stage-eq0 c =
    let s = c.args.self.now in
    subst (StagePlan _ _ _ _ _) (sym c.plan_blocks.ensures) (zero-plan _ s.of.staged _ _ _ c.requires.1 s.levelled _ c.requires.0 c.if-stage-eq0.true)

pub overflow_sub-settings-2 : goal.overflow_sub-settings-2
overflow_sub-settings-2 c = omega (arith, seen_most _ c.args.self.now.of.staged _ _ _ c.requires.1)

pub plan_in-requires : goal.plan_in-requires
plan_in-requires c =
    let s = c.args.self.now in (
      omega (arith, c.requires.0, (staged-bits _ s.of.staged).1),
      later-near _ s.of.staged _ _ _ c.requires.1 s.levelled _ c.requires.0 c.if-stage-eq0.false _ _ s.of.has_width (ap (λ n. n * s.of.settings.top) c.parity_length.ensures),
    )

pub returns : goal.returns
returns c =
    let s = c.args.self.now in
    subst (StagePlan _ _ _ _ _) (sym c.plan_in.ensures)
    (later-plan _ s.of.staged _ _ _ c.requires.1 s.levelled _ c.requires.0 c.if-stage-eq0.false _ _ s.of.has_width (ap (λ n. n * s.of.settings.top) c.parity_length.ensures))
