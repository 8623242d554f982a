-- Where a look found a staged sheet: at stage 0, or at a later one; and the plan in that stage. Assumes nothing.
use Rattle.std.specs.Prelude.{◌≡◌, refl, List, ℕ, ◌-◌, ◌*◌, ◌^◌, ◌≤◌, ◌<◌}
use Rattle.std.proofs.Common.{ap, subst, arith}
use Rattle.rules.specs.AcceptLaws.{StagedFacts}
use Rattle.rules.specs.Calls.{as_check}
use Rattle.rules.specs.Staged.{parity_length}
use Rattle.rules.specs.declared.Settings.{Settings}
use Rattle.plain.specs.Meaning as P
use Rattle.plan.specs.Meaning.{Levelled}
use Rattle.plan.specs.declared.Look.{Look}
use Rattle.stage.specs.Meaning.{Near, plan_in}
use Rattle.staged.specs.Meaning.{SeenStage, SeenZero, StagePlan, StagedSeen, seen-later, seen-zero}
use Rattle.staged.specs.StageLaws.{stage-below}
use Rattle.staged.specs.WithinLaws.{within-near, within-planned, within-stuck}
use Rattle.staged.specs.ZeroChange.{zero-planned, zero-stuck}

module _ (r : Settings) (p : StagedFacts r) (f : List ℕ) (b : Look) (v : ℕ) (s : StagedSeen r f b v) where
  at_zero : {v : ℕ} → StagedSeen r f b v → v ≡ 0 → SeenZero r f b
  at_zero (seen-zero h) e = h
  at_zero (seen-later d h) e = absurd (omega (arith, stage-below r p f d h.stage.stage))

  -- a stage of the sheet's
  stage-most : {v : ℕ} → StagedSeen r f b v → v ≤ r.s - 1
  stage-most (seen-zero h) = omega arith
  stage-most (seen-later d h) = omega arith

  at-later : {v : ℕ} → StagedSeen r f b v → ¬ (v ≡ 0) → SeenStage r f (r.s - 1 - v) b
  at-later (seen-zero h) n = absurd (n refl)
  at-later (seen-later d h) n =
      let e : d ≡ r.s - 1 - (r.s - 1 - d) = omega (arith, stage-below r p f d h.stage.stage) in
      subst (λ (x : ℕ). SeenStage r f x b) e h

  pub seen_most : v ≤ r.s - 1
  seen_most = stage-most s

  -- one from 1 up
  pub before_last : ¬ (v ≡ 0) → r.s - 1 - v < r.s - 1
  before_last n = stage-below r p f (r.s - 1 - v) (at-later s n).stage.stage

  module _ (u : Levelled r f) (i : ℕ) (l : i < r.k) where
    -- at stage 0: the plan among the m blocks
    pub zero-plan : v ≡ 0 → StagePlan r f i (r.s - 1 - v) b (P.plan_in b i)
    zero-plan e =
        let h : SeenZero r f b = at_zero s e in
        let z : r.s - 1 ≡ r.s - 1 - v = omega arith in
        subst (λ (x : ℕ). StagePlan r f i x b (P.plan_in b i)) z (record {
          here = zero-planned r p f u h.stage (r.m * 2 ^ r.s) refl b h.blocks (ap as_check h.passed) i (r.s - 1) b.bits l;
          beyond = zero-stuck r p f u h.stage (r.m * 2 ^ r.s) refl b h.blocks (ap as_check h.passed) i l;
        })

    module _ (n : ¬ (v ≡ 0)) (w full : ℕ) (e₂ : w ≡ r.w) (e₃ : full ≡ parity_length (r.s - 1 - v) * r.top) where
      -- at a later stage: the plan among its parity blocks
      pub later-plan : StagePlan r f i (r.s - 1 - v) b (plan_in b i w full)
      later-plan =
          let h : SeenStage r f (r.s - 1 - v) b = at-later s n in
          record {
            here = within-planned r p f u i (r.s - 1 - v) h.stage b h.passed l w full e₂ e₃ b.bits;
            beyond = within-stuck r p f u i (r.s - 1 - v) h.stage b h.passed l w full e₂ e₃;
          }

      -- what the look tells there is small
      pub later-near : Near b w
      later-near = let h : SeenStage r f (r.s - 1 - v) b = at-later s n in within-near r p f u i (r.s - 1 - v) h.stage b h.passed l w full e₂ e₃
