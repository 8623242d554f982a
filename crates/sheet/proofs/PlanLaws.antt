-- What it tells of a plan that it is no step, or that it names a place. Assumes nothing.
use Rattle.std.specs.Prelude.{◌≡◌, ℕ}
use Rattle.std.proofs.Common.{refl}
use Rattle.plan.specs.Meaning.{Staged}
use Rattle.plan.specs.declared.Plan.{Plan}
use Rattle.plan.specs.declared.Plan.TheVariants.{Close, Move, Nowhere, Raise, Step, Take}
use Rattle.rules.specs.declared.Answer.TheVariants.{Done}
use Rattle.sheet.specs.Meaning.{place_check}

-- a plan that names a place passes check 7
pub place-named : (p : Plan) → (p ≡ Nowhere → ⊥) → Done 0 ≡ place_check p
place-named (Step j v) n = refl
place-named (Raise j) n = refl
place-named (Close j a) n = refl
place-named (Take j a up) n = refl
place-named (Move to) n = refl
place-named Nowhere n = absurd (n refl)

-- a plan that names a place and is no step is one of a staged sheet
pub staged-no-step : (p : Plan) → ((j v : ℕ) → p ≡ Step j v → ⊥) → place_check p ≡ Done 0 → Staged p
staged-no-step (Step j v) n e = absurd (n j v refl)
staged-no-step (Raise j) n e = tt
staged-no-step (Close j a) n e = tt
staged-no-step (Take j a up) n e = tt
staged-no-step (Move to) n e = tt
staged-no-step Nowhere n e = absurd (cc)
