-- What it tells of a plan that it is no move. Assumes nothing.
use Rattle.std.specs.Prelude.{◌≡◌, ℕ}
use Rattle.std.proofs.Common.{refl}
use Rattle.plan.specs.Meaning.{Staged, Within}
use Rattle.plan.specs.declared.Plan.{Plan}
use Rattle.plan.specs.declared.Plan.TheVariants.{Close, Move, Nowhere, Raise, Step, Take}

-- a plan of a staged sheet that is no move stays in its stage
pub within-no-move : (p : Plan) → ((to : ℕ) → p ≡ Move to → ⊥) → Staged p → Within p
within-no-move (Step j v) n h = absurd h
within-no-move (Raise j) n h = tt
within-no-move (Close j a) n h = tt
within-no-move (Take j a up) n h = tt
within-no-move (Move to) n h = absurd (n to refl)
within-no-move Nowhere n h = absurd h
