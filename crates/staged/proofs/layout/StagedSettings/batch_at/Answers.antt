-- The batch of the stage with d left is batch s - 1 - d.
use mathlib.Core.Path.{◌≡◌, ap₂, ◌∙◌}
use Prim.Native.Nat.{ℕ, ◌+◌, ◌-◌, ◌*◌}
use native.Mathlib.Omega.{arith}
use Rattle.rules.specs.Batches.{batch_cells}
use Rattle.rules.specs.GuaranteeLaws.{batch-start-is}
use Rattle.staged.specs.LayoutLaws.{cells_are}
use Rattle.staged.proofs.layout.StagedSettings.batch_at.Goals as goal

pub returns : goal.returns
returns c =
    let o = c.args.self in
    let r = o.settings in
    let e : r.s - 1 - c.args.left - 1 ≡ r.s - 2 - c.args.left = omega arith in
    c.batch_start.ensures ∙ batch-start-is r _ o.genuine (omega arith) (omega arith)
    ∙ ap₂ (λ (x y : ℕ). x + y * batch_cells r.s r.w) (cells_are r o.staged) e
