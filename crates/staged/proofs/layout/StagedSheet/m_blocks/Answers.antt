-- There are m blocks of k cells.
use mathlib.Core.Path.{ap, ◌∙◌}
use Prim.Native.Nat.{ℕ, ◌*◌}
use native.Mathlib.Omega.{arith}
use Rattle.rules.specs.AcceptLaws.{staged-bits}
use Rattle.staged.specs.LayoutLaws.{cells_are}
use Rattle.staged.proofs.layout.StagedSheet.m_blocks.Goals as goal

pub cut-requires : goal.cut-requires
cut-requires c =
    let o = c.args.self.now.of in
    let k = staged-bits _ o.staged in
    (omega (arith, k.0), omega arith, ap (λ (x : ℕ). x * o.settings.k) o.has_blocks ∙ cells_are _ o.staged)
