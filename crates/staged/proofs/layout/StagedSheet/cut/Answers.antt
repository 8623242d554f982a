-- The cells of the m blocks hold each cut of them.
use native.Mathlib.Omega.{arith}
use Rattle.laws.specs.Lists.{low-take}
use Rattle.staged.specs.LayoutLaws.{cells-most}
use Rattle.staged.specs.ZeroLaws.{cells-long}
use Rattle.staged.proofs.layout.StagedSheet.cut.Goals as goal

pub invariant_of-result-clause-inside : goal.invariant_of-result-clause-inside
invariant_of-result-clause-inside c =
    let s = c.args.self.now in
    omega (arith, c.requires.2, cells-long _ s.of.staged _ s.levelled _ c.block_cells.ensures)

pub invariant_of-result-clause-short : goal.invariant_of-result-clause-short
invariant_of-result-clause-short c =
    let s = c.args.self.now in
    omega (arith, cells-long _ s.of.staged _ s.levelled _ c.block_cells.ensures, cells-most _ s.of.staged)

pub invariant_of-result-clause-low : goal.invariant_of-result-clause-low
invariant_of-result-clause-low c = low-take _ _ _ c.args.self.now.levelled.low
