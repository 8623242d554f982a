-- An index block rises to full, and from 0 to any number.
use Prim.Native.Nat.{suc, ◌+◌}
use Rattle.rules.specs.Batches.{digits}
use Rattle.laws.specs.Lists.{rises-zero}
use Rattle.laws.specs.Splice.{part}
use mathlib.Core.Path.{subst}
use Rattle.staged.specs.Meaning.{IndexReady}
use Rattle.staged.specs.NeedLaws.{index-rises}
use Rattle.staged.proofs.layout.StagedSheet.need_within.Goals as goal

pub need_at-requires-clause-rises : goal.need_at-requires-clause-rises
need_at-requires-clause-rises c =
    index-rises _ _ c.args.self.now.levelled _ (subst (IndexReady _ _) c.in-Close.is c.requires.2)

pub need_at-requires-in-Take-clause-rises : goal.need_at-requires-in-Take-clause-rises
need_at-requires-in-Take-clause-rises c =
    let r = c.args.self.now.of.settings in
    rises-zero (part c.in-Take.a r.w c.args.self.now.cells.now) (digits (suc r.top) r.w (c.args.bit + 1)) (subst (IndexReady _ _) c.in-Take.is c.requires.2).2
