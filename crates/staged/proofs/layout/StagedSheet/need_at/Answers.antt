-- The index block is lent to be looked at.
use native.Mathlib.Omega.{arith}
use Rattle.staged.specs.LentLaws.{need-asked, need-small, need-told}
use Rattle.staged.proofs.layout.StagedSheet.need_at.Goals as goal

pub need_entry-need-requires : goal.need_entry-need-requires
need_entry-need-requires c =
    let s = c.args.self.now in
    let o = s.of.staged in
    let a = need-asked _ _ s.levelled.long _ c.requires.fits.0 _ s.of.has_width _ o.top-most o.cells-most c.requires.fits.1 c.requires.rises in
    record { holds = rw c.index_region.ensures a.0; rises = rw c.index_region.ensures a.1 }

pub overflow_add-result : goal.overflow_add-result
overflow_add-result c =
    let s = c.args.self.now in
    let n = rw c.index_region.ensures at c.need_entry-need.ensures in
    omega (arith, c.requires.fits.2, (need-small _ _ s.levelled.long _ c.requires.fits.0 _ s.of.has_width _ _ s.of.staged.top-most s.of.staged.cells-most c.requires.fits.1 n).0)

pub overflow_add-result-2 : goal.overflow_add-result-2
overflow_add-result-2 c =
    let s = c.args.self.now in
    let n = rw c.index_region.ensures at c.need_entry-need.ensures in
    omega (arith, c.requires.fits.2, (need-small _ _ s.levelled.long _ c.requires.fits.0 _ s.of.has_width _ _ s.of.staged.top-most s.of.staged.cells-most c.requires.fits.1 n).1)

pub returns : goal.returns
returns c =
    let s = c.args.self.now in
    need-told _ _ s.levelled.long _ c.requires.fits.0 _ s.of.has_width _ _ _ (rw c.index_region.ensures at c.need_entry-need.ensures)
