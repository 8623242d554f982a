-- The index block is put back as it is to be.
use Rattle.staged.specs.LentLaws.{set-asked, set_told}
use Rattle.staged.proofs.layout.StagedSettings.set_at.Goals as goal

pub set_entry-requires : goal.set_entry-requires
set_entry-requires c =
    let o = c.args.self in
    rw c.index_region.ensures (set-asked _ _ c.requires.0 _ c.requires.1 _ o.has_width _ o.staged.top-most c.requires.2)

pub returns : goal.returns
returns c = set_told _ _ c.requires.0 _ c.requires.1 _ c.args.self.has_width _ _ (rw c.index_region.ensures at c.set_entry.ensures)
