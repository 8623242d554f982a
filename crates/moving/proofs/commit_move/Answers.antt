-- `moving::commit_move` meets its contract: the marked blocks and the batch, lent on one after the other and put back. Assumes nothing.
use Rattle.std.proofs.Math.Nat.{add-sub_cancel_left}
use Rattle.std.proofs.Common.{sym}
use Rattle.moving.specs.CommitLaws.{move-made, move-placed, parity-cells}
use Rattle.moving.proofs.commit_move.Goals as goal

pub slice_bounds-raise_marked-end-2 : goal.slice_bounds-raise_marked-end-2
slice_bounds-raise_marked-end-2 c =
    let h = c.requires.has_route in
    sym (parity-cells _ _ _ _ c.requires.region_fits h.1)

pub raise_marked-requires : goal.raise_marked-requires
raise_marked-requires c =
    let h = c.requires.has_route in
    move-placed _ _ _ _ c.requires.region_fits h.1

pub returns : goal.returns
returns c = λ vs m.
    rw (c.slots.ensures, add-sub_cancel_left) (move-made _ _ _ _ c.requires.region_fits m _ _ c.raise_marked.ensures c.write_batch.ensures)
