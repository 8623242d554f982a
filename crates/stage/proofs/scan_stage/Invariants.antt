-- `stage::scan_stage` meets its contract: after the blocks passed the scan holds what they and their index blocks say. Assumes nothing.
use Rattle.std.proofs.Common.{◌-◌, ◌*◌, ◌≡◌}
use Rattle.stage.specs.Meaning.{ScanAt}
use Rattle.stage.proofs.scan_stage.Given as goal

abbrev pub invariant-loop-j : goal.invariant-loop-j
invariant-loop-j l =
    let b = l.blocks in
    let o = l.indexes in
    let q = 2 * (l.k - 1) in
    (l.j-iterator.blocks ≡ b) × (o.region ≡ l.fn.region) × (o.batch.now ≡ l.batch) × (o.count ≡ q)
    × ScanAt l.stage l.k (b.len * b.top) b.count b.len b.cells.now l.fn.region l.batch q l.j-iterator.at o.at l.look
