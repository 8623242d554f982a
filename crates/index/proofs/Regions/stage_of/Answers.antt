-- `index::Regions::stage_of` meets its contract: all regions are 0, or the last one that isn't is looked for. Assumes nothing.
use Prim.Native.Nat.{◌*◌}
use lib.ListN.{length, replicate, take}
use Rattle.cells.specs.Laws.{test-true}
use Rattle.rules.specs.Cells.{same?}
use Rattle.index.specs.StageLaws.{dark-all, stage-dark}
use Rattle.index.proofs.Regions.stage_of.Goals as goal

pub returns-then-all_zero : goal.returns-then-all_zero
returns-then-all_zero c =
    let r = c.args.self in
    let s = take (r.regions * r.cells) r.index.now in
    stage-dark r.fit (dark-all r.cells r.regions (length s) r.index.now (test-true (same? s (replicate (length s) 0)) c.all_zero.ensures c.if-all_zero.true))
