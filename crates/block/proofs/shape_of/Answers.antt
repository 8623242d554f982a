-- `block::shape_of` meets its contract: the shape of the cells passed and that of the cells left make the whole. Assumes nothing.
use Rattle.std.proofs.Common.{ap, arith}
use Rattle.laws.specs.Lists.{drop-next}
use Rattle.rules.specs.Cells.{sum}
use Rattle.block.specs.Meaning.{higher, last_of, nonzero, rise_cells, rises, tops}
use Rattle.block.proofs.PassLaws.{shape-whole}
use Rattle.block.proofs.shape_of.Goals as goal

pub loop-i-preserved : goal.loop-i-preserved
unfolding rises rise_cells nonzero tops last_of
loop-i-preserved c =
    let b = c.args.b.now in
    let i = c.loop-i.i in
    let next = drop-next b i c.loop-i-test.true in
    let up = ap (rises c.loop-i.before) next in
    let cells = ap (rise_cells i c.loop-i.before) next in
    let high = ap nonzero next in
    let top = ap (tops c.args.top) next in
    let all = ap sum next in
    let last = ap (last_of c.loop-i.before) next in
    record {
      up_few = omega arith;
      nonzero_few = omega arith;
      tops_few = omega arith;
      up = omega arith;
      cells = omega arith;
      high = omega arith;
      top = omega arith;
      all = omega arith;
      last = omega arith;
    }

pub returns : goal.returns
unfolding higher
returns c =
    let l = c.loop-i in
    let s = l.shape in
    let v = l.invariant in
    shape-whole c.args.top l.before l.i s.rises _ s.start s.nonzero s.tops s.total c.args.b.now
    (omega arith) (omega arith) c.loop-i-test.false (omega arith) (omega arith)
    v.up v.cells v.high v.top v.all v.last (omega arith)
