-- `block::shape_of` meets its contract: the shape of the cells passed and that of the cells left make the whole. Assumes nothing.
use Rattle.std.proofs.Common.{◌≡◌, ◌+◌, ◌%◌, ◌≤◌, drop}
use Rattle.rules.specs.Cells.{sum}
use Rattle.block.specs.Meaning.{last_of, nonzero, rise_cells, rises, tops}
use Rattle.block.proofs.shape_of.Given as goal

abbrev pub invariant-loop-i : goal.invariant-loop-i
invariant-loop-i l = record {
  up_few : l.shape.rises ≤ l.i;
  nonzero_few : l.shape.nonzero ≤ l.i;
  tops_few : l.shape.tops ≤ l.i;
  up : rises 255 l.b ≡ l.shape.rises + rises l.before (drop l.i l.b);
  cells : rise_cells 0 255 l.b % 256 ≡ (l.shape.start + rise_cells l.i l.before (drop l.i l.b)) % 256;
  high : nonzero l.b ≡ l.shape.nonzero + nonzero (drop l.i l.b);
  top : tops l.top l.b ≡ l.shape.tops + tops l.top (drop l.i l.b);
  all : sum l.b % 256 ≡ (l.shape.total + sum (drop l.i l.b)) % 256;
  last : last_of 255 l.b ≡ last_of l.before (drop l.i l.b);
}
