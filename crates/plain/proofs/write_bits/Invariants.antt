-- `plain::write_bits` meets its contract: the values written so far stand before the rest of the output. Assumes nothing.
use Rattle.std.proofs.Common.{◌≡◌, ◌≤◌, ◌++◌, drop}
use Rattle.rules.specs.Cells.{sum}
use Rattle.plain.specs.Meaning.{parities}
use Rattle.plain.proofs.write_bits.Given as goal

abbrev pub invariant-loop-i : goal.invariant-loop-i
invariant-loop-i l = record {
  ones : l.ones ≡ sum (parities l.i l.bits);
  few : l.ones ≤ l.i;
  written : l.out ≡ parities l.i l.bits ++ drop l.i l.initial.out;
}
