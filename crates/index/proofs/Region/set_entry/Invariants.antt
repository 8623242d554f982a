-- `index::Region::set_entry` meets its contract: the digits from i on stand, and those of the rest are still to be written. Assumes nothing.
use Rattle.std.proofs.Common.{◌≡◌, ◌++◌, drop, length}
use Rattle.index.specs.Meaning.{Holds, as_entry, cells_at}
use Rattle.index.proofs.Region.set_entry.Given as goal

abbrev pub invariant-loop-i : goal.invariant-loop-i
invariant-loop-i l = record {
  holds : Holds l.self.step l.i (as_entry l.rest);
  written : cells_at l.self.floor l.self.step (length l.initial.b) (as_entry l.fn.entry) ≡ cells_at l.self.floor l.self.step l.i (as_entry l.rest) ++ drop l.i l.b;
}
