-- `index::Region::need_entry` meets its contract: what the cells passed need is known, and the digits of the rest are those of the cells before them. Assumes nothing.
use Rattle.std.proofs.Common.{◌-◌, length}
use Rattle.index.specs.Meaning.{as_entry, cells_at}
use Rattle.index.specs.NeedLaws.{NeedPast}
use Rattle.index.proofs.Region.need_entry.Given as goal

abbrev pub invariant-loop-x : goal.invariant-loop-x
invariant-loop-x l =
    NeedPast l.self.floor l.self.step l.b (cells_at l.self.floor l.self.step (length l.b) (as_entry l.fn.entry)) (length l.b - length l.yielded) (as_entry l.rest) l.cells l.levels
