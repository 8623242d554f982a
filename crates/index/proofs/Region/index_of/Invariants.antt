-- `index::Region::index_of` meets its contract: the number is that of the digits passed. Assumes nothing.
use Rattle.index.specs.Laws.{ReadTo}
use Rattle.index.proofs.Region.index_of.Given as goal

abbrev pub invariant-loop-x : goal.invariant-loop-x
invariant-loop-x l = ReadTo l.self.floor l.self.step l.b l.x-index l.number l.power
