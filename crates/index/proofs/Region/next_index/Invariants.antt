-- `index::Region::next_index` meets its contract: the index blocks passed are all full. Assumes nothing.
use Rattle.index.specs.Meaning.{ClosedFrom}
use Rattle.index.proofs.Region.next_index.Given as goal

abbrev pub invariant-loop-x : goal.invariant-loop-x
invariant-loop-x l = ClosedFrom l.self l.batch l.from l.x
