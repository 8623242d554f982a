-- What is held is what the turns of some pieces of an input leave.
use Rattle.drive.specs.Meaning.{waiting_of, OfPieces}
use Rattle.drive.proofs.follow.Given as goal

abbrev pub invariant-loop : goal.invariant-loop
invariant-loop l = OfPieces l.initial.held.cells l.held.settings l.held.cells (waiting_of l.input)
