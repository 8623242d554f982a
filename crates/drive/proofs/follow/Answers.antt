-- What some pieces of an input leave stays so by one more, and where the loop ends it is what an input leaves.
use Rattle.std.proofs.Common.{sym, subst, List, [], ℕ, arith}
use Rattle.rules.specs.declared.Settings.{Settings}
use Rattle.drive.specs.Meaning.{OfPieces}
use Rattle.drive.specs.Laws.{none_read, piece-more, input-stopped, input-read}
use Rattle.drive.proofs.follow.Goals as goal

pub loop-init : goal.loop-init
loop-init c =
    let xs : List ℕ = c.args.held.now.cells in
    subst (λ (r : Settings). OfPieces xs r xs []) (sym c.requires) (none_read xs)

pub returns-in_default : goal.returns-in_default
returns-in_default c = input-stopped c.loop.invariant

pub returns-then-not-write_all : goal.returns-then-not-write_all
returns-then-not-write_all c =
    input-read _ _ c.in-Ok.count c.loop.invariant c.read_more.ensures.1 c.in-Ok.ensures.0 c.take_reading.ensures

pub returns-then-count-eq0 : goal.returns-then-count-eq0
returns-then-count-eq0 c =
    input-read _ _ c.in-Ok.count c.loop.invariant c.read_more.ensures.1 c.in-Ok.ensures.0 c.take_reading.ensures

pub loop-preserved : goal.loop-preserved
loop-preserved c =
    piece-more _ _ c.in-Ok.count c.loop.invariant c.read_more.ensures.1 (omega arith) c.in-Ok.ensures.0 c.take_reading.ensures

pub returns : goal.returns
returns c = input-stopped c.loop.invariant
