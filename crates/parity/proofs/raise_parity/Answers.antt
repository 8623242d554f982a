-- `parity::raise_parity` meets its contract: the block lent on, put back, is the cells with that block stored. Assumes nothing.
use Rattle.rules.specs.Cells.{block}
use Rattle.rules.specs.Stage.{raise}
use Rattle.laws.specs.Cut.{part-block}
use Rattle.parity.specs.Laws.{part-store}
use Rattle.parity.proofs.raise_parity.Goals as goal

pub returns : goal.returns
returns c =
    let a = c.args in
    rw (c.raise_one.ensures, part-block a.len a.cells.now a.j)
    (part-store a.len a.cells.now a.j (raise a.top (block a.len a.cells.now a.j)))
