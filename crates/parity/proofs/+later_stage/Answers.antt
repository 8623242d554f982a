-- `parity::later_stage` meets its contract: the length of the blocks falls, and each return is one turn of the search. Assumes nothing.
use Rattle.std.proofs.Common.{ℕ, ◌≡◌, ◌*◌, ◌/◌, ◌∙◌, sym, arith, length}
use Rattle.rules.specs.Cells.{chop}
use Rattle.rules.specs.Stage.{live_weights}
use Rattle.parity.specs.Laws.{halved, later-here, later-on, later-stop}
use Rattle.parity.proofs.+later_stage.Goals as goal
use Rattle.parity.proofs.+later_stage.Goals.{After-count_live}

pub returns-then-blocks-lt4 : goal.returns-then-blocks-lt4
returns-then-blocks-lt4 t c =
    let b = c.args.blocks in
    sym (later-stop c.args.k b.top b.count c.args.left b.cells.now (omega arith))

-- so many of the halved blocks are live
counted : (t : ℕ) (c : After-count_live t) →
    let b = c.args.blocks in
    c.count_live.result ≡ length (live_weights (b.len / 2 * b.top) (chop (b.len / 2) (2 * b.count) b.cells.now))
counted t c =
    let h = c.halved-halved.ensures in
    rw (h.cells, h.sizes.0, h.sizes.1, h.sizes.2) at c.count_live.ensures

pub returns-then-k-count_live : goal.returns-then-k-count_live
returns-then-k-count_live t c =
    let b = c.args.blocks in
    sym (later-here c.args.k b.top b.count c.args.left b.len b.cells.now c.requires c.if-blocks-lt4.false (omega (arith, counted t (goal.at.returns-then-k-count_live t c).After-count_live)))

pub later_stage-requires : goal.later_stage-requires
later_stage-requires t c =
    let g = halved c.args.left c.args.blocks.len c.args.blocks.count c.requires c.if-blocks-lt4.false in
    (omega arith, c.halved-halved.ensures.sizes.0 ∙ g.half)

pub returns : goal.returns
returns t c =
    let b = c.args.blocks in
    let h = c.halved-halved.ensures in
    later-on c.args.k b.top b.count c.args.left b.len b.cells.now c.requires c.if-blocks-lt4.false (omega (arith, counted t (goal.at.returns t c).After-count_live)) (rw (h.cells, h.sizes.1, h.sizes.2) at c.later_stage.ensures)
