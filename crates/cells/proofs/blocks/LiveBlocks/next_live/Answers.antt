-- `LiveBlocks::next_live` meets its contract: every block that was passed is full. Assumes nothing.
use Rattle.std.proofs.Common.{◌≡◌, ◌+◌, ◌∙◌, ap, sym, arith, length}
use Rattle.rules.specs.Cells.{block, sum}
use Rattle.cells.proofs.LiveLaws.{block-brief, full-more, full-run}
use Rattle.cells.proofs.blocks.LiveBlocks.next_live.Goals as goal
use Rattle.cells.proofs.blocks.LiveBlocks.next_live.Goals.{After-sum_of-weight}

pub sum_of-weight-requires : goal.sum_of-weight-requires
sum_of-weight-requires c = omega (arith, ap length c.block.ensures, block-brief c.args.self.blocks.len c.loop-next.next c.args.self.blocks.cells.now, c.args.self.blocks.brief)

-- what was summed is the block
weighs : (c : After-sum_of-weight) → c.sum_of-weight.result ≡ sum (block c.args.self.blocks.len c.args.self.blocks.cells.now c.loop-next.next)
weighs c = c.sum_of-weight.ensures ∙ ap sum c.block.ensures

pub returns-then-weight-full : goal.returns-then-weight-full
returns-then-weight-full c =
    let l = c.loop-next in
    record { after = l.invariant.0; inside = c.loop-next-test.true; passed = l.invariant.2; weighs = weighs (goal.at.returns-then-weight-full c).After-sum_of-weight; live = λ e. c.if-weight-full.true (e ∙ sym c.full.ensures) }

pub loop-next-preserved : goal.loop-next-preserved
loop-next-preserved c =
    let l = c.loop-next in
    let p = c.past_run-next.ensures in
    let f = full-more c.args.self.blocks c.args.self.at l.next l.invariant.2 (sym (weighs (goal.at.loop-next-preserved c).After-sum_of-weight) ∙ c.if-weight-full.false ∙ c.full.ensures) in
    (omega arith, p.1, full-run c.args.self.blocks c.args.self.at (l.next + 1) c.past_run-next.result f p.0 p.2)

pub returns : goal.returns
returns c =
    let e : c.loop-next.next ≡ c.args.self.blocks.count = omega arith in
    rw (← e) c.loop-next.invariant.2
