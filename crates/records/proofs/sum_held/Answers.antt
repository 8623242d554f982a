-- The first cells, as many as the sheet has, where there is one.
use Rattle.std.proofs.Common.{sym, ap, ◌∙◌, arith, take}
use Rattle.rules.specs.AcceptLaws.{genuine-common, genuine-true, genuine-false}
use Rattle.rules.specs.Cells.{sum}
use Rattle.rules.specs.GuaranteeLaws.{reported-is, reported-none}
use Rattle.records.proofs.sum_held.Goals as goal

pub returns-then-not-genuine : goal.returns-then-not-genuine
returns-then-not-genuine c = sym (reported-none _ _ (genuine-false _ (sym c.genuine.ensures ∙ c.if-not-genuine.true)))

pub sum_of-requires : goal.sum_of-requires
sum_of-requires c =
    let g = genuine-true _ (sym c.genuine.ensures ∙ c.if-not-genuine.false) in
    omega (arith, c.front.ensures.most, c.front.ensures.counted, (genuine-common _ g).cells-most)

pub returns : goal.returns
returns c =
    let g = genuine-true _ (sym c.genuine.ensures ∙ c.if-not-genuine.false) in
    let a = c.args in
    c.sum_of.ensures ∙ ap sum c.front.ensures.part ∙ sym (reported-is a.held (sum (take a.held.n a.cells.now)) g)
