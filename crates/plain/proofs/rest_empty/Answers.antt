-- `plain::rest_empty` meets its contract: every block passed over weighs nothing, and the cells left sum to 0 exactly if each block of them does. Assumes nothing.
use mathlib.Core.Path.{◌∙◌, sym}
use Rattle.cells.specs.Laws.{some-sum, zero-sum}
use Rattle.plain.specs.OrderLaws.{rest-false, rest-true}
use Rattle.plain.proofs.rest_empty.Goals as goal

pub returns : goal.returns
returns c =
    let b = c.args.blocks in
    let p = c.past_run-j.ensures in (
      λ t. rest-true b.len b.count c.args.from c.past_run-j.result b.cells.now p.0 p.1 p.2 (zero-sum _ (sym c.all_zero.ensures ∙ t)),
      λ t. rest-false b.len b.count c.args.from c.past_run-j.result b.cells.now p.0 p.1 p.2 (some-sum _ (sym c.all_zero.ensures ∙ t)),
    )
