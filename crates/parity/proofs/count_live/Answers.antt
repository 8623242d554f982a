-- `parity::count_live` meets its contract: the look gives each live block once. Assumes nothing.
use Rattle.std.proofs.Common.{◌∙◌}
use Rattle.parity.specs.Laws.{count-all}
use Rattle.parity.proofs.count_live.Goals as goal

pub returns : goal.returns
returns c =
    let d = c.count.ensures.ran in
    d.2 ∙ count-all c.args.blocks c.live.result d.0 c.live.ensures.0 c.live.ensures.1 d.1
