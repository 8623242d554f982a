-- The search over the parity blocks finds the later stage of the rules.
use mathlib.Core.Path.{◌∙◌}
use Rattle.staged.specs.MoveLaws.{later_same}
use Rattle.staged.proofs.layout.StagedSheet.later_left.Goals as goal

pub returns : goal.returns
returns c =
    let s = c.args.self.now in
    c.later_stage.ensures ∙ later_same _ s.of.staged _ s.levelled _ _ c.parity_blocks.ensures c.requires
