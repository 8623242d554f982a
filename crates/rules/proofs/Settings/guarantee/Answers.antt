-- A record that acceptance never gives has the guarantee 0, and no overflow.
use Rattle.std.proofs.Common.{sym, ◌∙◌}
use Rattle.rules.specs.AcceptLaws.{genuine-true, genuine-false}
use Rattle.rules.specs.GuaranteeLaws.{reported-is, reported-none}
use Rattle.rules.proofs.Settings.guarantee.Goals as goal

pub returns-then-genuine : goal.returns-then-genuine
returns-then-genuine c = c.formula.ensures ∙ sym (reported-is _ _ (genuine-true _ (sym c.if-genuine.ensures)))

pub returns-else-genuine : goal.returns-else-genuine
returns-else-genuine c = sym (reported-none _ _ (genuine-false _ (sym c.if-genuine.ensures)))
