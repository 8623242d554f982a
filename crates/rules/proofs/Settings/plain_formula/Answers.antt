-- Kind 0's guarantee is worked out.
use Rattle.std.proofs.Common.{sym}
use Rattle.rules.specs.GuaranteeLaws.{guarantee-plain}
use Rattle.rules.proofs.Settings.plain_formula.Goals as goal

pub returns : goal.returns
returns c = sym (guarantee-plain _ c.requires)
