-- Kind 1's guarantee is worked out, and never below 0.
use Rattle.std.proofs.Common.{sym, arith}
use Rattle.rules.specs.GuaranteeLaws.{stages-cost, guarantee-staged}
use Rattle.rules.proofs.Settings.staged_formula.Goals as goal

pub overflow_sub-result-3 : goal.overflow_sub-result-3
overflow_sub-result-3 c = omega (arith, stages-cost c.args.self c.requires)

pub returns : goal.returns
returns c = sym (guarantee-staged _ c.requires)
