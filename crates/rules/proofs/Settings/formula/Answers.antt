-- Each kind has its formula.
use Rattle.rules.specs.AcceptLaws.{genuine-plain, genuine-staged}
use Rattle.rules.proofs.Settings.formula.Goals as goal

pub plain_formula-requires : goal.plain_formula-requires
plain_formula-requires c = genuine-plain _ c.requires c.if-self.true

pub staged_formula-requires : goal.staged_formula-requires
staged_formula-requires c = genuine-staged _ c.requires c.if-self.false
