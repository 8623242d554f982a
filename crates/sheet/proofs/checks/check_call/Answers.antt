-- The top level of a record that checks 1 and 2 let pass is a byte.
use mathlib.Core.Path.{sym, ap, ◌∙◌}
use native.Mathlib.Omega.{arith}
use Rattle.rules.specs.AcceptLaws.{genuine-common}
use Rattle.rules.specs.Calls.{as_check}
use Rattle.laws.specs.Calls.{checked-holds, erase-checks}
use Rattle.sheet.proofs.checks.check_call.Goals as goal

pub overflow_cast-settings : goal.overflow_cast-settings
overflow_cast-settings c =
    omega (arith, (genuine-common _ (checked-holds (erase-checks c.args.settings c.args.sheet.now) (sym c.check_size-size.ensures ∙ ap as_check c.in-Done.is)).0).top-most)
