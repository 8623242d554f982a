-- Erase answers by checks 1 and 2, and then clears every cell.
use mathlib.Core.Path.{sym, ap, ap₂, ◌∙◌}
use mathlib.Core.List.{List}
use Prim.Native.Nat.{ℕ}
use lib.ListN.{replicate}
use Rattle.rules.specs.Calls.{as_check, outcome}
use Rattle.rules.specs.GuaranteeLaws.{reported-is}
use Rattle.rules.specs.PromiseLaws.{told}
use Rattle.rules.specs.declared.Answer.TheVariants.{Done}
use Rattle.laws.specs.Calls.{checked-holds, erase-checks, erase-first, refusal-told}
use Rattle.sheet.proofs.erase.Goals as goal

pub returns-in_default : goal.returns-in_default
returns-in_default c =
    told (sym (erase-first c.args.settings c.args.sheet.now (sym c.check_size-size.ensures ∙ refusal-told c.check_size-size.result c.in_default.not-Done)))

pub returns : goal.returns
returns c =
    let p = sym c.check_size-size.ensures ∙ ap as_check c.in-Done.is in
    let g = checked-holds (erase-checks c.args.settings c.args.sheet.now) p in
    told (ap₂ (λ (v : ℕ) (ys : List ℕ). outcome (Done v) ys) (c.guarantee.ensures ∙ reported-is _ _ g.0) (c.fill.ensures ∙ ap {B = List ℕ} (λ n. replicate n 0) g.1)
    ∙ sym (erase-first c.args.settings c.args.sheet.now p))
