-- Each refusal breaks a rule of kind 0, and what is left keeps them all.
use Rattle.std.proofs.Common.{◌∙◌, true≢false, sym, refl, arith}
use Rattle.std.proofs.lemmas.Bool.{leb-true, leb-false}
use Rattle.rules.specs.AcceptLaws.{plain-ruled, if-broken, if-tested}
use Rattle.rules.proofs.acceptance.accept_plain.Goals as goal
use Rattle.rules.proofs.acceptance.accept_plain.Goals.{then-not-in_limits-via-then-not-in_limits, then-not-in_limits-via-else-not-in_limits+then-k-top-ne0}

pub returns-then-not-in_limits : goal.returns-then-not-in_limits
returns-then-not-in_limits c =
    elim c.then-not-in_limits.branch [
      | then-not-in_limits-via-then-not-in_limits w ↦ if-broken (plain-ruled _ _ _) (λ a. true≢false (sym (w.if-not-in_limits.ensures.1 (a.bits-least, a.bits_most, a.top_least, a.top-most, a.cells-most))))
      | then-not-in_limits-via-else-not-in_limits+then-k-top-ne0 w ↦ if-broken (plain-ruled _ _ _) (λ a. omega (arith, a.even))
    ]

pub returns : goal.returns
returns c =
    let h = c.if-not-in_limits.ensures.0 refl in
    c.then_some.ensures
    ∙ if-tested (plain-ruled _ _ _) (omega arith) _
    (λ e. record { bits-least = h.0; bits_most = h.1; top_least = h.2; top-most = h.3; cells-most = h.4; even = omega arith; room = leb-true _ _ e })
    (λ e a. omega (arith, leb-false _ _ e, a.room))
