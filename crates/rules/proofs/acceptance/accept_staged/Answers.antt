-- Each refusal breaks a rule of kind 1, and what is left keeps them all.
use Rattle.std.proofs.Common.{◌∙◌, true≢false, sym, refl, arith}
use Rattle.std.proofs.lemmas.Bool.{leb-true, leb-false}
use Rattle.rules.specs.StagesLaws.{stages-bits, width-below}
use Rattle.rules.specs.AcceptLaws.{staged-ruled, if-broken, if-tested}
use Rattle.rules.proofs.acceptance.accept_staged.Goals as goal
use Rattle.rules.proofs.acceptance.accept_staged.Goals.{then-s-lt2-via-then-s-lt2, then-s-lt2-via-else-s-lt2+then-not-in_limits}

pub returns-in_err-s : goal.returns-in_err-s
returns-in_err-s c =
    c.from_residual.ensures ∙ if-broken (staged-ruled _ _ _ _ _ _ c.in_err-s.ensures refl refl) (λ a. omega (arith, a.stages-least))

pub returns-then-s-lt2 : goal.returns-then-s-lt2
returns-then-s-lt2 c =
    elim c.then-s-lt2.branch [
      | then-s-lt2-via-then-s-lt2 w ↦ if-broken (staged-ruled _ _ _ _ _ _ c.in_ok-s.ensures refl refl) (λ a. omega arith)
      | then-s-lt2-via-else-s-lt2+then-not-in_limits w ↦
          let b = stages-bits _ _ c.in_ok-s.ensures (omega arith) in
          if-broken (staged-ruled _ _ _ _ _ _ c.in_ok-s.ensures refl refl) (λ a. true≢false (sym (w.if-not-in_limits.ensures.1 (omega (arith, b.1), b.2, a.top_least, a.top-most, a.cells-most))))
    ]

pub index_width-w-requires : goal.index_width-w-requires
index_width-w-requires c = let h = c.if-not-in_limits.ensures.0 refl in (h.2, h.3, h.1)

pub index_cells-requires : goal.index_cells-requires
index_cells-requires c =
    let h = c.if-not-in_limits.ensures.0 refl in
    let b = stages-bits _ _ c.in_ok-s.ensures (omega arith) in
    (omega arith, b.0, omega (arith, h.1, width-below c.args.top c.args.k h.2, c.index_width-w.ensures))

pub returns-in_err-m : goal.returns-in_err-m
returns-in_err-m c =
    c.from_residual-in_err-m.ensures ∙ if-broken (staged-ruled _ _ _ _ _ _ c.in_ok-s.ensures c.index_width-w.ensures c.index_cells.ensures) (λ a. c.in_err-m.ensures a.index-room)

pub nonzero_div-m : goal.nonzero_div-m
nonzero_div-m c = let h = c.if-not-in_limits.ensures.0 refl in omega (arith, h.0)

pub returns : goal.returns
returns c =
    let a = c.args in
    let h = c.if-not-in_limits.ensures.0 refl in
    let f = c.in_ok-m.ensures in
    c.then_some.ensures
    ∙ if-tested (rw (← f.1) at (staged-ruled a.k a.top a.n c.in_ok-s.s c.index_width-w.result c.index_cells.result c.in_ok-s.ensures c.index_width-w.ensures c.index_cells.ensures)) (omega (arith, h.0)) _
    (λ e. record { stages-least = omega arith; top_least = h.2; top-most = h.3; cells-most = h.4; index-room = f.0; room = rw (← f.1) (leb-true _ _ e) })
    (λ e b. omega (arith, leb-false _ _ e, rw (← f.1) at b.room))
