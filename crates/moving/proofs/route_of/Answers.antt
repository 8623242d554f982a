-- `moving::route_of` meets its contract: block after block the route holds what the blocks passed say. Assumes nothing.
use Rattle.std.proofs.Common.{◌∙◌, ℕ, ap₂, arith, refl, sym}
use Rattle.cells.specs.Live.{FirstLive}
use Rattle.laws.specs.Lists.{get_or-tabulate, length-tabulate}
use Rattle.plan.specs.Meaning.{value_in}
use Rattle.rules.specs.Staged.{after}
use Rattle.moving.specs.Meaning.{mark}
use Rattle.moving.specs.RouteLaws.{passing-done, past-none, place-small, route-free, route-live, route-past, weight-small}
use Rattle.moving.proofs.route_of.Goals as goal
use Rattle.moving.proofs.route_of.Goals.{In-Some, then-live-k, else-live-k}

pub loop-block-init : goal.loop-block-init
loop-block-init c =
    let e = c.into_iter-block-iterator.ensures.into_iter_gives in
    let i = c.live-block-items.ensures in
    record { of = cc; few = omega arith; past = past-none c.args.blocks _ _ cc }

-- the block that comes is the first one left that isn't full
comes : (c : In-Some) → FirstLive c.args.blocks c.loop-block.block-iterator.at c.in-Some.block c.in-Some.weight
comes c = rw c.loop-block.invariant.of at c.in-Some.ensures.steps.0

pub loop-block-preserved : goal.loop-block-preserved
loop-block-preserved c =
    let a = c.args in
    let l = c.loop-block in
    let f = comes (goal.at.loop-block-preserved c).In-Some in
    let g = c.in-Some.ensures.steps.1 in
    let values = after a.bit (value_in a.bits.now) in
    record {
      of = g.0 ∙ l.invariant.of;
      few = omega (arith, g.1, f.after, l.invariant.few);
      past = elim c.if-live-k.branch [
        | then-live-k w ↦
            let m = w.of.ensures ∙ ap₂ (λ (x y : ℕ). mark x c.in-Some.weight y) w.full.ensures (w.value_after-value.ensures ∙ sym (get_or-tabulate a.k l.live values w.if-live-k.true)) in
            rw (g.1, w.recorders-is) (route-live _ _ _ _ _ l.invariant.past f _ m (omega (arith, c.requires.few, w.if-live-k.true)))
        | else-live-k w ↦
            rw (g.1, w.recorders-is) (route-free _ _ _ _ _ l.invariant.past f (omega (arith, length-tabulate a.k values, w.if-live-k.false)))
      ];
    }

pub overflow_add-live : goal.overflow_add-live
overflow_add-live c =
    let f = comes (goal.at.overflow_add-live c).In-Some in
    omega (arith, c.loop-block.invariant.few, f.after, place-small _ _ _ _ f)

pub of-requires : goal.of-requires
of-requires c = weight-small _ _ _ _ (comes (goal.at.of-requires c).In-Some) (omega arith)

pub returns : goal.returns
returns c =
    let a = c.args in
    let l = c.loop-block in
    let values = after a.bit (value_in a.bits.now) in
    let full = rw l.invariant.of at c.in-None.ensures.steps.0 in
    let least = rw l.invariant.of at l.block-iterator.inside in
    record {
      parity = refl;
      top = refl;
      bits = refl;
      routed = passing-done _ (route-past a.blocks _ _ _ least full l.invariant.past) (omega (arith, length-tabulate a.k values, c.requires.enough));
    }
