-- `plain::scan_blocks` meets its contract: at block j the bits of the active blocks below j are noted, and where they differ all is known of those blocks. Assumes nothing.
use Rattle.std.proofs.Common.{arith, rules, false, ap, length-set, length-take, length-take-le, mul-le-mul, refl, subst, sym, take, ℕ, ◌+◌, ◌<◌, ◌∙◌, ◌≡◌, ◌≤◌}
use Rattle.std.specs.Prelude.{[], None, length, set, replicate}
use Rattle.laws.specs.Cut.{blocks-cells}
use Rattle.rules.specs.Accept.{most_bits}
use Rattle.block.specs.declared.BlockState.TheVariants.{Active}
use Rattle.block.specs.declared.states.States.{States}
use Rattle.plain.specs.Meaning.{closing}
use Rattle.plain.specs.Laws.{Noted, noted-none}
use Rattle.plain.specs.OrderLaws.{Ordered, order-none}
use Rattle.plain.proofs.TurnLaws.{Over, Turn, all, crowded, over-decided, states_of, turn-active, turn-begun, turn-below, turn-full, turn-hole, turn-rest}
use Rattle.plain.proofs.scan_blocks.Goals as goal
use Rattle.plain.proofs.scan_blocks.Goals.{In-Some, in-None, in-Some+in-Empty+else-not-rest_empty, in-Some+in-Active+then-blocks-n}

pub loop-j-init : goal.loop-j-init
loop-j-init c =
    let b = c.args.blocks in
    let e = c.into_iter-j-iterator.ensures.into_iter_gives in
    let z : c.into_iter-j-iterator.result.at ≡ 0 = ap (λ (s : States). s.at) e ∙ c.of-states.ensures.1 in
    rw c.clear.ensures (record {
      of = cc;
      few = omega arith;
      long = search rules;
      noted = subst (λ (x : ℕ). Noted b.len b.count (states_of b) x (replicate most_bits None) []) (sym z) (noted-none b.len b.count (states_of b) c.requires.1);
      ordered = subst (λ (x : ℕ). Ordered (states_of b) b.count x b.count false) (sym z) (order-none (states_of b) b.count);
      none = (refl, refl);
    })

-- the block that comes
turn : (c : In-Some) → Turn c.args.blocks c.loop-j.look.bits (take c.loop-j.n c.loop-j.noted) c.loop-j.full c.in-Some.j c.in-Some.state c.next.new.self.at
turn c =
    let i = c.loop-j.invariant in
    turn-begun c.args.blocks c.loop-j.j-iterator c.next.new.self c.in-Some.j c.in-Some.state i.of i.noted i.ordered c.in-Some.ensures.steps

pub loop-j-preserved-in-Full : goal.loop-j-preserved-in-Full
loop-j-preserved-in-Full c =
    let i = c.loop-j.invariant in
    let past = turn-full c.requires.0 c.requires.2 (turn (goal.at.loop-j-preserved-in-Full c).In-Some) c.in-Full.is in
    record { of = c.in-Some.ensures.steps.3 ∙ i.of; few = i.few; long = i.long; noted = past.0; ordered = past.1; none = i.none }

pub returns-then-not-rest_empty : goal.returns-then-not-rest_empty
returns-then-not-rest_empty c =
    turn-hole c.requires.0 c.requires.2 (turn (goal.at.returns-then-not-rest_empty c).In-Some) c.in-Empty.is _ refl (c.rest_empty.ensures.1 c.if-not-rest_empty.true)

-- the bit of an active block is one of the k bits, and its weight fits in 16 bits, as that of 64 cells of 255 levels does
below : (c : In-Some) (bit v : ℕ) → c.in-Some.state ≡ Active bit v → (bit < c.args.blocks.len) × (v < 65536)
below c bit v q =
    let b = c.args.blocks in
    let t = turn-below c.requires.0 c.requires.2 (turn c) bit v q in
    let g : b.top ≤ 255 = omega arith in
    (t.0, omega (arith, t.1, mul-le-mul c.requires.1 g))

pub overflow_cast-noted : goal.overflow_cast-noted
overflow_cast-noted c = omega (arith, (below (goal.at.overflow_cast-noted c).In-Some _ _ c.in-Active.is).0)

pub block_at-requires-in-Active : goal.block_at-requires-in-Active
block_at-requires-in-Active c =
    let s = (goal.at.block_at-requires-in-Active c).In-Some in
    (omega (arith, (turn s).inside, blocks-cells c.args.blocks.len c.args.blocks.count (omega arith)), (below s _ _ c.in-Active.is).1)

pub offset_bounds-look-bit : goal.offset_bounds-look-bit
offset_bounds-look-bit c = omega (arith, (below (goal.at.offset_bounds-look-bit c).In-Some _ _ c.in-Active.is).0)

pub bounds-look-bit : goal.bounds-look-bit
bounds-look-bit c = omega (arith, (below (goal.at.bounds-look-bit c).In-Some _ _ c.in-Active.is).0)

pub loop-j-preserved : goal.loop-j-preserved
loop-j-preserved c =
    let l = c.loop-j in
    let a = c.in-Active in
    let past = turn-active c.requires.0 c.requires.2 (turn (goal.at.loop-j-preserved c).In-Some) a.bit a.weight a.is l.noted l.n _ refl (omega arith) (omega arith) c.block_at-in-Active.ensures in
    record {
      of = c.in-Some.ensures.steps.3 ∙ l.invariant.of;
      few = omega arith;
      long = (simp length-set l.invariant.long.0, simp length-set l.invariant.long.1);
      noted = past.0;
      ordered = past.1;
      none = l.invariant.none;
    }

pub returns : goal.returns
returns c =
    let b = c.args.blocks in
    let l = c.loop-j in
    let i = l.invariant in
    let m = c.match-next in
    let over : Over b m.look.bits (take m.n m.noted) m.full m.look.free = elim m.branch [
      | in-None w ↦
          let e : l.j-iterator.at ≡ b.count = rw i.of at w.in-None.ensures.steps in
          rw (w.look-is, w.noted-is, w.n-is, w.full-is, i.none.0) (all b.count (rw e at i.noted) (rw e at i.ordered) refl)
      | in-Some+in-Empty+else-not-rest_empty w ↦
          let t = turn-begun b l.j-iterator c.next.new.self w.in-Some.j w.in-Some.state i.of i.noted i.ordered w.in-Some.ensures.steps in
          let past = turn-rest c.requires.0 c.requires.2 t w.in-Empty.is (w.rest_empty.ensures.0 w.if-not-rest_empty.false) in
          rw (w.look-is, w.noted-is, w.n-is, w.full-is, w.block_at.ensures) (all w.in-Some.j past.0 past.1 (refl, t.inside))
      | in-Some+in-Active+then-blocks-n w ↦
          let t = turn-begun b l.j-iterator c.next.new.self w.in-Some.j w.in-Some.state i.of i.noted i.ordered w.in-Some.ensures.steps in
          let a = w.in-Active in
          let past = turn-active c.requires.0 c.requires.2 t a.bit a.weight a.is l.noted l.n _ refl (omega arith) (omega arith) w.block_at-in-Active.ensures in
          let k : length (take (l.n + 1) (set l.noted l.n a.bit)) ≡ b.len + 1 = simp (length-set, length-take) (omega (arith, w.if-blocks-n.true)) in
          rw (w.look-is, w.noted-is, w.n-is, w.full-is) (crowded c.next.new.self.at past.0 k refl)
    ] in
    let few : m.n ≤ length m.noted = elim m.branch [ in-None w ↦ omega arith | in-Some+in-Empty+else-not-rest_empty w ↦ omega arith | in-Some+in-Active+then-blocks-n w ↦ omega arith ] in
    let stage0 : m.look.batch ≡ 0 = elim m.branch [ in-None w ↦ rw w.look-is i.none.1 | in-Some+in-Empty+else-not-rest_empty w ↦ rw w.look-is i.none.1 | in-Some+in-Active+then-blocks-n w ↦ rw w.look-is i.none.1 ] in
    rw stage0 (over-decided over m.n (length-take-le m.n m.noted few) _ (c.check_last-look.ensures ∙ ap (closing m.full m.n b.len) c.check_repeats.ensures))
