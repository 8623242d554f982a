-- Laws of the whole move by a route: the marked blocks and the batch, put back, are the sheet that the rules leave; and what it needs. Assumes nothing.
use mathlib.Core.List.{List, ◌++◌, append_assoc, append-nil}
use Rattle.std.specs.Prelude.{◌≡◌, take, replicate}
use Rattle.std.proofs.Common.{◌∙◌, arith, drop_of_length-le, take-append-drop, drop-drop, take-take}
use Rattle.std.proofs.Math.Path.{ap, ap₂, refl, subst, sym}
use Prim.Native.Nat.{ℕ, ◌+◌, ◌-◌, ◌*◌, ◌≤◌}
use borrow.Rule.Slice.PartMut.{put_mid}
use Rattle.std.proofs.Math.ListN.{length, drop, length-drop}
use Rattle.std.proofs.Math.Seq.{length-take-le}
use Rattle.laws.specs.Chop.{chop-sized, length-chop, length-join, length-record}
use Rattle.plan.specs.Meaning.{Needs}
use Rattle.laws.specs.Lists.{low-take}
use Rattle.laws.specs.Live.{live}
use Rattle.laws.specs.Parts.{chop-take}
use Rattle.laws.specs.Record.{record-sized}
use Rattle.laws.specs.Splice.{part, spliced, spliced-put, spliced-two}
use Rattle.laws.specs.Stage.{Sized}
use Rattle.rules.specs.Cells.{Low, chop, join}
use Rattle.rules.specs.Stage.{Entry, closed, live_weights, record_all, recorded_entries}
use Rattle.plan.specs.declared.Need.{Need}
use Rattle.cells.specs.declared.blocks.Blocks.{Blocks}
use Rattle.moving.specs.Meaning.{RowFits, MoveFits, Placed, RegionFits, RouteOf, Routed, marked_cells, marks_in, moved_above, moved_in, risen, row_cells, slot_entries}
use Rattle.moving.specs.NeedLaws.{needs-append, needs-same, over-low, route-needs}
use Rattle.moving.specs.RaiseLaws.{join_first, marked-is, route-placed}
use Rattle.moving.specs.RowLaws.{length_front}
use Rattle.moving.specs.SlotLaws.{slots-are}
use Rattle.moving.specs.declared.route.ParityBlocks.{ParityBlocks}
use Rattle.index.specs.declared.Region.{Region}
use Rattle.moving.specs.declared.route.Route.{Route}

-- ---- the region

module _ {region : Region} {k : ℕ} {f : List ℕ} (g : RegionFits region k f) where
  -- the batch in a sheet of the same length is one that can be written
  pub region-batch : (xs : List ℕ) → length xs ≡ length f → RowFits region.width region.floor region.step k (part region.cell (2 * (k - 1) * region.width) xs)
  region-batch xs e =
      let n : length (part region.cell (2 * (k - 1) * region.width) xs) ≡ 2 * (k - 1) * region.width =
      length-take-le (2 * (k - 1) * region.width) (drop region.cell xs) (omega (arith, length-drop region.cell xs, g.inside)) in
      record { some = g.some; exact = n; short = omega (arith, n, g.inside, g.short); wide = g.wide; below = g.below }

  -- and no cell of it stands above the floor
  pub region-low : Low region.floor (part region.cell (2 * (k - 1) * region.width) f)
  region-low = over-low region.floor (part region.cell (2 * (k - 1) * region.width) f) g.fresh

-- ---- the sheet in four parts

-- the first c cells, those up to cell a, n more, and those past them
split : (c a n : ℕ) (f : List ℕ) → c ≤ a → a + n ≤ length f → f ≡ take c f ++ (drop c (take a f) ++ (part a n f ++ drop (a + n) f))
split c a n f h l =
    let x : List ℕ = drop c (take a f) in
    let y : List ℕ = part a n f ++ drop (a + n) f in
    sym (
    sym (append_assoc (take c f) x y)
    ∙ ap (λ (r : List ℕ). r ++ y) (ap (λ (r : List ℕ). r ++ x) (sym (take-take c a f h)) ∙ take-append-drop c (take a f))
    ∙ ap (λ (r : List ℕ). take a f ++ r) (ap (λ (r : List ℕ). part a n f ++ r) (sym (drop-drop n a f)) ∙ take-append-drop n (drop a f))
    ∙ take-append-drop a f
    )

-- ---- the move

module _ (region : Region) (vs : List ℕ) (route : Route) (f : List ℕ) (g : RegionFits region route.k f) (m : MoveFits region vs route f) where
  -- the parity blocks, the bits and the top level are the route's
  abbrev parity : ParityBlocks
  parity = route.parity

  abbrev k : ℕ
  k = route.k

  abbrev L : ℕ
  L = route.top

  -- the cells of the parity blocks
  abbrev c : ℕ
  c = parity.count * parity.len

  -- the cells of the batch
  abbrev n : ℕ
  n = 2 * (k - 1) * region.width

  -- the parity blocks
  abbrev bs : List (List ℕ)
  bs = chop parity.len parity.count f

  -- the parity blocks are cut from their own cells
  own : chop parity.len parity.count (take c f) ≡ bs
  own = chop-take parity.len parity.count c f (omega arith)

  -- which lie in the sheet
  inside : c ≤ length f
  inside = omega (arith, m.ordered, g.inside)

  -- and are as many
  pub parity-cells : length (take c f) ≡ c
  parity-cells = length-take-le c f inside

  -- the blocks have their size
  sized : Sized parity.len L bs
  sized = chop-sized parity.len L parity.count f inside m.low

  -- as many live blocks as values
  many : length vs ≤ live (parity.len * L) bs
  many = omega (arith, m.as_many, m.enough)

  -- the places lie in the cells of the parity blocks
  pub move-placed : Placed parity.len k route.recorders (take c f)
  move-placed =
      subst (λ (x : ℕ). Placed parity.len x route.recorders (take c f)) m.as_many
      (route-placed parity.len parity.count L (take c f) vs route (omega (arith, parity-cells)) (low-take L c f m.low) (rw own many) (rw own m.routed))

  -- the marks record the values
  marked : marked_cells parity.len L k route.recorders (take c f) ≡ join (record_all (parity.len * L) L vs bs)
  marked =
      ap (λ (x : ℕ). marked_cells parity.len L x route.recorders (take c f)) (sym m.as_many)
      ∙ marked-is parity.len parity.count L (take c f) vs route (omega (arith, parity-cells)) (low-take L c f m.low) (rw own many) (rw own m.routed)
      ∙ ap₂ (λ (x : List (List ℕ)) (y : List ℕ). join (record_all (parity.len * L) L vs x) ++ y) own (drop_of_length-le (take c f) {i = c} (omega (arith, parity-cells)))
      ∙ append-nil (join (record_all (parity.len * L) L vs bs))

  -- what the rules have the index blocks say
  abbrev es : List Entry
  es = recorded_entries (parity.len * L) L 1 vs bs ++ replicate (2 * (k - 1) - length (live_weights (parity.len * L) bs)) closed

  -- the slots say that
  row : row_cells region.floor region.step region.width (slot_entries k route.live route.recorders (2 * (k - 1))) ≡ row_cells region.floor region.step region.width es
  row =
      ap (row_cells region.floor region.step region.width)
      (ap (λ (x : ℕ). slot_entries x route.live route.recorders (2 * (k - 1))) (sym m.as_many) ∙ slots-are parity.len L vs bs route sized many m.routed (2 * (k - 1)) m.room)

  -- in n cells
  row-long : length (row_cells region.floor region.step region.width es) ≡ n
  row-long = ap length (sym row) ∙ length_front region.floor region.step region.width k route.live route.recorders (2 * (k - 1))

  -- as many parity cells as before
  parity-long : length (join (record_all (parity.len * L) L vs bs)) ≡ c
  parity-long =
      length-join parity.len L (record_all (parity.len * L) L vs bs) (record-sized (parity.len * L) parity.len L vs bs sized)
      ∙ ap (λ (x : ℕ). x * parity.len) (length-record (parity.len * L) L vs bs ∙ length-chop parity.len parity.count f)

  module _ (ys zs : List ℕ) (y : ys ≡ marked_cells parity.len L k route.recorders (take c f)) where
    -- with the parity cells and the batch put back, it is the sheet that the rules leave
    pub move-made : zs ≡ row_cells region.floor region.step region.width (slot_entries k route.live route.recorders (2 * (k - 1))) → put_mid region.cell n (ys ++ drop c f) zs ≡ moved_in region route vs f
    unfolding moved_above
    move-made z =
        let ps : List ℕ = join (record_all (parity.len * L) L vs bs) in
        let rs : List ℕ = row_cells region.floor region.step region.width es in
        ap₂ (λ (p r : List ℕ). put_mid region.cell n (p ++ drop c f) r) (y ∙ marked) (z ∙ row)
        ∙ spliced-put region.cell n rs (ps ++ drop c f) row-long
        ∙ ap (spliced region.cell rs) (spliced-put 0 c ps f parity-long)
        ∙ spliced-two ps region.cell rs f (region.cell + n) (omega (arith, row-long)) (omega (arith, parity-long, m.ordered)) (omega (arith, g.inside))
        ∙ ap (λ (x : ℕ). ps ++ (drop x (take region.cell f) ++ (rs ++ drop (region.cell + n) f))) parity-long

  -- what the whole move needs: so much for the marks, and what the batch does
  pub move_needs : (raised : ℕ) (batch : Need) → k ≤ length route.recorders → raised ≡ risen (marks_in (take k route.recorders))
      → Needs (part region.cell n f) (row_cells region.floor region.step region.width (slot_entries k route.live route.recorders (2 * (k - 1)))) batch
      → Needs f (moved_in region route vs f) (record { cells = raised + batch.cells; levels = raised + batch.levels })
  unfolding moved_above
  move_needs raised batch h e q =
      let p : Needs (take c f) (join (record_all (parity.len * L) L vs bs)) (record { cells = raised; levels = raised }) =
      rw (sym (join_first parity.len parity.count f inside), e ∙ ap (λ (x : ℕ). risen (marks_in (take x route.recorders))) (sym m.as_many))
      (route-needs parity.len L vs bs route sized many (omega (arith, m.as_many)) m.routed) in
      let o : length (part region.cell n f) ≡ n = length-take-le n (drop region.cell f) (omega (arith, length-drop region.cell f, g.inside)) in
      subst (λ (x : List ℕ). Needs x (moved_in region route vs f) (record { cells = raised + batch.cells; levels = raised + batch.levels })) (sym (split c region.cell n f m.ordered g.inside))
      (needs-append _ _ (parity-cells ∙ sym parity-long) p
      (needs-append batch.cells batch.levels refl (needs-same (drop c (take region.cell f)))
      (needs-append batch.cells batch.levels (o ∙ sym row-long) (rw row at q) (needs-same (drop (region.cell + n) f)) (omega arith) (omega arith)) (omega arith) (omega arith)) refl refl)

-- ---- the route that the search answers

module _ (region : Region) (b : Blocks) (k : ℕ) (vs : List ℕ) (route : Route) (o : RouteOf b k vs route) where
  -- as many blocks are live as among the blocks searched
  live-same : live (route.parity.len * route.top) (chop route.parity.len route.parity.count b.cells.now) ≡ live (b.len * b.top) (chop b.len b.count b.cells.now)
  live-same = ap₂ (λ (x : ParityBlocks) (t : ℕ). live (x.len * t) (chop x.len x.count b.cells.now)) o.parity o.top

  -- it is one for a move, where the blocks lie before the region, and there are index blocks for those that are live
  pub route-fits : b.count * b.len ≤ region.cell → length vs ≡ k → k ≤ live (b.len * b.top) (chop b.len b.count b.cells.now) → live (b.len * b.top) (chop b.len b.count b.cells.now) ≤ 2 * (k - 1)
      → MoveFits region vs route b.cells.now
  route-fits before many enough room =
      let p : route.parity.count * route.parity.len ≡ b.count * b.len = ap (λ (x : ParityBlocks). x.count * x.len) o.parity in
      record {
        ordered = omega (arith, p, before);
        low = subst (λ (t : ℕ). Low t b.cells.now) (sym o.top) b.low;
        as_many = many ∙ sym o.bits;
        enough = omega (arith, live-same, o.bits, enough);
        room = omega (arith, live-same, o.bits, room);
        routed = subst (λ (t : ℕ). Routed (route.parity.len * t) vs (chop route.parity.len route.parity.count b.cells.now) route) (sym o.top)
            (subst (λ (x : ParityBlocks). Routed (x.len * b.top) vs (chop x.len x.count b.cells.now) route) (sym o.parity) o.routed);
      }

  -- and the move by it is told by the blocks' numbers
  pub route-moved : (f : List ℕ) → moved_in region route vs f ≡ moved_above region.cell b.len b.count region.width region.floor region.step k b.top vs f
  route-moved f =
      ap (λ (x : ParityBlocks). moved_above region.cell x.len x.count region.width region.floor region.step route.k route.top vs f) o.parity
      ∙ ap₂ (λ (x t : ℕ). moved_above region.cell b.len b.count region.width region.floor region.step x t vs f) o.bits o.top
