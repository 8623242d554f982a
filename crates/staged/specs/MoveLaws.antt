-- Laws of going on to a later stage: how many parity blocks are live there, that its batch is still all 0, the route of the move, what it needs and what it makes of the sheet. Assumes nothing.
use Rattle.std.specs.Prelude.{◌≡◌, refl, List, [], Option, length, take}
use Rattle.std.proofs.Common.{sym, ap₂, ◌∙◌, subst₂, length-take-le}
use Rattle.std.proofs.Math.Path.{ap, subst}
use Prim.Native.Nat.{ℕ, zero, suc, ◌-◌, ◌*◌, ◌^◌, ◌≤◌, ◌<◌}
use Rattle.std.proofs.Math.Decide.{dec_le}
use Rattle.std.proofs.Math.Nat.{le_refl}
use native.Mathlib.Omega.{arith}
use Rattle.rules.specs.Search.{Found, at, nowhere}
use Rattle.rules.specs.SearchLaws.{pick-elim}
use Rattle.rules.specs.Cells.{Low, chop, sum, tabulate}
use Rattle.rules.specs.Staged.{parity_length, parity_count, live_count, after, move_to, written, change_cells}
use Rattle.rules.specs.Batches.{batch_cells, write}
use Rattle.rules.specs.AcceptLaws.{StagedFacts, staged-bits}
use Rattle.rules.specs.Calls.{change_sheet}
use Rattle.rules.specs.declared.Settings.{Settings}
use Rattle.laws.specs.Parity.{half-live}
use Rattle.laws.specs.Kinds.{staged-change}
use Rattle.laws.specs.Lists.{length-tabulate, low-take}
use Rattle.laws.specs.Live.{live}
use Rattle.laws.specs.Parts.{chop-take}
use Rattle.laws.specs.Regions.{over_nothing}
use Rattle.laws.specs.Splice.{part}
use Rattle.moving.specs.Meaning.{RegionFits, RouteFits, RouteOf, Routed}
use Rattle.moving.specs.RulesLaws.{live-is, move-is, moved-floor}
use Rattle.cells.specs.declared.blocks.Blocks.{Blocks}
use Rattle.moving.specs.declared.route.ParityBlocks.{ParityBlocks}
use Rattle.index.specs.declared.Region.{Region}
use Rattle.moving.specs.declared.route.Route.{Route}
use Rattle.moving.specs.Meaning as M
use Rattle.plan.specs.Meaning.{Levelled, MoveFits, Needs, Planned, m_blocks, moved_sheet, value_in}
use Rattle.plan.specs.declared.Need.{Need}
use Rattle.plan.specs.declared.Place.{Place}
use Rattle.staged.specs.Meaning.{ParityCut, Stuck, batch_at, later_plan, parity_at, region_at}
use Rattle.staged.specs.LayoutLaws.{batch-are, batch-inside, parity-cells}
use Rattle.staged.specs.StageLaws.{batch-part}
use Rattle.staged.specs.ZeroLaws.{cells_in}
use Rattle.parity.specs.Meaning.{later_left, later_from, moved}
use Rattle.parity.specs.Laws.{later-is, later-from}

-- ---- the later stage found

-- a later stage, with at least k live parity blocks and no more than there are index blocks
pub record Found-later (s m L d : ℕ) (xs : List ℕ) (e : ℕ) : Type 0 where
  pub later : e < d
  pub enough : 2 ^ s ≤ live_count s m L e xs
  pub fits : live_count s m L e xs ≤ 2 * (2 ^ s - 1)

none-at : {e : ℕ} → ¬ (◌≡◌ {A = Found} nowhere (at e))
none-at q = let z : ◌≡◌ {A = ℕ} 0 1 = cc in omega arith

same_at : {d e : ℕ} → ◌≡◌ {A = Found} (at d) (at e) → d ≡ e
same_at q = cc

module _ (s m L : ℕ) (xs : List ℕ) (pos : 0 < s) (long : length xs ≡ m * 2 ^ s) (low : Low L xs) where
  weaker : (d e : ℕ) → Found-later s m L d xs e → Found-later s m L (suc d) xs e
  weaker d e h = record { later = omega (arith, h.later); enough = h.enough; fits = h.fits }

  -- where fewer than k parity blocks are live now, halving gives at most 2 (k - 1)
  pub later-found : (d e : ℕ) → d ≤ s - 1 → live_count s m L d xs < 2 ^ s → later_left s m L d xs ≡ at e → Found-later s m L d xs e
  unfolding later_left
  later-found zero e h few q = absurd (none-at q)
  later-found (suc d) e h few q =
      let half : live_count s m L d xs ≤ 2 * live_count s m L (suc d) xs = half-live s m L d xs h pos long low in
      pick-elim (λ r. r ≡ at e → Found-later s m L (suc d) xs e) (dec_le (2 ^ s) (live_count s m L d xs)) (at d) (later_left s m L d xs)
      (λ y z. subst (Found-later s m L (suc d) xs) (same_at z) (record { later = le_refl (suc d); enough = y; fits = omega arith }))
      (λ n z. weaker d e (later-found d e (omega arith) (omega arith) z)) q

-- ---- what the code asks for and gets

-- equal numbers for the parity blocks
same-parity : {l l' n n' : ℕ} → l ≡ l' → n ≡ n' → ◌≡◌ {A = ParityBlocks} (record { len = l; count = n }) (record { len = l'; count = n' })
same-parity a b = cc

module _ (r : Settings) (p : StagedFacts r) (f : List ℕ) (v : Levelled r f) where
  -- what the search for a later stage finds
  pub later_same : (d : ℕ) (b : Blocks) → ParityCut r f d b → d ≤ r.s - 1 → later_from r.k b.top b.count d b.cells.now ≡ later_left r.s r.m r.top d (m_blocks r f)
  later_same d b c h =
      ap₂ (λ (k : ℕ) (L : ℕ). later_from k L b.count d b.cells.now) (sym p.bits) c.top
      ∙ ap₂ (λ (n : ℕ) (xs : List ℕ). later_from (2 ^ r.s) r.top n d xs) c.count c.cells
      ∙ later-from r.s r.m r.top d (m_blocks r f) h

  -- ---- the move to the stage with e left

  module _ (e : ℕ) (k : MoveFits r f e) where
    abbrev len : ℕ
    len = parity_length e

    abbrev count : ℕ
    count = parity_count r.s r.m e

    here : e ≤ r.s - 1
    here = omega (arith, k.stage)

    -- the parity blocks are cut from the m blocks' own cells
    own-blocks : chop len count (m_blocks r f) ≡ chop len count f
    own-blocks = chop-take len count (r.m * 2 ^ r.s) f (omega (arith, parity-cells r p e here))

    -- those that aren't full
    live_here : live (len * r.top) (chop len count f) ≡ live_count r.s r.m r.top e (m_blocks r f)
    live_here = live-is r.s r.m r.top r.w e [] f k.stage

    -- there are enough
    enough : r.k ≤ live (len * r.top) (chop len count f)
    enough = omega (arith, live_here, k.enough, p.bits)

    -- its region has room
    pub region-asks : RegionFits (region_at r e) r.k f
    region-asks =
        let b : 2 * (r.k - 1) * r.w ≡ batch_cells r.s r.w = batch-are r p in
        record {
          some = omega (arith, (staged-bits r p).0);
          inside = omega (arith, batch-inside r p e k.stage, v.long);
          short = omega (arith, v.long, p.cells-most);
          wide = omega (arith, p.enough);
          below = omega (arith, p.top-most);
          fresh = over_nothing (part (batch_at r e) (2 * (r.k - 1) * r.w) f) ∙ ap (λ (x : ℕ). sum (part (batch_at r e) x f)) b ∙ ap sum (batch-part r p f e (batch_at r e) refl) ∙ k.dark;
        }

    -- the move is the rules'
    pub moved-rules : (g : ℕ → ℕ) → M.moved_above (batch_at r e) len count r.w 0 r.top r.k r.top (tabulate r.k g) f ≡ moved_sheet r f e g
    moved-rules g =
        moved-floor (batch_at r e) len count r.w r.k r.top (tabulate r.k g) f
        ∙ move-is r.s r.m r.top r.w e (tabulate r.k g) f k.stage (batch_at r e) len count r.k refl refl refl (sym p.bits)
        ∙ ap (λ (n : ℕ). write r.s r.m r.top r.w f (move_to r.s r.m r.top e (m_blocks r f) (tabulate n g))) (sym p.bits)

    -- ---- the same for the parity blocks, the region and the route as the code has them

    module _ (b : Blocks) (c : ParityCut r f e b) where
      -- the parity blocks' weight, and they themselves
      full-is : b.len * b.top ≡ len * r.top
      full-is = ap₂ (λ (x y : ℕ). x * y) c.len c.top

      blocks-are : chop b.len b.count b.cells.now ≡ chop len count f
      blocks-are = ap₂ (λ (x y : ℕ). chop x y b.cells.now) c.len c.count ∙ ap (chop len count) c.cells ∙ own-blocks

      -- what the route asks for
      pub route-asked : RouteFits b.len b.count r.k b.top b.cells.now
      route-asked = record {
        few = (staged-bits r p).1;
        enough = subst₂ (λ (x : ℕ) (bs : List (List ℕ)). r.k ≤ live x bs) (sym full-is) (sym blocks-are) enough;
      }

      module _ (y : Region) (q : y ≡ region_at r e) (g : ℕ → ℕ) (route : Route) (h : RouteOf b r.k (tabulate r.k g) route) where
        parity-is : route.parity ≡ parity_at r e
        parity-is = h.parity ∙ same-parity c.len c.count

        top-is : route.top ≡ r.top
        top-is = h.top ∙ c.top

        routed : Routed (len * r.top) (tabulate r.k g) (chop len count f) route
        routed = subst₂ (λ (x : ℕ) (bs : List (List ℕ)). Routed x (tabulate r.k g) bs route) full-is blocks-are h.routed

        fits : M.MoveFits y (tabulate r.k g) route f
        fits = record {
          ordered = rw (parity-is, q) (omega (arith, parity-cells r p e here));
          low = rw top-is v.low;
          as_many = length-tabulate r.k g ∙ sym h.bits;
          enough = rw (h.bits, parity-is, top-is) enough;
          room = rw (h.bits, parity-is, top-is) (omega (arith, live_here, k.fits, p.bits));
          routed = subst₂ (λ (x : ParityBlocks) (L : ℕ). Routed (x.len * L) (tabulate r.k g) (chop x.len x.count f) route) (sym parity-is) (sym top-is) routed;
        }

        moved-is : M.moved_in y route (tabulate r.k g) f ≡ moved_sheet r f e g
        moved-is = rw (q, parity-is, h.bits, top-is) (moved-rules g)

        -- what the region has to be
        pub region-asked : RegionFits y route.k f
        region-asked = rw (q, h.bits) region-asks

        -- there is such a route
        pub has-route : M.HasRoute y route f
        has-route = (tabulate r.k g, fits)

        -- the move by it is the rules'
        pub move-told : (ys : List ℕ) → M.RouteMoves y route f ys → ys ≡ moved_sheet r f e g
        move-told ys m = m (tabulate r.k g) fits ∙ moved-is

        -- and needs what is told of this route's own parity blocks and top level
        pub need-told : (n : Need) → ((vs : List ℕ) → M.MoveFits y vs route f → Needs f (M.moved_in y route vs f) n) → Needs f (moved_sheet r f e g) n
        need-told n m = subst (λ (ys : List ℕ). Needs f ys n) moved-is (m (tabulate r.k g) fits)

  module _ (i d : ℕ) (bits : List (Option Place)) (k : Stuck r f i d bits) where
    abbrev values : List ℕ
    values = tabulate (2 ^ r.s) (after i (value_in bits))

    abbrev found : Found
    found = later_left r.s r.m r.top d (take (r.m * 2 ^ r.s) f)

    -- the change goes by the later stage found
    stuck-change : {x : Found} → found ≡ x → change_sheet r f i ≡ written (write r.s r.m r.top r.w) f (moved r.s r.m r.top (take (r.m * 2 ^ r.s) f) values x)
    unfolding change_cells
    stuck-change e = staged-change r p f i
        ∙ ap (written (write r.s r.m r.top r.w) f)
        (k.goes ∙ later-is r.s r.m r.top d (take (r.m * 2 ^ r.s) f) values ∙ ap (moved r.s r.m r.top (take (r.m * 2 ^ r.s) f) values) e)

    -- a later stage that can be moved to
    later-fits : (e : ℕ) → found ≡ at e → MoveFits r f e
    later-fits e q =
        let g : Found-later r.s r.m r.top d (m_blocks r f) e =
        later-found r.s r.m r.top (m_blocks r f) (omega (arith, p.stages-least)) (length-take-le (r.m * 2 ^ r.s) f (cells_in r p f v (r.m * 2 ^ r.s) refl))
        (low-take r.top (r.m * 2 ^ r.s) f v.low) d e k.left k.few q in
        record { stage = omega (arith, g.later, k.left); enough = g.enough; fits = g.fits; dark = k.dark e g.later }

    later-plan : (x : Found) → found ≡ x → Planned r f i d bits (later_plan x)
    later-plan (at e) q = record { fits = later-fits e q; made = stuck-change q }
    later-plan nowhere q = record { fits = tt; made = stuck-change q }

    -- the move to the later stage found, or no place, is the plan of the change
    pub later-planned : Planned r f i d bits (later_plan found)
    later-planned = later-plan found refl
