-- Laws of the search for a route: what it holds at first, past a full block and past one that isn't, and in the end. Assumes nothing.
use mathlib.Core.List.{List, [], ◌∷◌, ◌++◌}
use Rattle.std.specs.Prelude.{◌≢◌, ◌≡◌, refl, ℕ, ◌+◌, ◌*◌, ◌≤◌, ◌<◌, length, drop, set, replicate}
use Rattle.std.proofs.Common.{◌∙◌, subst, sym, le-mul_of_pos_right, mul-le-mul, add-one, arith, length-set, length-take, get_or-set_other, get_or-set_same}
use Rattle.std.proofs.Math.Path.{ap}
use Rattle.std.proofs.Math.Decide.{ℕ_discrete}
use Rattle.std.proofs.Math.ListN.{get_or, get_or-append}
use Rattle.std.proofs.Math.Seq.{get_or-append_seam}
use Rattle.cells.specs.Live.{FirstLive, FullFrom}
use Rattle.cells.specs.declared.blocks.Blocks.{Blocks}
use Rattle.laws.specs.Chop.{length-chop}
use Rattle.laws.specs.Cut.{low-block}
use Rattle.laws.specs.Lists.{sum_low}
use Rattle.laws.specs.Live.{chop-snoc, live, live-append, live-full, live_more, live-none, live_block, run-keeps}
use Rattle.laws.specs.LiveBlock.{live-block-append, live-block-last, weights-append}
use Rattle.rules.specs.Accept.{most_bits}
use Rattle.rules.specs.Cells.{block, chop, sum}
use Rattle.rules.specs.SearchLaws.{pick_no}
use Rattle.rules.specs.Stage.{live_weights}
use Rattle.moving.specs.Meaning.{Passing, Routed, blank, block_at, mark, mark_at}
use Rattle.moving.specs.declared.route.Mark.{Mark}
use Rattle.moving.specs.declared.route.Recorder.{Recorder}
use Rattle.moving.specs.declared.route.Route.{Route}

-- nothing is passed at first
pub passing-none : (W : ℕ) (vs : List ℕ) → Passing W vs [] 0 (replicate 64 blank)
passing-none W vs = record {
  met = sym (live-none W);
  room = refl;
  places = λ t h l. absurd (omega (arith, live-none W));
  marks = λ t h l. absurd (omega (arith, live-none W));
}

module _ {W : ℕ} {vs : List ℕ} {bs : List (List ℕ)} {n : ℕ} {rs : List Recorder} (i : Passing W vs bs n rs) (b : List ℕ) where
  -- the t-th live block keeps its number
  same_place : (t : ℕ) → t < live W bs → live_block W t (bs ++ (b ∷ [])) ≡ live_block W t bs
  unfolding live
  same_place t h = live-block-append W t bs (b ∷ []) h

  -- and its weight
  same-weight : (t : ℕ) → t < live W bs → get_or (live_weights W (bs ++ (b ∷ []))) t 0 ≡ get_or (live_weights W bs) t 0
  unfolding live
  same-weight t h = ap (λ (ws : List ℕ). get_or ws t 0) (weights-append W bs (b ∷ [])) ∙ get_or-append (live_weights W bs) (live_weights W (b ∷ [])) 0 t h

  -- a full block is passed over
  passing-full : sum b ≡ W → Passing W vs (bs ++ (b ∷ [])) n rs
  passing-full e =
      let q : live W (bs ++ (b ∷ [])) ≡ live W bs = omega (arith, live-append W bs (b ∷ []), live-full W b [] e, live-none W) in
      record {
        met = i.met ∙ sym q;
        room = i.room;
        places = λ t h l. let g : t < live W bs = omega arith in i.places t h g ∙ sym (same_place t g);
        marks = λ t h l. let g : t < live W bs = omega arith in i.marks t h g ∙ ap (λ (v : ℕ). mark W v (get_or vs t 0)) (sym (same-weight t g));
      }

  module _ (o : sum b ≢ W) where
    -- one more that isn't full
    one_more : live W (bs ++ (b ∷ [])) ≡ live W bs + 1
    one_more = omega (arith, live-append W bs (b ∷ []), live_more W b [] o, live-none W)

    -- past the values it is only counted
    passing-free : length vs ≤ n → Passing W vs (bs ++ (b ∷ [])) (n + 1) rs
    passing-free h = record {
      met = ap (λ (x : ℕ). x + 1) i.met ∙ sym one_more;
      room = i.room;
      places = λ t l m. let g : t < live W bs = omega (arith, i.met) in i.places t l g ∙ sym (same_place t g);
      marks = λ t l m. let g : t < live W bs = omega (arith, i.met) in i.marks t l g ∙ ap (λ (v : ℕ). mark W v (get_or vs t 0)) (sym (same-weight t g));
    }

    -- it is the last of them
    last-place : live_block W n (bs ++ (b ∷ [])) ≡ length bs
    unfolding live
    last-place = ap (λ (t : ℕ). live_block W t (bs ++ (b ∷ []))) i.met ∙ live-block-last W b bs o

    -- with its weight
    last-weight : get_or (live_weights W (bs ++ (b ∷ []))) n 0 ≡ sum b
    unfolding live
    last-weight =
        ap (λ (t : ℕ). get_or (live_weights W (bs ++ (b ∷ []))) t 0) i.met
        ∙ ap (λ (ws : List ℕ). get_or ws (length (live_weights W bs)) 0) (weights-append W bs (b ∷ []) ∙ ap (λ (ws : List ℕ). live_weights W bs ++ ws) (pick_no (ℕ_discrete (sum b) W) [] (sum b ∷ []) o))
        ∙ get_or-append_seam (live_weights W bs) (sum b) [] 0

    module _ (p : ℕ) (m : Mark) (q : p ≡ length bs) (z : m ≡ mark W (sum b) (get_or vs n 0)) (few : n < most_bits) where
      -- the recorders with this one
      abbrev now : List Recorder
      now = set rs n (record { block = p; mark = m })

      -- itself
      the-last : get_or now n blank ≡ record { block = p; mark = m }
      the-last = get_or-set_same rs n (record { block = p; mark = m }) blank (omega (arith, i.room))

      -- each before it
      the-others : (t : ℕ) → t ≢ n → get_or now t blank ≡ get_or rs t blank
      the-others t e = get_or-set_other rs n t (record { block = p; mark = m }) blank e

      -- its place, and that of each before it
      place_at : (t : ℕ) → t < length vs → t < n + 1 → Dec (t ≡ n) → block_at now t ≡ live_block W t (bs ++ (b ∷ []))
      place_at t h l (yes e) =
          subst (λ (x : ℕ). block_at now x ≡ live_block W x (bs ++ (b ∷ []))) (sym e)
          (ap (λ (x : Recorder). x.block) the-last ∙ q ∙ sym last-place)
      place_at t h l (no e) =
          let g : t < live W bs = omega (arith, i.met) in
          ap (λ (x : Recorder). x.block) (the-others t e) ∙ i.places t h g ∙ sym (same_place t g)

      -- its mark, and that of each before it
      mark-at : (t : ℕ) → t < length vs → t < n + 1 → Dec (t ≡ n) → mark_at now t ≡ mark W (get_or (live_weights W (bs ++ (b ∷ []))) t 0) (get_or vs t 0)
      mark-at t h l (yes e) =
          subst (λ (x : ℕ). mark_at now x ≡ mark W (get_or (live_weights W (bs ++ (b ∷ []))) x 0) (get_or vs x 0)) (sym e)
          (ap (λ (x : Recorder). x.mark) the-last ∙ z ∙ ap (λ (v : ℕ). mark W v (get_or vs n 0)) (sym last-weight))
      mark-at t h l (no e) =
          let g : t < live W bs = omega (arith, i.met) in
          ap (λ (x : Recorder). x.mark) (the-others t e) ∙ i.marks t h g ∙ ap (λ (v : ℕ). mark W v (get_or vs t 0)) (sym (same-weight t g))

      -- it has its place and its mark
      passing-live : Passing W vs (bs ++ (b ∷ [])) (n + 1) now
      passing-live = record {
        met = ap (λ (x : ℕ). x + 1) i.met ∙ sym one_more;
        room = length-set rs n (record { block = p; mark = m }) ∙ i.room;
        places = λ t h l. place_at t h (omega (arith, one_more, i.met)) (ℕ_discrete t n);
        marks = λ t h l. mark-at t h (omega (arith, one_more, i.met)) (ℕ_discrete t n);
      }

-- ---- the blocks of a sheet

-- the blocks passed, with the next one
blocks_more : (w j : ℕ) (xs : List ℕ) → chop w (j + 1) xs ≡ chop w j xs ++ (block w xs j ∷ [])
blocks_more w j xs = ap (λ (n : ℕ). chop w n xs) (add-one j) ∙ chop-snoc w j xs

module _ (b : Blocks) (vs : List ℕ) where
  -- once the first j blocks are passed
  abbrev pub Past : ℕ → ℕ → List Recorder → Type 0
  Past j n rs = Passing (b.len * b.top) vs (chop b.len j b.cells.now) n rs

  -- none is passed at first
  pub past-none : (j : ℕ) → j ≡ 0 → Past j 0 (replicate 64 blank)
  past-none j e = rw e (passing-none (b.len * b.top) vs)

  -- full blocks are passed over
  pub route-past : {n : ℕ} {rs : List Recorder} (from to : ℕ) → from ≤ to → FullFrom b from to → Past from n rs → Past to n rs
  route-past {n} {rs} from to h f i = run-keeps (λ x. Past x n rs) from to h (λ x l m p. rw (blocks_more b.len x b.cells.now) (passing-full p (block b.len b.cells.now x) (f x l m))) i

  module _ {n : ℕ} {rs : List Recorder} (from j v : ℕ) (i : Past from n rs) (f : FirstLive b from j v) where
    -- the first that isn't full is reached
    reached : Past j n rs
    reached = route-past from j f.after f.passed i

    -- it isn't full
    not-full : sum (block b.len b.cells.now j) ≢ b.len * b.top
    not-full e = f.live (f.weighs ∙ e)

    -- past the values it is counted
    pub route-free : length vs ≤ n → Past (j + 1) (n + 1) rs
    route-free h = rw (blocks_more b.len j b.cells.now) (passing-free reached (block b.len b.cells.now j) not-full h)

    -- with a value to record it has its place and its mark
    pub route-live : (m : Mark) → m ≡ mark (b.len * b.top) v (get_or vs n 0) → n < most_bits → Past (j + 1) (n + 1) (set rs n (record { block = j; mark = m }))
    route-live m z h =
        rw (blocks_more b.len j b.cells.now)
        (passing-live reached (block b.len b.cells.now j) not-full j m (sym (length-chop b.len j b.cells.now)) (z ∙ ap (λ (x : ℕ). mark (b.len * b.top) x (get_or vs n 0)) f.weighs) h)

module _ (b : Blocks) (from j v : ℕ) (f : FirstLive b from j v) where
  -- the weight of a block is a small number
  pub weight-small : b.top ≤ 255 → v ≤ 65536 * 255
  unfolding block
  weight-small h =
      let c : List ℕ = block b.len b.cells.now j in
      let n : length c ≤ 65536 = omega (arith, length-take b.len (drop (j * b.len) b.cells.now), b.brief) in
      omega (arith, f.weighs, sum_low b.top c (low-block b.top b.len b.cells.now j b.low), mul-le-mul {n₁ = length c} {n₂ = 65536} n h)

  -- each block has a cell, so the number of one is less than the number of cells
  pub place-small : j ≤ 65535
  place-small = omega (arith, f.inside, b.inside, b.short, le-mul_of_pos_right b.count b.long)

-- with all blocks passed, and as many live ones as values, it is the route
pub passing-done : {W : ℕ} {vs : List ℕ} {bs : List (List ℕ)} (route : Route) → Passing W vs bs route.live route.recorders → length vs ≤ live W bs → Routed W vs bs route
passing-done route i h = record { live = i.met; places = λ t l. i.places t l (omega arith); marks = λ t l. i.marks t l (omega arith) }
