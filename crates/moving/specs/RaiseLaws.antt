-- Laws of the marked blocks: one place more, and that by the marks of a route the blocks record its values. Assumes nothing.
use mathlib.Core.List.{List, [], ◌++◌}
use Rattle.std.specs.Prelude.{true, false, if◌then◌else◌, ◌≢◌, ◌≡◌, refl, ℕ, zero, suc, ◌+◌, ◌*◌, ◌%◌, ◌≤◌, ◌<◌, length, get_or, set, take, drop}
use Rattle.std.proofs.Common.{◌∙◌, add-one, take-append-drop, get_or-take, length-take-le, take_at}
use Rattle.std.proofs.Math.Path.{ap, ap₂, sym}
use Rattle.std.proofs.Math.Decide.{ℕ_discrete}
use native.Mathlib.Omega.{arith}
use Rattle.std.proofs.lemmas.List.{set-get_or}
use Rattle.std.proofs.Math.Seq.{take-length}
use Rattle.laws.specs.Chop.{chop-join, chop-sized, join-chop, length-chop, length-join, length-record}
use Rattle.laws.specs.Cut.{block-fits, length-block, length-store}
use Rattle.laws.specs.Live.{live, live_block}
use Rattle.laws.specs.LiveBlock.{live-block-in, live-block-sum}
use Rattle.laws.specs.Parts.{chop-take, get_or-chop, join-set}
use Rattle.laws.specs.Put.{spliced-front, store-spliced}
use Rattle.laws.specs.Record.{record-ahead, record-none, record-sized, record-turn, recorded-other, recorded-same}
use Rattle.laws.specs.Stage.{Sized, raise-length}
use Rattle.rules.specs.Cells.{Low, block, chop, join, store, sum}
use Rattle.rules.specs.SearchLaws.{pick-elim, pick_no, pick_yes}
use Rattle.rules.specs.Stage.{live_weights, raise, record_all, recorded}
use Rattle.moving.specs.Meaning.{Placed, Routed, blank, block_at, mark, mark_at, marked_cells, raises}
use Rattle.moving.specs.declared.route.Mark.{Mark}
use Rattle.moving.specs.declared.route.Mark.TheVariants.{Filled, Raised}
use Rattle.moving.specs.declared.route.Recorder.{Recorder}
use Rattle.moving.specs.declared.route.Route.{Route}

-- ---- one place more

-- no place: the cells stay
pub marked-none : (len L : ℕ) (rs : List Recorder) (cells : List ℕ) → cells ≡ marked_cells len L 0 rs cells
unfolding marked_cells
marked-none len L rs cells = refl

module _ (len L t : ℕ) (rs : List Recorder) (cells : List ℕ) {xs : List ℕ} (e : xs ≡ marked_cells len L t rs cells) where
  -- one more: it is raised, or it stays
  pub marked-more : (if raises (mark_at rs t) then store len xs (block_at rs t) (raise L (block len xs (block_at rs t))) else xs) ≡ marked_cells len L (t + 1) rs cells
  unfolding marked_cells
  marked-more =
      ap (λ (r : List ℕ). if raises (mark_at rs t) then store len r (block_at rs t) (raise L (block len r (block_at rs t))) else r) e
      ∙ sym (ap (λ (n : ℕ). marked_cells len L n rs cells) (add-one t))

  -- a block whose mark raises it is raised
  pub marked-raised : raises (mark_at rs t) ≡ true → store len xs (block_at rs t) (raise L (block len xs (block_at rs t))) ≡ marked_cells len L (t + 1) rs cells
  marked-raised z = rw z at marked-more

  -- another stays
  pub marked-stays : raises (mark_at rs t) ≡ false → xs ≡ marked_cells len L (t + 1) rs cells
  marked-stays z = rw z at marked-more

-- the first n recorders have the first n places and marks
pub marked-take : (len L k n : ℕ) (rs : List Recorder) (cells : List ℕ) → k ≤ n → marked_cells len L k (take n rs) cells ≡ marked_cells len L k rs cells
unfolding marked_cells
marked-take len L zero n rs cells h = refl
marked-take len L (suc k) n rs cells h =
    ap₂ (λ (r : Recorder) (xs : List ℕ). if raises r.mark then store len xs r.block (raise L (block len xs r.block)) else xs) (get_or-take n rs k blank (omega arith)) (marked-take len L k n rs cells (omega arith))

pub placed-take : (len k : ℕ) (rs : List Recorder) (cells : List ℕ) → Placed len k rs cells → Placed len k (take k rs) cells
placed-take len k rs cells p t h = rw (ap (λ (r : Recorder). r.block) (get_or-take k rs t blank h)) (p t h)

-- a block raised leaves the length
pub length-raised : (len L j : ℕ) (xs : List ℕ) → j * len + len ≤ length xs → length (store len xs j (raise L (block len xs j))) ≡ length xs
length-raised len L j xs h = length-store len xs j h (raise L (block len xs j)) (raise-length L (block len xs j) ∙ length-block len xs j h)

-- ---- what a mark says

module _ (W v value : ℕ) where
  -- where the parity is the value, the block stays
  pub mark-stays : v % 2 ≡ value → raises (mark W v value) ≡ false
  unfolding mark
  mark-stays e = ap raises (pick_yes (ℕ_discrete (v % 2) value) _ _ e)

  -- where it is not, it is raised
  pub mark-rises : v % 2 ≢ value → raises (mark W v value) ≡ true
  unfolding mark
  mark-rises n = ap raises (pick_no (ℕ_discrete (v % 2) value) _ _ n) ∙ pick-elim (λ m. raises m ≡ true) (ℕ_discrete (suc v) W) Filled Raised (λ e. refl) (λ e. refl)

-- ---- blocks put together, and cells past them

module _ (w L : ℕ) (cs : List (List ℕ)) (rest : List ℕ) (sized : Sized w L cs) where
  -- they are the first blocks of the cells
  chop-front : chop w (length cs) (join cs ++ rest) ≡ cs
  chop-front =
      sym (chop-take w (length cs) (length cs * w) (join cs ++ rest) (omega arith))
      ∙ ap (chop w (length cs)) (take_at (join cs) rest (length cs * w) (length-join w L cs sized))
      ∙ chop-join w L (length cs) cs sized refl

  module _ (j : ℕ) (h : j < length cs) where
    -- block j of the cells is the j-th of them
    block-front : block w (join cs ++ rest) j ≡ get_or cs j []
    block-front = sym (get_or-chop w (length cs) (join cs ++ rest) j h) ∙ ap (λ (l : List (List ℕ)). get_or l j []) chop-front

    -- and block j of the cells stored is the j-th of them set
    store-front : (b : List ℕ) → length b ≡ w → store w (join cs ++ rest) j b ≡ join (set cs j b) ++ rest
    store-front b e =
        let n : length (join cs) ≡ length cs * w = length-join w L cs sized in
        store-spliced w (join cs ++ rest) j b e
        ∙ spliced-front (j * w) b (join cs) rest (omega (arith, block-fits w j (length cs) h))
        ∙ ap (λ (r : List ℕ). r ++ rest) (sym (store-spliced w (join cs) j b e) ∙ sym (join-set w (length cs) (join cs) j b n h) ∙ ap (λ (l : List (List ℕ)). join (set l j b)) (chop-join w L (length cs) cs sized refl))

-- the first blocks put together are the first cells
pub join_first : (w n : ℕ) (xs : List ℕ) → n * w ≤ length xs → join (chop w n xs) ≡ take (n * w) xs
join_first w n xs h = ap join (sym (chop-take w n (n * w) xs (omega arith))) ∙ join-chop w n (take (n * w) xs) (length-take-le (n * w) xs h)

-- ---- by the marks of a route

module _ (len count L : ℕ) (cells vs : List ℕ) (route : Route) (inside : count * len ≤ length cells) (low : Low L cells)
    (enough : length vs ≤ live (len * L) (chop len count cells)) (r : Routed (len * L) vs (chop len count cells) route) where
  -- the parity blocks
  abbrev bs : List (List ℕ)
  bs = chop len count cells

  -- the t-th value has a live block
  is_live : (t : ℕ) → t < length vs → t < length (live_weights (len * L) bs)
  unfolding live
  is_live t h = omega arith

  -- which is one of the blocks
  is_block : (t : ℕ) → t < length vs → live_block (len * L) t bs < count
  is_block t h = omega (arith, live-block-in (len * L) t bs (is_live t h), length-chop len count cells)

  -- so the places are those of blocks that lie in the cells
  pub route-placed : Placed len (length vs) route.recorders cells
  route-placed t h = omega (arith, ap (λ (j : ℕ). j * len) (r.places t h), block-fits len (live_block (len * L) t bs) count (is_block t h))

  -- the blocks with the first t values recorded
  abbrev cs : ℕ → List (List ℕ)
  cs t = record_all (len * L) L (take t vs) bs

  -- the block that records the t-th value
  abbrev b : ℕ → List ℕ
  b t = get_or bs (live_block (len * L) t bs) []

  -- as many blocks as before
  as_many : (t : ℕ) → length (cs t) ≡ count
  as_many t = length-record (len * L) L (take t vs) bs ∙ length-chop len count cells

  -- of the same size
  are-sized : (t : ℕ) → Sized len L (cs t)
  are-sized t = record-sized (len * L) len L (take t vs) bs (chop-sized len L count cells inside low)

  -- the cells once the first t values are recorded
  abbrev made : ℕ → List ℕ
  made t = join (cs t) ++ drop (count * len) cells

  module _ (t : ℕ) (h : t < length vs) where
    -- the mark is that of the block's weight
    mark-is : mark_at route.recorders t ≡ mark (len * L) (sum (b t)) (get_or vs t 0)
    mark-is = r.marks t h ∙ ap (λ (v : ℕ). mark (len * L) v (get_or vs t 0)) (live-block-sum (len * L) t bs (is_live t h))

    -- the next block is as it was
    ahead : get_or (cs t) (live_block (len * L) t bs) [] ≡ b t
    ahead = record-ahead (len * L) L t vs bs (is_live t h)

    -- and one value more is recorded in it
    next : cs (suc t) ≡ set (cs t) (live_block (len * L) t bs) (recorded L (get_or vs t 0) (b t))
    next = record-turn (len * L) L t vs bs h (is_live t h)

    -- with the parity as its value all stays
    next-stays : sum (b t) % 2 ≡ get_or vs t 0 → made t ≡ made (suc t)
    next-stays v =
        ap (λ (l : List (List ℕ)). join l ++ drop (count * len) cells)
        (sym (next ∙ ap (set (cs t) (live_block (len * L) t bs)) (recorded-same L (get_or vs t 0) (b t) v ∙ sym ahead) ∙ set-get_or (cs t) (live_block (len * L) t bs) []))

    -- with the other the block is raised
    next-rises : sum (b t) % 2 ≢ get_or vs t 0
        → store len (made t) (live_block (len * L) t bs) (raise L (block len (made t) (live_block (len * L) t bs))) ≡ made (suc t)
    next-rises v =
        let j : ℕ = live_block (len * L) t bs in
        let l : j < length (cs t) = omega (arith, as_many t, is_block t h) in
        let e : block len (made t) j ≡ b t = block-front len L (cs t) (drop (count * len) cells) (are-sized t) j l ∙ ahead in
        let i : j * len + len ≤ length cells = omega (arith, block-fits len j count (is_block t h)) in
        let k : length (raise L (b t)) ≡ len = raise-length L (b t) ∙ ap length (get_or-chop len count cells j (is_block t h)) ∙ length-block len cells j i in
        ap (λ (x : List ℕ). store len (made t) j (raise L x)) e
        ∙ store-front len L (cs t) (drop (count * len) cells) (are-sized t) j l (raise L (b t)) k
        ∙ ap (λ (x : List (List ℕ)). join x ++ drop (count * len) cells) (ap (set (cs t) j) (sym (recorded-other L (get_or vs t 0) (b t) v)) ∙ sym next)

    -- so by its mark
    next-made : (if raises (mark_at route.recorders t) then store len (made t) (block_at route.recorders t) (raise L (block len (made t) (block_at route.recorders t))) else made t) ≡ made (suc t)
    next-made =
        ap₂ (λ (m : Mark) (j : ℕ). if raises m then store len (made t) j (raise L (block len (made t) j)) else made t) mark-is (r.places t h)
        ∙ go (ℕ_discrete (sum (b t) % 2) (get_or vs t 0))
      where
        go : Dec (sum (b t) % 2 ≡ get_or vs t 0)
            → (if raises (mark (len * L) (sum (b t)) (get_or vs t 0)) then store len (made t) (live_block (len * L) t bs) (raise L (block len (made t) (live_block (len * L) t bs))) else made t) ≡ made (suc t)
        go (yes v) = rw (mark-stays (len * L) (sum (b t)) (get_or vs t 0) v) (next-stays v)
        go (no v) = rw (mark-rises (len * L) (sum (b t)) (get_or vs t 0) v) (next-rises v)

  -- the first t marks record the first t values
  marked-made : (t : ℕ) → t ≤ length vs → marked_cells len L t route.recorders cells ≡ made t
  marked-made zero h =
      sym (marked-none len L route.recorders cells)
      ∙ sym (ap (λ (x : List ℕ). x ++ drop (count * len) cells) (ap join (record-none (len * L) L bs) ∙ join_first len count cells inside) ∙ take-append-drop (count * len) cells)
  marked-made (suc t) h =
      rw (← add-one t) (sym (marked-more len L t route.recorders cells (sym (marked-made t (omega arith))))) ∙ next-made t h

  -- all marks record all values
  pub marked-is : marked_cells len L (length vs) route.recorders cells ≡ join (record_all (len * L) L vs bs) ++ drop (count * len) cells
  marked-is = marked-made (length vs) (omega arith) ∙ ap (λ (us : List ℕ). join (record_all (len * L) L us bs) ++ drop (count * len) cells) (take-length vs)
