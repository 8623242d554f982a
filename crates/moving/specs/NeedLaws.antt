-- Laws of what a move needs: of lists one after the other, of the parity blocks by the marks, and of the batch. Assumes nothing.
use Rattle.std.specs.Prelude.{Bool, if◌then◌else◌, List, [], ◌∷◌, ◌++◌, ◌≢◌, ◌≡◌, refl, ℕ, zero, suc, ◌+◌, ◌*◌, ◌%◌, ◌^◌, ◌≤◌, ◌<◌, length, get_or, take, drop}
use Rattle.std.proofs.Common.{◌∙◌, ap, ap₂, subst, sym, zero-le, mul-le-mul_right, add-one, arith, length-take, length-take-le, take-add}
use Rattle.std.proofs.Math.Decide.{dec_lt, ℕ_discrete}
use Rattle.index.specs.Meaning.{Holds, cells_at}
use Rattle.laws.specs.Differ.{differ, differ-append, differ_same}
use Rattle.plan.specs.Meaning.{Needs}
use Rattle.laws.specs.Index.{digits_low, length-entry}
use Rattle.laws.specs.Lists.{low-append, low-drop, low-replicate, low-take, sum-append, sum_low}
use Rattle.laws.specs.Live.{live}
use Rattle.laws.specs.Record.{recorded-length, recorded-other, recorded-same}
use Rattle.laws.specs.Regions.{over, plus-steady, rises-base, steady-low}
use Rattle.laws.specs.Stage.{Sized, raise-sum}
use Rattle.rules.specs.Batches.{entry_cells}
use Rattle.rules.specs.Cells.{Low, Rises, join, sum}
use Rattle.rules.specs.Search.{pick}
use Rattle.rules.specs.SearchLaws.{pick-elim, pick_no, pick_yes}
use Rattle.rules.specs.Stage.{Entry, closed, index, live_weights, raise, record_all, recorded}
use Rattle.plan.specs.declared.Need.{Need}
use Rattle.moving.specs.Meaning.{Routed, mark, mark_at, marks_in, raises, risen, slot_entry}
use Rattle.moving.specs.RaiseLaws.{mark-rises, mark-stays}
use Rattle.moving.specs.RowLaws.{front, front-more, front-none, length_front}
use Rattle.moving.specs.SlotLaws.{slot-holds}
use Rattle.moving.specs.declared.route.Mark.{Mark}
use Rattle.moving.specs.declared.route.Mark.TheVariants.{Filled, Raised, Stays}
use Rattle.moving.specs.declared.route.Recorder.{Recorder}
use Rattle.moving.specs.declared.route.Route.{Route}

-- ---- lists one after the other

-- cells that are the same need nothing
pub needs-same : (xs : List ℕ) → Needs xs xs (record { cells = 0; levels = 0 })
needs-same xs = record { cells = sym (differ_same xs); levels = omega arith }

-- two pairs of lists, one after the other
pub needs-append : {ws xs ys zs : List ℕ} {m n : Need} (c l : ℕ) → length ws ≡ length xs → Needs ws xs m → Needs ys zs n → c ≡ m.cells + n.cells → l ≡ m.levels + n.levels
    → Needs (ws ++ ys) (xs ++ zs) (record { cells = c; levels = l })
needs-append {ws} {xs} {ys} {zs} c l e p q h g = record {
  cells = omega (arith, p.cells, q.cells, differ-append ws xs ys zs e);
  levels = omega (arith, p.levels, q.levels, sum-append ws ys, sum-append xs zs);
}

-- no more cells differ than there are
differ-few : (xs ys : List ℕ) → differ xs ys ≤ length xs
differ-few [] ys = zero-le
differ-few (x ∷ xs) [] = zero-le
differ-few (x ∷ xs) (y ∷ ys) = pick-elim (λ r. r ≤ suc (length xs)) (ℕ_discrete x y) _ _ (λ e. omega (arith, differ-few xs ys)) (λ e. omega (arith, differ-few xs ys))

-- what bytes need is small
needs-small : {xs ys : List ℕ} {n : Need} → Needs xs ys n → Low 255 ys → length xs ≤ 65536 → length ys ≤ 65536 → (n.cells ≤ 65536) × (n.levels ≤ 65536 * 255)
needs-small {xs} {ys} p low h l =
    (omega (arith, p.cells, differ-few xs ys), omega (arith, p.levels, sum_low 255 ys low, mul-le-mul_right {m = length ys} {n = 65536} 255 l))

-- ---- the parity blocks

-- the first n of a sequence of marks
listed : ℕ → (ℕ → Mark) → List Mark
listed zero f = []
listed (suc n) f = f 0 ∷ listed n (λ t. f (suc t))

-- those of recorders
listed-marks : (n : ℕ) (rs : List Recorder) (f : ℕ → Mark) → n ≤ length rs → ((t : ℕ) → t < n → mark_at rs t ≡ f t) → marks_in (take n rs) ≡ listed n f
unfolding listed
listed-marks zero rs f h e = refl
listed-marks (suc n) [] f h e = absurd (omega arith)
listed-marks (suc n) (r ∷ rs) f h e =
    ap₂ (λ (m : Mark) (ms : List Mark). m ∷ ms) (e 0 (omega arith)) (listed-marks n rs (λ t. f (suc t)) (omega arith) (λ t l. e (suc t) (omega arith)))

-- the marks of the live blocks of these weights, that record these values
abbrev marks_of : ℕ → List ℕ → List ℕ → List Mark
marks_of W ws vs = listed (length vs) (λ t. mark W (get_or ws t 0) (get_or vs t 0))

-- a block that isn't full and is raised: one cell differs
differ-raise : (L : ℕ) (b : List ℕ) → Low L b → sum b ≢ length b * L → differ b (raise L b) ≡ 1
differ-raise L [] h d = absurd (d (omega arith))
differ-raise L (x ∷ b) h d =
    pick-elim (λ r. differ (x ∷ b) r ≡ 1) (dec_lt x L) _ _
    (λ l. pick_no (ℕ_discrete x (suc x)) (differ b b) (suc (differ b b)) (λ e. omega arith) ∙ ap suc (differ_same b))
    (λ l. pick_yes (ℕ_discrete x x) (differ b (raise L b)) (suc (differ b (raise L b))) refl ∙ differ-raise L b h.1 (λ e. d (omega (arith, h.0))))

-- the number of a mark: 0 where its block stays, else 1
abbrev one : Mark → ℕ
one m = if raises m then 1 else 0

-- a live block that records a value needs one cell and one level, unless it stays
recorded-needs : (W w L v : ℕ) (b : List ℕ) → W ≡ w * L → length b ≡ w → Low L b → sum b ≢ W → Needs b (recorded L v b) (record { cells = one (mark W (sum b) v); levels = one (mark W (sum b) v) })
recorded-needs W w L v b e long low n = go (ℕ_discrete (sum b % 2) v)
  where
    o : sum b ≢ length b * L
    o q = n (q ∙ ap (λ (x : ℕ). x * L) long ∙ sym e)

    go : Dec (sum b % 2 ≡ v) → Needs b (recorded L v b) (record { cells = one (mark W (sum b) v); levels = one (mark W (sum b) v) })
    go (yes q) =
        let z : one (mark W (sum b) v) ≡ 0 = ap (λ (r : Bool). if r then 1 else 0) (mark-stays W (sum b) v q) in
        rw (z, recorded-same L v b q) (needs-same b)
    go (no q) =
        let z : one (mark W (sum b) v) ≡ 1 = ap (λ (r : Bool). if r then 1 else 0) (mark-rises W (sum b) v q) in
        rw (z, recorded-other L v b q) (record { cells = sym (differ-raise L b low o); levels = omega (arith, raise-sum L b low o) })

-- one mark in front of others
risen-cons : (m : Mark) (ms : List Mark) → risen (m ∷ ms) ≡ one m + risen ms
unfolding risen
risen-cons Stays ms = omega arith
risen-cons Raised ms = omega arith
risen-cons Filled ms = omega arith

-- the parity blocks need one cell and one level for each that is raised
parity-needs : (W w L : ℕ) (vs : List ℕ) (bs : List (List ℕ)) → W ≡ w * L → Sized w L bs → length vs ≤ length (live_weights W bs)
    → Needs (join bs) (join (record_all W L vs bs)) (record { cells = risen (marks_of W (live_weights W bs) vs); levels = risen (marks_of W (live_weights W bs) vs) })
unfolding risen listed
parity-needs W w L [] [] q h l = record { cells = refl; levels = refl }
parity-needs W w L (v ∷ vs) [] q h l = absurd (omega arith)
parity-needs W w L [] (b ∷ bs) q h l = needs-same (join (b ∷ bs))
parity-needs W w L (v ∷ vs) (b ∷ bs) q h l = go (ℕ_discrete (sum b) W) l (λ m. parity-needs W w L (v ∷ vs) bs q h.2 m) (λ m. parity-needs W w L vs bs q h.2 m)
  where
    go : (d : Dec (sum b ≡ W)) → suc (length vs) ≤ length (pick d (live_weights W bs) (sum b ∷ live_weights W bs))
        → (suc (length vs) ≤ length (live_weights W bs) → Needs (join bs) (join (record_all W L (v ∷ vs) bs)) (record { cells = risen (marks_of W (live_weights W bs) (v ∷ vs)); levels = risen (marks_of W (live_weights W bs) (v ∷ vs)) }))
        → (length vs ≤ length (live_weights W bs) → Needs (join bs) (join (record_all W L vs bs)) (record { cells = risen (marks_of W (live_weights W bs) vs); levels = risen (marks_of W (live_weights W bs) vs) }))
        → Needs (b ++ join bs) (join (pick d (b ∷ record_all W L (v ∷ vs) bs) (recorded L v b ∷ record_all W L vs bs)))
        (record { cells = risen (marks_of W (pick d (live_weights W bs) (sum b ∷ live_weights W bs)) (v ∷ vs)); levels = risen (marks_of W (pick d (live_weights W bs) (sum b ∷ live_weights W bs)) (v ∷ vs)) })
    go (yes e) m f g = needs-append _ _ refl (needs-same b) (f m) (omega arith) (omega arith)
    go (no n) m f g =
        let c : risen (marks_of W (sum b ∷ live_weights W bs) (v ∷ vs)) ≡ one (mark W (sum b) v) + risen (marks_of W (live_weights W bs) vs) =
        risen-cons (mark W (sum b) v) (marks_of W (live_weights W bs) vs) in
        needs-append _ _ (sym (recorded-length L v b)) (recorded-needs W w L v b q h.0 h.1 n) (g (omega arith)) c c

-- by the marks of a route
pub route-needs : (w L : ℕ) (vs : List ℕ) (bs : List (List ℕ)) (route : Route) → Sized w L bs → length vs ≤ live (w * L) bs → length vs ≤ length route.recorders → Routed (w * L) vs bs route
    → Needs (join bs) (join (record_all (w * L) L vs bs)) (record { cells = risen (marks_in (take (length vs) route.recorders)); levels = risen (marks_in (take (length vs) route.recorders)) })
unfolding live
route-needs w L vs bs route h l n r =
    rw (listed-marks (length vs) route.recorders (λ t. mark (w * L) (get_or (live_weights (w * L) bs) t 0) (get_or vs t 0)) n r.marks)
    (parity-needs (w * L) w L vs bs refl h l)

-- ---- the batch

-- the digits of an index block are at most `step`
entry-low : (step w : ℕ) (e : Entry) → Holds step w e → Low step (entry_cells step w e)
entry-low step w closed h = low-replicate step w step (omega arith)
entry-low step w (index u) h = digits_low step w u h

-- its cells are bytes
cells_low : (floor step w : ℕ) (e : Entry) → floor + step ≤ 255 → Holds step w e → Low 255 (cells_at floor step w e)
cells_low floor step w e l h = steady-low step floor 255 (cells_at floor step w e) l (plus-steady step floor (entry_cells step w e) (entry-low step w e h))

-- cells that stand above nothing are at most at the floor
pub over-low : (floor : ℕ) (xs : List ℕ) → over floor xs ≡ 0 → Low floor xs
over-low floor [] e = tt
over-low floor (x ∷ xs) e = (omega arith, over-low floor xs (omega arith))

-- and conversely
low-over : (floor : ℕ) (xs : List ℕ) → Low floor xs → over floor xs ≡ 0
low-over floor [] h = refl
low-over floor (x ∷ xs) h = omega (arith, h.0, low-over floor xs h.1)

-- such cells rise to any index block above the floor
pub floor-rises : (floor step w : ℕ) (xs : List ℕ) (e : Entry) → length xs ≡ w → Low floor xs → Rises xs (cells_at floor step w e)
floor-rises floor step w xs e q h = rises-base floor xs (entry_cells step w e) (q ∙ sym (length-entry step w e)) (low-over floor xs h)

module _ (floor step w k n : ℕ) (rs : List Recorder) where
  -- nothing is needed for no index block
  pub batch-none : (batch : List ℕ) → Needs (take (0 * w) batch) (front floor step w k n rs 0) (record { cells = 0; levels = 0 })
  batch-none batch =
      let z : 0 * w ≡ 0 = omega arith in
      rw (z, front-none floor step w k n rs) (needs-same [])

  -- one index block more
  pub batch-more : (x : ℕ) (batch : List ℕ) (c l : ℕ) {m : Need} → x * w + w ≤ length batch
      → Needs (take (x * w) batch) (front floor step w k n rs x) (record { cells = c; levels = l }) → Needs (take w (drop (x * w) batch)) (cells_at floor step w (slot_entry k n rs x)) m
      → Needs (take ((x + 1) * w) batch) (front floor step w k n rs (x + 1)) (record { cells = c + m.cells; levels = l + m.levels })
  batch-more x batch c l {m} h p q =
      let e : (x + 1) * w ≡ x * w + w = omega arith in
      rw (e, take-add (x * w) w batch, front-more floor step w k n rs x)
      (needs-append _ _ (length-take-le (x * w) batch (omega arith) ∙ sym (length_front floor step w k n rs x)) p q refl refl)

  module _ (wide : k < suc step ^ w) (below : floor + step ≤ 255) where
    -- the cells written are bytes
    front_low : (x : ℕ) → Low 255 (front floor step w k n rs x)
    front_low zero = subst (Low 255) (sym (front-none floor step w k n rs)) tt
    front_low (suc x) =
        subst (Low 255) (sym (front-more floor step w k n rs x) ∙ ap (front floor step w k n rs) (add-one x))
        (low-append 255 (front floor step w k n rs x) (cells_at floor step w (slot_entry k n rs x)) (front_low x) (cells_low floor step w (slot_entry k n rs x) below (slot-holds k n step w rs x wide)))

    -- so what they need is small
    pub batch-small : (x : ℕ) (batch : List ℕ) {m : Need} → x * w ≤ length batch → length batch ≤ 65536 → Needs (take (x * w) batch) (front floor step w k n rs x) m → (m.cells ≤ 65536) × (m.levels ≤ 65536 * 255)
    batch-small x batch h l p = needs-small p (front_low x) (omega (arith, length-take (x * w) batch)) (omega (arith, length_front floor step w k n rs x))

-- no cell of an index block stands above the floor
pub block-floor : (floor a n : ℕ) (batch : List ℕ) → Low floor batch → Low floor (take n (drop a batch))
block-floor floor a n batch h = low-take floor n (drop a batch) (low-drop floor a batch h)
