-- Laws of a block's shape: a block is a step of a cycle, neither empty nor full, exactly if one cell rises and at most one is between 0 and L. Assumes nothing.
use Rattle.std.proofs.Common.{◌≡◌, ℕ, zero, suc, ◌+◌, ◌-◌, ◌*◌, ◌%◌, ◌<◌, ◌≤◌, min, ◌≢◌, List, [], ◌∷◌, ◌++◌, length, get_or, take, drop, sym, refl, ap, ◌∙◌, subst, ap₂, suc-le-suc, zero-le, le_of_suc-le-suc, not-suc-le-zero, arith, length-append, length-drop, take-append-drop, length-take-le, take_at, drop_at}
use native.Mathlib.Decide.{dec_lt}
use Rattle.laws.specs.Block.{length-ramp, ramp-zero, state-one}
use Rattle.laws.specs.Lists.{sum-append, sum-zero}
use Rattle.laws.specs.Rise.{cell_before, no-other-rises, start-rises}
use Rattle.rules.specs.Block.{active, broken, cycle, empty, full, ramp, state_of}
use Rattle.rules.specs.Cells.{Low, sum}
use Rattle.rules.specs.SearchLaws.{pick-elim, pick_no, pick_yes}
use Rattle.block.specs.Meaning.{higher, last_of, nonzero, rise_cells, rises, shape_of, tops}
use Rattle.block.specs.declared.Shape.{Shape}
use Rattle.block.proofs.LevelLaws.{middles, nonzero-are, nonzero-none, nonzero-some, tops-all, tops-few, tops-rest, tops-some}
use Rattle.block.specs.StateLaws.{off-all, state-empty, state-full, under}

-- ---- runs that fall, and runs in which one cell rises

-- no cell is higher than the one before it; before the first comes level a
abbrev Falls : ℕ → List ℕ → Type 0
Falls a [] = Unit {0}
Falls a (x ∷ xs) = (x ≤ a) × Falls x xs

-- a run in which one cell is higher than the one before it: the numbers of such cells add up to its own, and the cells before it fall, as do the cells from it on
record OneRise (i a : ℕ) (xs : List ℕ) : Type 0 where
  pub cell : ℕ
  pub inside : cell < length xs
  pub is : rise_cells i a xs ≡ i + cell
  pub before : Falls a (take cell xs)
  pub after : (L : ℕ) → Low L xs → Falls L (drop cell xs)

-- ---- the last cell

-- the last cell of a run is that of any part up to its end
last-drop : (d e : ℕ) (b : List ℕ) (i : ℕ) → i < length b → last_of d (drop i b) ≡ last_of e b
unfolding last_of
last-drop d e [] i h = absurd (not-suc-le-zero h)
last-drop d e (x ∷ b) zero h = refl
last-drop d e (x ∷ b) (suc i) h = last-drop d x b i (le_of_suc-le-suc h)

-- the last cell, by its number
last-cell : (d : ℕ) (b : List ℕ) → 1 ≤ length b → get_or b (length b - 1) 0 ≡ last_of d b
unfolding last_of
last-cell d [] h = absurd (not-suc-le-zero h)
last-cell d (x ∷ []) h = refl
last-cell d (x ∷ y ∷ b) h =
    let e : length (x ∷ y ∷ b) - 1 ≡ suc (length (y ∷ b) - 1) = omega arith in
    ap (λ (n : ℕ). get_or (x ∷ y ∷ b) n 0) e ∙ last-cell x (y ∷ b) (omega arith)

-- ---- runs in which no cell rises

-- a run in which no cell rises falls
none-falls : (a : ℕ) (xs : List ℕ) → rises a xs ≡ 0 → Falls a xs
unfolding higher rises
none-falls a [] e = tt
none-falls a (x ∷ xs) e = (omega arith, none-falls x xs (omega arith))

-- in a run in which no cell rises no number is added up
none-cells : (i a : ℕ) (xs : List ℕ) → rises a xs ≡ 0 → rise_cells i a xs ≡ 0
unfolding higher rises rise_cells
none-cells i a [] e = refl
none-cells i a (x ∷ xs) e =
    pick-elim (λ n. n + rise_cells (i + 1) x xs ≡ 0) (dec_lt a x) i 0 (λ h. absurd (omega arith)) (λ h. omega (arith, none-cells (i + 1) x xs (omega arith)))

-- two runs that fall, the second from where the first ends, are one that falls
falls-append : (a : ℕ) (xs ys : List ℕ) → Falls a xs → Falls (last_of a xs) ys → Falls a (xs ++ ys)
unfolding last_of
falls-append a [] ys h l = l
falls-append a (x ∷ xs) ys h l = (h.0, falls-append x xs ys h.1 l)

-- ---- runs in which one cell rises

-- in a run in which one cell rises, the cells before it fall, and so do the cells from it on
one-rise : (i a : ℕ) (xs : List ℕ) → rises a xs ≡ 1 → OneRise i a xs
unfolding higher rises rise_cells
one-rise i a [] e = absurd (omega arith)
one-rise i a (x ∷ xs) e = go (dec_lt a x) (λ q. one-rise (i + 1) x xs q)
  where
    go : Dec (a < x) → (rises x xs ≡ 1 → OneRise (i + 1) x xs) → OneRise i a (x ∷ xs)
    go (yes h) r =
        let n : rises x xs ≡ 0 = omega arith in
        record {
          cell = 0;
          inside = suc-le-suc zero-le;
          is = rw (pick_yes (dec_lt a x) i 0 h) (omega (arith, none-cells (i + 1) x xs n));
          before = tt;
          after = λ L low. (low.0, none-falls x xs n);
        }
    go (no h) r =
        let o = r (omega arith) in
        record {
          cell = suc o.cell;
          inside = suc-le-suc o.inside;
          is = rw (pick_no (dec_lt a x) i 0 h) (omega (arith, o.is));
          before = (omega arith, o.before);
          after = λ L low. o.after L low.1;
        }

-- ---- cells between 0 and L, the middles

-- the middles of two runs
middles-append : (L : ℕ) (xs ys : List ℕ) → middles L (xs ++ ys) ≡ middles L xs + middles L ys
unfolding middles
middles-append L [] ys = omega arith
middles-append L (x ∷ xs) ys = omega (arith, middles-append L xs ys)

-- a cell below L that falls on, with at most one middle, falls to 0
rest-zero : (L x : ℕ) (xs : List ℕ) → x < L → Falls x xs → min 1 (min x (L - x)) + middles L xs ≤ 1 → sum xs ≡ 0
unfolding middles
rest-zero L x [] l h m = refl
rest-zero L x (y ∷ xs) l h m =
    let le : y ≤ x = h.0 in
    omega (arith, rest-zero L y xs (omega arith) h.1 (omega arith))

-- a run that falls from L with at most one middle is a ramp
stair : (L : ℕ) (xs : List ℕ) → Falls L xs → middles L xs ≤ 1 → xs ≡ ramp L (sum xs) (length xs)
unfolding middles ramp
stair L [] h m = refl
stair L (x ∷ xs) h m = go (dec_lt x L) (λ f. stair L xs f (omega arith))
  where
    go : Dec (x < L) → (Falls L xs → xs ≡ ramp L (sum xs) (length xs)) → x ∷ xs ≡ min L (x + sum xs) ∷ ramp L (x + sum xs - L) (length xs)
    go (yes l) r =
        let z : sum xs ≡ 0 = rest-zero L x xs l h.1 m in
        ap₂ (λ (y : ℕ) (s : List ℕ). y ∷ s) (omega arith) (sum-zero xs z ∙ sym (ramp-zero L (length xs)) ∙ ap (λ (n : ℕ). ramp L n (length xs)) (omega arith))
    go (no l) r =
        let le : x ≤ L = h.0 in
        let e : x ≡ L = omega arith in
        ap₂ (λ (y : ℕ) (s : List ℕ). y ∷ s) (omega arith) (r (subst (λ (y : ℕ). Falls y xs) e h.1) ∙ ap (λ (n : ℕ). ramp L n (length xs)) (omega arith))

-- ---- one rise and at most one middle make a step of the cycle from the cell that rises

-- a ramp in two parts
ramp-parts : (L v p n : ℕ) → p ≤ n → ramp L v n ≡ ramp L v p ++ ramp L (v - p * L) (n - p)
unfolding ramp
ramp-parts L v zero n h =
    let x : v ≡ v - 0 * L = omega arith in
    let y : n ≡ n - 0 = omega arith in
    ap₂ (ramp L) x y
ramp-parts L v (suc p) zero h = absurd (not-suc-le-zero h)
ramp-parts L v (suc p) (suc n) h =
    let x : v - L - p * L ≡ v - suc p * L = omega arith in
    let y : n - p ≡ suc n - suc p = omega arith in
    ap (λ (r : List ℕ). min L v ∷ r) (ramp-parts L (v - L) p n (le_of_suc-le-suc h) ∙ ap₂ (λ (a c : ℕ). ramp L (v - L) p ++ ramp L a c) x y)

-- a block that is a ramp when read from cell i is a step of the cycle from there
turned : (L v i : ℕ) (b : List ℕ) → i ≤ length b → drop i b ++ take i b ≡ ramp L v (length b) → b ≡ cycle (length b) L i v
unfolding cycle
turned L v i b h e =
    let n : ℕ = length b - i in
    let low : List ℕ = ramp L (v - n * L) (length b - n) in
    let q : drop i b ++ take i b ≡ ramp L v n ++ low = e ∙ ramp-parts L v n (length b) (omega arith) in
    let x : drop i b ≡ ramp L v n = sym (take_at (drop i b) (take i b) n (length-drop i b)) ∙ ap (take n) q ∙ take_at (ramp L v n) low n (length-ramp L v n) in
    let y : take i b ≡ low = sym (drop_at (drop i b) (take i b) n (length-drop i b)) ∙ ap (drop n) q ∙ drop_at (ramp L v n) low n (length-ramp L v n) in
    let z : length b - n ≡ i = omega arith in
    sym (take-append-drop i b) ∙ ap₂ (λ (r s : List ℕ). r ++ s) (y ∙ ap (ramp L (v - n * L)) z) x

module _ (L : ℕ) (b : List ℕ) (low : Low L b) (one : rises (last_of 0 b) b ≡ 1) where
  -- the cell of the block that rises
  rise-there : OneRise 0 (last_of 0 b) b
  rise-there = one-rise 0 (last_of 0 b) b one

  -- the numbers of the cells that rise add up to the number of the one that does
  start_cell : rise_cells 0 (last_of 0 b) b ≡ rise-there.cell
  start_cell = rise-there.is ∙ omega arith

  -- the numbers of the cells that rise add up to the number of a cell of the block
  start-in : rise_cells 0 (last_of 0 b) b < length b
  start-in = omega (arith, start_cell, rise-there.inside)

  -- a block in which one cell rises, with at most one middle, is a step of the cycle from that cell
  shape-step : middles L b ≤ 1 → b ≡ cycle (length b) L (rise_cells 0 (last_of 0 b) b) (sum b)
  shape-step m =
      let i : ℕ = rise-there.cell in
      let l : i < length b = rise-there.inside in
      let r : List ℕ = drop i b ++ take i b in
      let f : Falls L r = falls-append L (drop i b) (take i b) (rise-there.after L low) (subst (λ (x : ℕ). Falls x (take i b)) (sym (last-drop L 0 b i l)) rise-there.before) in
      let mid : middles L r ≡ middles L b = omega (arith, middles-append L (drop i b) (take i b), middles-append L (take i b) (drop i b), ap (middles L) (take-append-drop i b)) in
      let all : sum r ≡ sum b = omega (arith, sum-append (drop i b) (take i b), sum-append (take i b) (drop i b), ap sum (take-append-drop i b)) in
      let len : length r ≡ length b = omega (arith, length-append (drop i b) (take i b), length-drop i b, length-take-le i b (omega arith)) in
      let e : r ≡ ramp L (sum b) (length b) = stair L r f (omega arith) ∙ ap₂ (ramp L) all len in
      turned L (sum b) i b (omega arith) e ∙ ap (λ (c : ℕ). cycle (length b) L c (sum b)) (sym start_cell)

-- ---- a step of a cycle has that shape

-- a cell of a ramp that is below the top level is its one middle, if the weight is not 0
middle-low : (L v m : ℕ) → v < L → m ≡ 0 → min 1 (min (min L v) (L - min L v)) + m ≤ min 1 v
middle-low L v m l h = omega arith

-- a cell of a ramp that is at the top level is no middle
middle-high : (L v m : ℕ) → L ≤ v → m ≤ min 1 v → min 1 (min (min L v) (L - min L v)) + m ≤ min 1 v
middle-high L v m l h = omega arith

-- a ramp has at most one middle, and none where its weight is 0
ramp-middles : (L v n : ℕ) → middles L (ramp L v n) ≤ min 1 v
unfolding middles ramp
ramp-middles L v zero = zero-le
ramp-middles L v (suc n) = go (dec_lt v L) (ramp-middles L (v - L) n)
  where
    go : Dec (v < L) → middles L (ramp L (v - L) n) ≤ min 1 (v - L) → min 1 (min (min L v) (L - min L v)) + middles L (ramp L (v - L) n) ≤ min 1 v
    go (yes l) h = middle-low L v (middles L (ramp L (v - L) n)) l (omega arith)
    go (no l) h = middle-high L v (middles L (ramp L (v - L) n)) (omega arith) (omega arith)

-- a full ramp has no middle
full-middles : (L v n : ℕ) → n * L ≤ v → middles L (ramp L v n) ≡ 0
unfolding middles ramp
full-middles L v zero h = refl
full-middles L v (suc n) h = omega (arith, full-middles L (v - L) n (omega arith))

-- of the two ramps of a step one has no middle: the first is full or the second is at 0
step-middles : (k L i v : ℕ) → middles L (cycle k L i v) ≤ 1
unfolding cycle
step-middles k L i v = go (dec_lt v ((k - i) * L))
  where
    both : middles L (cycle k L i v) ≡ middles L (ramp L (v - (k - i) * L) i) + middles L (ramp L v (k - i))
    both = middles-append L (ramp L (v - (k - i) * L) i) (ramp L v (k - i))

    go : Dec (v < (k - i) * L) → middles L (cycle k L i v) ≤ 1
    go (yes l) = omega (arith, both, ramp-middles L (v - (k - i) * L) i, ramp-middles L v (k - i))
    go (no l) = omega (arith, both, ramp-middles L (v - (k - i) * L) i, full-middles L v (k - i) (omega arith))

-- where a cell is higher than the one before it, at least one rises
rises-some : (a : ℕ) (b : List ℕ) (c : ℕ) → c < length b → get_or (a ∷ b) c 0 < get_or b c 0 → 1 ≤ rises a b
unfolding higher rises
rises-some a [] c l h = absurd (not-suc-le-zero l)
rises-some a (x ∷ b) zero l h = omega arith
rises-some a (x ∷ b) (suc c) l h = omega (arith, rises-some x b c (le_of_suc-le-suc l) h)

-- where no cell is higher than the one before it, none rises
rises-none : (a : ℕ) (b : List ℕ) → ((c : ℕ) → c < length b → get_or b c 0 ≤ get_or (a ∷ b) c 0) → rises a b ≡ 0
unfolding higher rises
rises-none a [] h = refl
rises-none a (x ∷ b) h = omega (arith, h 0 (suc-le-suc zero-le), rises-none x b (λ c l. h (suc c) (suc-le-suc l)))

-- where no cell but cell j is higher than the one before it, at most one rises
rises-few : (a : ℕ) (b : List ℕ) (j : ℕ) → ((c : ℕ) → c < length b → c ≢ j → get_or b c 0 ≤ get_or (a ∷ b) c 0) → rises a b ≤ 1
unfolding higher rises
rises-few a [] j h = zero-le
rises-few a (x ∷ b) zero h = omega (arith, rises-none x b (λ c l. h (suc c) (suc-le-suc l) (λ e. omega arith)))
rises-few a (x ∷ b) (suc j) h =
    let le : x ≤ a = h 0 (suc-le-suc zero-le) (λ e. omega arith) in
    omega (arith, rises-few x b j (λ c l n. h (suc c) (suc-le-suc l) (λ e. n (omega arith))))

-- the cell before cell c, with the last cell put in front
before-cell : (b : List ℕ) (c : ℕ) → 1 ≤ length b → get_or b (cell_before (length b) c) 0 ≡ get_or (last_of 0 b ∷ b) c 0
before-cell b zero h = last-cell 0 b h
before-cell b (suc c) h = refl

-- the start of a step is the one cell that rises
step-rises : (L i v : ℕ) (b : List ℕ) → 0 < L → 1 < length b → i < length b → 0 < v → v < length b * L → b ≡ cycle (length b) L i v → rises (last_of 0 b) b ≡ 1
step-rises L i v b g two l p q e =
    let k : ℕ = length b in
    let up : get_or b (cell_before k i) 0 < get_or b i 0 = subst (λ (r : List ℕ). get_or r (cell_before k i) 0 < get_or r i 0) (sym e) (start-rises k L i v g two l p q) in
    let no_other : (c : ℕ) → c < k → c ≢ i → get_or b c 0 ≤ get_or b (cell_before k c) 0 = λ c m n. subst (λ (r : List ℕ). get_or r c 0 ≤ get_or r (cell_before k c) 0) (sym e) (no-other-rises k L i v g two l c m n) in
    let some : 1 ≤ rises (last_of 0 b) b = rises-some (last_of 0 b) b i l (omega (arith, before-cell b i (omega arith), up)) in
    let few : rises (last_of 0 b) b ≤ 1 = rises-few (last_of 0 b) b i (λ c m n. omega (arith, before-cell b c (omega arith), no_other c m n)) in
    omega arith

-- ---- the state of a block by its shape

-- what is known of a block once its shape s is found
pub record ShapeFound (L : ℕ) (b : List ℕ) (s : Shape) : Type 0 where
  pub two : 2 ≤ length b
  pub pos : 0 < L
  pub low : Low L b
  pub is : s ≡ shape_of L b

module _ {L : ℕ} {b : List ℕ} {s : Shape} (k : ShapeFound L b s) where
  -- the rises of the shape that was found
  rises-is : s.rises ≡ rises (last_of 0 b) b
  rises-is = ap (λ (r : Shape). r.rises) k.is

  -- the cells above 0 of the shape that was found
  nonzero-is : s.nonzero ≡ nonzero b
  nonzero-is = ap (λ (r : Shape). r.nonzero) k.is

  -- the cells at the top level of the shape that was found
  tops-is : s.tops ≡ tops L b
  tops-is = ap (λ (r : Shape). r.tops) k.is

  -- what 256 leaves of the sum, of the shape that was found
  total-is : s.total ≡ sum b % 256
  total-is = ap (λ (r : Shape). r.total) k.is

  -- no more cells are at the top level than there are
  pub shape-few : s.tops ≤ length b
  shape-few = omega (arith, tops-is, tops-few L b)

  -- a block with no cell above 0 is empty
  pub shape-empty : s.nonzero ≡ 0 → empty ≡ state_of (length b) L b
  shape-empty e = state-empty L b (sum b) refl k.two k.pos k.low (nonzero-none b (sym nonzero-is ∙ e))

  -- a block with every cell at the top level is full
  pub shape-full : s.tops ≡ length b → full ≡ state_of (length b) L b
  shape-full e = state-full L b (sum b) refl k.two k.pos k.low (tops-all L b k.low (sym tops-is ∙ e))

  module _ (some : s.nonzero ≢ 0) (part : s.tops ≢ length b) where
    -- with a cell above 0 the sum is not 0
    not-empty : sum b ≢ 0
    not-empty e = some (omega (arith, nonzero-is, nonzero-some b))

    -- with a cell below L the sum is not as great as can be
    not_full : sum b ≢ length b * L
    not_full e = part (omega (arith, tops-is, tops-few L b, tops-some L b k.low))

    -- one rise and at most one middle: the start is the cell that rises, and the weight is the one number that fits the cells at L and what 256 leaves of the sum
    pub shape-active : length b ≤ 256 → L < 256 → s.rises ≡ 1 → s.nonzero ≤ s.tops + 1 → (v : ℕ) → (s.tops * L ≤ v) × (v < s.tops * L + 256) × (v % 256 ≡ s.total) → active s.start v ≡ state_of (length b) L b
    shape-active short byte o m v w =
        let one : rises (last_of 0 b) b ≡ 1 = sym rises-is ∙ o in
        let few : middles L b ≤ 1 = omega (arith, nonzero-is, tops-is, nonzero-are L k.pos b) in
        let t : s.tops * L ≡ tops L b * L = ap (λ (n : ℕ). n * L) tops-is in
        let rest = tops-rest L k.pos b k.low few in
        let weight : v ≡ sum b = omega (arith, w, t, rest, total-is) in
        let i : ℕ = rise_cells 0 (last_of 0 b) b in
        let start : s.start ≡ i = ap (λ (r : Shape). r.start) k.is ∙ omega (arith, start-in L b k.low one) in
        ap₂ active start weight
        ∙ sym (state-one (length b) L (omega arith) k.pos (active i (sum b)) b (start-in L b k.low one, omega (arith, not-empty), under L b (sum b) refl k.two k.pos k.low not-empty not_full, shape-step L b k.low one few))

    -- a block with no rise, or with more than one, is broken
    pub shape-rises : s.rises ≢ 1 → broken ≡ state_of (length b) L b
    shape-rises n = off-all L b (sum b) refl k.two k.pos k.low not-empty not_full (λ j l e. n (rises-is ∙ step-rises L j (sum b) b k.pos k.two l (omega (arith, not-empty)) (under L b (sum b) refl k.two k.pos k.low not-empty not_full) e))

    -- a block with more than one middle is broken
    pub shape-middles : s.tops + 1 < s.nonzero → broken ≡ state_of (length b) L b
    shape-middles h = off-all L b (sum b) refl k.two k.pos k.low not-empty not_full (λ j l e. omega (arith, nonzero-is, tops-is, nonzero-are L k.pos b, step-middles (length b) L j (sum b), ap (middles L) e))
