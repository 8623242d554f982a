-- Laws of runs of cells at one level, and of the blocks in them, which a scan passes over. Assumes nothing.
use mathlib.Core.List.{List, [], ◌∷◌}
use mathlib.Core.Logic.{◌≢◌}
use mathlib.Core.Path.{◌≡◌, ◌∙◌, ap, refl, subst, sym}
use Prim.Native.Nat.{ℕ, zero, suc, ◌+◌, ◌-◌, ◌*◌, ◌/◌, ◌≤◌, ◌<◌, suc-le-suc, zero-le}
use native.Mathlib.Decide.{dec_lt}
use native.Mathlib.Nat.{add-mul, div-mul-le_self, le-div_iff_mul-le, le_of_suc-le-suc, not-suc-le-zero}
use native.Mathlib.Omega.{arith}
use lib.ListN.{drop, length, length-drop, take}
use lib.Seq.{length-take-le}
use Rattle.laws.specs.Cut.{block-fits}
use Rattle.laws.specs.Splice.{part, part-part}
use Rattle.rules.specs.Cells.{block, sum}
use Rattle.cells.specs.Laws.{greatest-low, part-nothing}
use Rattle.cells.specs.Meaning.{Leads, RunAt, RunFrom, greatest_of, least_of, run}

-- ---- a run

-- the least level is at most 255
pub least-small : (s : List ℕ) → least_of s ≤ 255
unfolding least_of
least-small [] = omega arith
least-small (x ∷ s) = omega (arith, least-small s)

-- the least of a run's first cells is not below that of the run
least_first : (n : ℕ) (s : List ℕ) → least_of s ≤ least_of (take n s)
unfolding least_of
least_first zero s = least-small s
least_first (suc n) [] = omega arith
least_first (suc n) (x ∷ s) = omega (arith, least_first n s)

-- the least of a run's last cells is not below that of the run
least-last : (n : ℕ) (s : List ℕ) → least_of s ≤ least_of (drop n s)
unfolding least_of
least-last zero s = omega arith
least-last (suc n) [] = omega arith
least-last (suc n) (x ∷ s) = omega (arith, least-last n s)

-- a run weighs at least its length times a level that no cell is below
least-weight : (L : ℕ) (s : List ℕ) → L ≤ least_of s → length s * L ≤ sum s
unfolding least_of
least-weight L [] h = omega arith
least-weight L (x ∷ s) h = omega (arith, least-weight L s (omega arith))

-- any n cells of a run weigh at least n times a level that no cell is below
part-weight : (L a n : ℕ) (s : List ℕ) → L ≤ least_of s → a + n ≤ length s → n * L ≤ sum (take n (drop a s))
part-weight L a n s h l =
    let e : length (take n (drop a s)) ≡ n = length-take-le n (drop a s) (omega (arith, length-drop a s)) in
    let g : length (take n (drop a s)) * L ≤ sum (take n (drop a s)) = least-weight L (take n (drop a s)) (omega (arith, least-last a s, least_first n (drop a s))) in
    rw e at g

-- ---- the front of a run

-- where no cell before cell n is below a level, the least of the first n is not
leads-least : (v n : ℕ) (s : List ℕ) → v ≤ 255 → n ≤ length s → Leads v s n → v ≤ least_of (take n s)
unfolding least_of
leads-least v zero s h l f = h
leads-least v (suc n) [] h l f = absurd (not-suc-le-zero l)
leads-least v (suc n) (x ∷ s) h l f = omega (arith, f 0 (suc-le-suc zero-le), leads-least v n s h (le_of_suc-le-suc l) (λ y m. f (suc y) (suc-le-suc m)))

-- the whole blocks that end before the first cell below a level pass for a run at it
pub front-run : (len v r : ℕ) (b : List ℕ) → 1 ≤ len → v ≤ 255 → v ≢ 0 → length b ≡ run → r ≤ run → Leads v b r
    → (r / len ≤ run / len) × (r / len * len ≤ run) × RunAt v (take (r / len * len) b)
front-run len v r b g h o n l f =
    let e : r / len * len ≤ r = div-mul-le_self r len in (
      (le-div_iff_mul-le {k = len} {x = r / len} {y = run} g).1 (omega arith),
      omega arith,
      (leads-least v (r / len * len) b h (omega arith) (λ x m. f x (omega arith)), λ z. absurd (o z)),
    )

-- no block at all passes for a run at any level
pub front-none : (len v step : ℕ) (b : List ℕ) → v ≤ 255 → (0 ≤ step) × (0 * len ≤ run) × RunAt v (take (0 * len) b)
unfolding least_of greatest_of
front-none len v step b h =
    let z : 0 ≡ 0 * len = omega arith in
    (omega arith, omega arith, subst (λ (n : ℕ). RunAt v (take n b)) z (h, λ e. refl))

-- ---- the blocks of a run

-- from a number up to the same number no block is passed over
pub past-none : (len v from : ℕ) (cells : List ℕ) → RunFrom len v cells from from
past-none len v from cells x a b = absurd (omega arith)

-- where the blocks up to block j are passed over and a run begins with block j, the whole blocks of the run are passed over too
pub past_more : (len v blocks n from j : ℕ) (cells : List ℕ) → blocks * len ≤ n → j * len + n ≤ length cells
    → RunAt v (take n (drop (j * len) cells)) → RunFrom len v cells from j → RunFrom len v cells from (j + blocks)
unfolding block
past_more len v blocks n from j cells h l g f x a b = go (dec_lt x j)
  where
    go : Dec (x < j) → (len * v ≤ sum (take len (drop (x * len) cells))) × (v ≡ 0 → sum (take len (drop (x * len) cells)) ≡ 0)
    go (yes p) = f x a p
    go (no p) =
        let c : ℕ = (x - j) * len in
        let s : j + (x - j) ≡ x = omega arith in
        let e : j * len + c ≡ x * len = sym (add-mul j (x - j) len) ∙ ap (λ (y : ℕ). y * len) s in
        let r : c + len ≤ n = omega (arith, block-fits len (x - j) blocks (omega arith)) in
        let t : length (take n (drop (j * len) cells)) ≡ n = length-take-le n (drop (j * len) cells) (omega (arith, length-drop (j * len) cells)) in
        let q : part c len (part (j * len) n cells) ≡ part (x * len) len cells = part-part (j * len) n c len cells r ∙ ap (λ (y : ℕ). part y len cells) e in
        subst (λ (b : List ℕ). (len * v ≤ sum b) × (v ≡ 0 → sum b ≡ 0)) q (
          part-weight v c len (take n (drop (j * len) cells)) g.0 (omega arith),
          λ z. part-nothing c len (take n (drop (j * len) cells)) (greatest-low 0 (take n (drop (j * len) cells)) (omega (arith, g.1 z))),
        )
