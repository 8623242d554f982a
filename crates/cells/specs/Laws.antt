-- Laws that users of runs of cells cite: a test that answers true or false, cells that are all 0, the greatest level, and blocks that are passed over. Assumes nothing.
use Rattle.std.specs.Prelude.{Bool, true, false, List, [], ◌∷◌, ◌≢◌, ◌≡◌, refl, ℕ, ◌*◌, ◌≤◌, ◌<◌, drop, length, replicate, take}
use Rattle.std.proofs.Common.{◌∙◌, ap, mul-le-mul_right, arith, length-take}
use Rattle.laws.specs.Cut.{low-block}
use Rattle.laws.specs.Lists.{low-drop, low-take, sum_low, sum-replicate, sum-zero}
use Rattle.rules.specs.Cells.{Low, block, same?, sum}
use Rattle.rules.specs.Search.{pick}
use Rattle.cells.specs.Meaning.{RunFrom, greatest_of}

-- ---- a test that answers true or false

-- an answer that is true exactly where A holds is true: so A holds
pub test-true : {A : Type 0} (d : Dec A) {r : Bool} → r ≡ pick d true false → r ≡ true → A
test-true (yes a) p e = a
test-true (no h) p e = let z : ◌≡◌ {A = ℕ} 0 1 = cc in absurd (omega arith)

-- an answer that is true exactly where A holds is false: so A does not hold
pub test-false : {A : Type 0} (d : Dec A) {r : Bool} → r ≡ pick d true false → r ≡ false → ¬ A
test-false (yes a) p e h = let z : ◌≡◌ {A = ℕ} 0 1 = cc in omega arith
test-false (no h) p e x = h x

-- ---- cells that are all 0, or not

-- cells that are answered all 0 have the sum 0
pub zero-sum : (b : List ℕ) → pick (same? b (replicate (length b) 0)) true false ≡ true → sum b ≡ 0
zero-sum b t = ap sum (test-true (same? b (replicate (length b) 0)) refl t) ∙ sum-replicate (length b) 0 ∙ omega arith

-- cells that are answered not all 0 have a sum above 0
pub some-sum : (b : List ℕ) → pick (same? b (replicate (length b) 0)) true false ≡ false → 0 < sum b
some-sum b t =
    let n : sum b ≢ 0 = λ e. test-false (same? b (replicate (length b) 0)) refl t (sum-zero b e) in
    omega arith

-- any part of cells at level 0 weighs nothing
pub part-nothing : (a n : ℕ) (s : List ℕ) → Low 0 s → sum (take n (drop a s)) ≡ 0
part-nothing a n s h = omega (arith, sum_low 0 (take n (drop a s)) (low-take 0 n (drop a s) (low-drop 0 a s h)))

-- ---- the greatest level

-- where the greatest level is at most L, no level is above L
pub greatest-low : (L : ℕ) (s : List ℕ) → greatest_of s ≤ L → Low L s
unfolding greatest_of
greatest-low L [] h = tt
greatest-low L (x ∷ s) h = (omega arith, greatest-low L s (omega arith))

-- ---- full blocks

-- a block of at most len cells that weighs what a full one does, or more, is full
pub heavy-full : (len L : ℕ) (b : List ℕ) → length b ≤ len → Low L b → len * L ≤ sum b → sum b ≡ len * L
heavy-full len L b h l g = omega (arith, sum_low L b l, mul-le-mul_right {m = length b} {n = len} L h)

-- where no level is above L, the blocks passed over at level L are full
pub past-full : (len L from to : ℕ) (cells : List ℕ) → Low L cells → RunFrom len L cells from to → (x : ℕ) → from ≤ x → x < to → sum (block len cells x) ≡ len * L
unfolding block
past-full len L from to cells l f x a b =
    heavy-full len L (block len cells x) (omega (arith, length-take len (drop (x * len) cells))) (low-block L len cells x l) (f x a b).0
