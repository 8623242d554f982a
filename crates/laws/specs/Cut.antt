-- A list cut into blocks of w cells: reading block j, storing block j, and what that does to the other blocks, the rest and the sum.
-- Serves the blocks of k cells, the parity blocks of a stage and the index blocks alike. Assumes nothing.
use mathlib.Core.List.{List, ◌++◌, append_assoc}
use Rattle.std.specs.Prelude.{◌≢◌, ◌≡◌}
use Rattle.std.proofs.Common.{◌∙◌, add-sub_of_le, le_refl, mul-le-mul, suc-mul, zero-mul, drop_at, take-add}
use Rattle.std.proofs.Math.Path.{ap, ap₂, refl, subst, sym}
use Prim.Native.Nat.{◌*◌, ◌+◌, ◌-◌, ◌<◌, ◌≤◌, suc, zero, ℕ}
use Rattle.std.proofs.Math.Decide.{dec_lt}
use Rattle.std.proofs.Math.Nat.{mul-le-mul_right}
use native.Mathlib.Omega.{arith}
use Rattle.std.proofs.Math.ListN.{drop, length, length-append, length-drop, take, take-append-drop}
use Rattle.std.proofs.Math.Seq.{drop-append-add, drop-drop, length-take-le, take_at}
use Rattle.std.proofs.lemmas.List.{drop-append-le, take-append-le}
use Rattle.laws.specs.Lists.{low-append, low-drop, low-take, rises-append, rises-same, sum-append}
use Rattle.rules.specs.Cells.{Low, Rises, block, store, sum}

-- block j of n blocks ends where they do, or before
pub block-fits : (w j n : ℕ) → j < n → j * w + w ≤ n * w
block-fits w j n h = omega (arith, mul-le-mul_right {m = suc j} {n = n} w h)

-- n blocks of two cells or more have two cells each at the least
pub blocks-cells : (w n : ℕ) → 2 ≤ w → n * 2 ≤ n * w
blocks-cells w n h = let g : n ≤ n = omega arith in mul-le-mul g h

-- the cells from j times w to j times w + w, as a part lent on, are block j
pub part-block : (w : ℕ) (xs : List ℕ) (j : ℕ) → take (j * w + w - j * w) (drop (j * w) xs) ≡ block w xs j
unfolding block
part-block w xs j = let q : j * w + w - j * w ≡ w = omega arith in ap (λ (n : ℕ). take n (drop (j * w) xs)) q

-- no level of a block is above L
pub low-block : (L w : ℕ) (xs : List ℕ) (j : ℕ) → Low L xs → Low L (block w xs j)
unfolding block
low-block L w xs j h = low-take L w (drop (j * w) xs) (low-drop L (j * w) xs h)

-- nor of cells with a block stored
pub low-store : (L w : ℕ) (xs : List ℕ) (j : ℕ) (b : List ℕ) → Low L xs → Low L b → Low L (store w xs j b)
unfolding store
low-store L w xs j b h l = low-append L (take (j * w) xs) (b ++ drop (j * w + w) xs) (low-take L (j * w) xs h) (low-append L b (drop (j * w + w) xs) l (low-drop L (j * w + w) xs h))

-- two lists with one front, or with one back at the same place, have the same blocks there
front : (w x : ℕ) (p q : List ℕ) → x * w + w ≤ length p → block w (p ++ q) x ≡ block w p x
unfolding block
front w x p q h =
    ap (take w) (drop-append-le (x * w) p q (omega arith))
    ∙ take-append-le w (drop (x * w) p) q (omega (arith, length-drop (x * w) p))

past : (n : ℕ) (p q : List ℕ) → length p ≤ n → drop n (p ++ q) ≡ drop (n - length p) q
past n p q h = ap (λ (x : ℕ). drop x (p ++ q)) (sym (add-sub_of_le h)) ∙ drop-append-add p q (n - length p)

module _ (w : ℕ) (xs : List ℕ) (j : ℕ) (fits : j * w + w ≤ length xs) where
  at_front : length (take (j * w) xs) ≡ j * w
  at_front = length-take-le (j * w) xs (omega arith)

  -- a block has w cells
  pub length-block : length (block w xs j) ≡ w
  unfolding block
  length-block = length-take-le w (drop (j * w) xs) (omega (arith, length-drop (j * w) xs))

  -- storing what is there changes nothing
  pub store-back : store w xs j (block w xs j) ≡ xs
  unfolding block store
  store-back =
      ap (λ (r : List ℕ). take (j * w) xs ++ (take w (drop (j * w) xs) ++ r)) (sym (drop-drop w (j * w) xs))
      ∙ ap (λ (r : List ℕ). take (j * w) xs ++ r) (take-append-drop w (drop (j * w) xs))
      ∙ take-append-drop (j * w) xs

  module _ (b : List ℕ) (e : length b ≡ w) where
    pub store_same : block w (store w xs j b) j ≡ b
    unfolding block store
    store_same =
        ap (take w) (drop_at (take (j * w) xs) (b ++ drop (j * w + w) xs) (j * w) at_front)
        ∙ take_at b (drop (j * w + w) xs) w e

    -- what lies past block j stays
    pub store-past : (n : ℕ) → j * w + w ≤ n → drop n (store w xs j b) ≡ drop n xs
    unfolding store
    store-past n h =
        let a : length (take (j * w) xs ++ b) ≡ j * w + w = omega (arith, length-append (take (j * w) xs) b, at_front) in
        let c : j * w + w + (n - length (take (j * w) xs ++ b)) ≡ n = omega arith in
        ap (drop n) (sym (append_assoc (take (j * w) xs) b (drop (j * w + w) xs)))
        ∙ past n (take (j * w) xs ++ b) (drop (j * w + w) xs) (omega arith)
        ∙ drop-drop (n - length (take (j * w) xs ++ b)) (j * w + w) xs
        ∙ ap (λ (x : ℕ). drop x xs) c

    -- a block stored twice holds what was stored last
    pub store-twice : (c : List ℕ) → store w (store w xs j b) j c ≡ store w xs j c
    unfolding store
    store-twice c = ap₂ (λ (p q : List ℕ). p ++ (c ++ q)) (take_at (take (j * w) xs) (b ++ drop (j * w + w) xs) (j * w) at_front) (store-past (j * w + w) (le_refl (j * w + w)))

    -- there are as many cells as before
    pub length-store : length (store w xs j b) ≡ length xs
    unfolding store
    length-store = omega (arith, length-append (take (j * w) xs) (b ++ drop (j * w + w) xs), length-append b (drop (j * w + w) xs), at_front, length-drop (j * w + w) xs)

    -- no other block moves
    pub store_other : (x : ℕ) → x ≢ j → block w (store w xs j b) x ≡ block w xs x
    unfolding block store
    store_other x d = go (dec_lt x j)
      where
        go : Dec (x < j) → block w (store w xs j b) x ≡ block w xs x
        go (yes l) =
            let h : x * w + w ≤ length (take (j * w) xs) = omega (arith, at_front, mul-le-mul_right {m = suc x} {n = j} w l) in
            front w x (take (j * w) xs) (b ++ drop (j * w + w) xs) h
            ∙ sym (front w x (take (j * w) xs) (drop (j * w) xs) h)
            ∙ ap (λ (r : List ℕ). block w r x) (take-append-drop (j * w) xs)
        go (no l) = ap (take w) (store-past (x * w) (omega (arith, mul-le-mul_right {m = suc j} {n = x} w (omega arith))))

    -- the sum changes by the block's
    pub store-sum : sum (store w xs j b) + sum (block w xs j) ≡ sum xs + sum b
    unfolding store
    store-sum =
        let p : List ℕ = take (j * w) xs in
        let q : List ℕ = drop (j * w + w) xs in
        let e₀ : sum (p ++ (block w xs j ++ q)) ≡ sum xs = ap sum store-back in
        omega (arith, e₀, sum-append p (b ++ q), sum-append b q, sum-append p (block w xs j ++ q), sum-append (block w xs j) q)

    -- where the block's levels do not fall, none falls
    pub store-rises : Rises (block w xs j) b → Rises xs (store w xs j b)
    unfolding store
    store-rises h = subst (λ (r : List ℕ). Rises r (store w xs j b)) store-back
        (rises-append (take (j * w) xs) (take (j * w) xs) (block w xs j ++ drop (j * w + w) xs) (b ++ drop (j * w + w) xs) refl (rises-same (take (j * w) xs))
        (rises-append (block w xs j) b (drop (j * w + w) xs) (drop (j * w + w) xs) (length-block ∙ sym e) h (rises-same (drop (j * w + w) xs))))

-- ---- the sum of the first m blocks

-- the sum of the first m blocks
abbrev pub block_sum : ℕ → List ℕ → ℕ → ℕ
block_sum w xs zero = 0
block_sum w xs (suc m) = block_sum w xs m + sum (block w xs m)

-- is that of their cells
pub sum-blocks : (w m : ℕ) (xs : List ℕ) → sum (take (m * w) xs) ≡ block_sum w xs m
unfolding block
sum-blocks w zero xs = ap (λ (n : ℕ). sum (take n xs)) (zero-mul w)
sum-blocks w (suc m) xs =
    ap (λ (n : ℕ). sum (take n xs)) (suc-mul m w)
    ∙ ap sum (take-add (m * w) w xs)
    ∙ sum-append (take (m * w) xs) (take w (drop (m * w) xs))
    ∙ ap (λ (n : ℕ). n + sum (take w (drop (m * w) xs))) (sum-blocks w m xs)

-- and of what lies past them
pub sum-split : (n : ℕ) (xs : List ℕ) → sum xs ≡ sum (take n xs) + sum (drop n xs)
sum-split n xs = ap sum (sym (take-append-drop n xs)) ∙ sum-append (take n xs) (drop n xs)
