-- Laws of the first cell above a level, of cells that are all 0, and of levels folded from the first on. Assumes nothing.
use mathlib.Core.Bool.{Bool, true, false}
use mathlib.Core.List.{List, [], ◌∷◌}
use mathlib.Core.Path.{◌≡◌, ◌∙◌, ap, refl, sym}
use Prim.Native.Nat.{ℕ, zero, suc, ◌+◌, ◌-◌, ◌≤◌, ◌<◌, max, min}
use native.Mathlib.Decide.{dec_lt}
use native.Mathlib.Omega.{arith}
use borrow.Author.Tests.{eq-eqb, ltb-false, ltb-true, ne_eqb}
use lib.Dec.{eqb}
use lib.ListN.{length, get_or, replicate}
use Rattle.std.specs.Prelude.{Some, None, cond, nat_lt, position}
use Rattle.std.specs.List.{fold, position_or_len, sum_by}
use Rattle.std.proofs.lemmas.List.Sums.{fails_before_first, passes_at_first}
use Rattle.laws.specs.Lists.{low-at, sum_low, sum-zero}
use Rattle.rules.specs.Cells.{Low, first_above, same?, sum}
use Rattle.rules.specs.Search.{Found, as_found, nowhere, pick}
use Rattle.rules.specs.SearchLaws.{First, hit, miss, first-eq, pick-elim}
use Rattle.cells.specs.Laws.{greatest-low}
use Rattle.cells.proofs.RunLaws.{least-small}
use Rattle.cells.specs.Meaning.{greatest_of, least_of}

-- ---- the first cell above L

-- an answer that means the first cell above L is it
pub above-is : (L : ℕ) (s : List ℕ) {f : Found} → First (λ c. L < get_or s c 0) (length s) f → f ≡ first_above L s
unfolding first_above
above-is L s h = sym (first-eq (λ c. dec_lt L (get_or s c 0)) (length s) h)

-- the first place whose level is tested to be above L is that of the first cell above L
pub position-above : (L : ℕ) (s : List ℕ) → as_found (position (λ x. nat_lt L x) s) ≡ first_above L s
position-above L s = above-is L s (go (nat_lt n (length s)) refl)
  where
    n : ℕ
    n = position_or_len (λ x. nat_lt L x) s

    below : (i : ℕ) → L < get_or s i 0 → nat_lt L (get_or s i 0) ≡ false → ⊥
    below i q e = omega (arith, ltb-false L (get_or s i 0) e)

    go : (b : Bool) → nat_lt n (length s) ≡ b → First (λ c. L < get_or s c 0) (length s) (as_found (cond b (Some n) None))
    go true e =
        let l : n < length s = omega (arith, ltb-true n (length s) e) in
        hit n l (ltb-true L (get_or s n 0) (passes_at_first (λ x. nat_lt L x) s 0 l)) (λ i m q. below i q (fails_before_first (λ x. nat_lt L x) s i 0 m))
    go false e = miss (λ i l q. below i q (fails_before_first (λ x. nat_lt L x) s i 0 (omega (arith, ltb-false n (length s) e))))

-- where no level is above L, no cell is found above L
pub low-fine : (L : ℕ) (s : List ℕ) → Low L s → first_above L s ≡ nowhere
low-fine L s h = sym (above-is L s (miss (λ c l q. omega (arith, low-at L s h c))))

-- ---- cells that are all 0

-- cells whose greatest is 0 are all 0
greatest-zero : (s : List ℕ) → greatest_of s ≡ 0 → s ≡ replicate (length s) 0
greatest-zero s e = sum-zero s (omega (arith, sum_low 0 s (greatest-low 0 s (omega arith))))

-- the greatest of cells that are all 0 is 0
zero-greatest : (n : ℕ) → greatest_of (replicate n 0) ≡ 0
unfolding greatest_of
zero-greatest zero = refl
zero-greatest (suc n) = omega (arith, zero-greatest n)

-- the greatest level is 0 exactly if all cells are
pub all-zero-is : (s : List ℕ) → eqb (greatest_of s) 0 ≡ pick (same? s (replicate (length s) 0)) true false
all-zero-is s =
    pick-elim (λ b. eqb (greatest_of s) 0 ≡ b) (same? s (replicate (length s) 0)) true false
    (λ e. eq-eqb (greatest_of s) 0 (ap greatest_of e ∙ zero-greatest (length s)))
    (λ n. ne_eqb (greatest_of s) 0 (λ e. n (greatest-zero s e)))

-- ---- levels folded from the first on

-- the greatest so far, from b on
greatest_from : (b : ℕ) (s : List ℕ) → fold max b s ≡ max b (greatest_of s)
unfolding greatest_of
greatest_from b [] = omega arith
greatest_from b (x ∷ s) = omega (arith, greatest_from (max b x) s)

-- the greatest so far, from 0 on, is the greatest
pub greatest-fold : (s : List ℕ) → fold max 0 s ≡ greatest_of s
greatest-fold s = omega (arith, greatest_from 0 s)

-- the least so far, from b on
least_from : (b : ℕ) (s : List ℕ) → b ≤ 255 → fold min b s ≡ min b (least_of s)
unfolding least_of
least_from b [] h = omega arith
least_from b (x ∷ s) h = omega (arith, least_from (min b x) s (omega arith))

-- the least so far, from 255 on, is the least
pub least-fold : (s : List ℕ) → fold min 255 s ≡ least_of s
least-fold s = omega (arith, least_from 255 s (omega arith), least-small s)

-- the least room so far, from b on
room_from : (b : ℕ) (s : List ℕ) → b ≤ 255 → Low 255 s → fold (λ a x. min a (255 - x)) b s + max (255 - b) (greatest_of s) ≡ 255
unfolding greatest_of
room_from b [] h l = omega arith
room_from b (x ∷ s) h l = omega (arith, room_from (min b (255 - x)) s (omega arith) l.1)

-- the least room so far, from 255 on, is what the greatest leaves of 255
pub room-fold : (s : List ℕ) → Low 255 s → fold (λ a x. min a (255 - x)) 255 s + greatest_of s ≡ 255
room-fold s l = omega (arith, room_from 255 s (omega arith) l)

-- a total from b on
sum_from : (b : ℕ) (s : List ℕ) → fold (λ a x. a + x) b s ≡ b + sum s
sum_from b [] = omega arith
sum_from b (x ∷ s) = omega (arith, sum_from (b + x) s)

-- a total from 0 on is the sum
pub sum-fold : (s : List ℕ) → sum_by (λ x. x) s ≡ sum s
sum-fold s = omega (arith, sum_from 0 s)
