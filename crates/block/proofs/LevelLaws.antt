-- Laws of one level higher than another, and of cells above 0, at the top level and between, the middles: how many there are, and what that says of the sum. Assumes nothing.
use Rattle.std.proofs.Common.{◌≡◌, ℕ, suc, ◌+◌, ◌-◌, ◌*◌, ◌<◌, ◌≤◌, min, List, [], ◌∷◌, length, refl, ap, zero-le, suc-mul, arith}
use mathlib.Core.Logic.{dite}
use native.Mathlib.Decide.{dec_lt, ℕ_discrete}
use Rattle.laws.specs.Lists.{sum_low}
use Rattle.rules.specs.Cells.{Low, sum}
use Rattle.block.specs.Meaning.{higher, nonzero, tops}

-- ---- the middles

-- how many cells are between 0 and L
unfoldable pub middles : ℕ → List ℕ → ℕ
middles L [] = 0
middles L (x ∷ xs) = min 1 (min x (L - x)) + middles L xs

-- ---- one level higher than another

-- a level that is higher than another counts as 1
pub higher-yes : (a x : ℕ) → a < x → higher a x ≡ 1
unfolding higher
higher-yes a x h = omega arith

-- a level that is not higher than another counts as 0
pub higher-no : (a x : ℕ) → x ≤ a → higher a x ≡ 0
unfolding higher
higher-no a x h = omega arith

-- ---- how many cells, and their sum

-- where no cell is above 0 the sum is 0
pub nonzero-none : (xs : List ℕ) → nonzero xs ≡ 0 → sum xs ≡ 0
unfolding higher nonzero
nonzero-none [] e = refl
nonzero-none (x ∷ xs) e = omega (arith, nonzero-none xs (omega arith))

-- the cells above 0 are no more than the sum
pub nonzero-some : (xs : List ℕ) → nonzero xs ≤ sum xs
unfolding higher nonzero
nonzero-some [] = zero-le
nonzero-some (x ∷ xs) = omega (arith, nonzero-some xs)

module _ (L : ℕ) where
  -- the cells at the top level are no more than all cells
  pub tops-few : (xs : List ℕ) → tops L xs ≤ length xs
  unfolding higher tops
  tops-few [] = zero-le
  tops-few (x ∷ xs) = omega (arith, tops-few xs)

  -- L for each cell at the top level is no more than the sum
  tops-least : (xs : List ℕ) → tops L xs * L ≤ sum xs
  unfolding tops
  tops-least [] = omega arith
  tops-least (x ∷ xs) = go (dec_lt x L) (tops-least xs)
    where
      go : Dec (x < L) → tops L xs * L ≤ sum xs → (1 - higher x L + tops L xs) * L ≤ x + sum xs
      go (yes l) h = let e : 1 - higher x L + tops L xs ≡ tops L xs = omega (arith, higher-yes x L l) in rw e (omega arith)
      go (no l) h = let e : 1 - higher x L + tops L xs ≡ suc (tops L xs) = omega (arith, higher-no x L (omega arith)) in rw (e, suc-mul (tops L xs) L) (omega arith)

  -- the sum is no more than L for each cell above 0, and each middle takes one at least from that
  nonzero-most : (xs : List ℕ) → Low L xs → sum xs + middles L xs ≤ nonzero xs * L
  unfolding nonzero middles
  nonzero-most [] h = omega arith
  nonzero-most (x ∷ xs) h = go (dec_lt 0 x) h.0 (nonzero-most xs h.1)
    where
      go : Dec (0 < x) → x ≤ L → sum xs + middles L xs ≤ nonzero xs * L → x + sum xs + (min 1 (min x (L - x)) + middles L xs) ≤ (higher 0 x + nonzero xs) * L
      go (yes p) le q = let e : higher 0 x + nonzero xs ≡ suc (nonzero xs) = omega (arith, higher-yes 0 x p) in rw (e, suc-mul (nonzero xs) L) (omega arith)
      go (no p) le q = let e : higher 0 x + nonzero xs ≡ nonzero xs = omega (arith, higher-no 0 x (omega arith)) in rw e (omega arith)

  -- where all cells are at the top level the sum is as great as can be
  pub tops-all : (xs : List ℕ) → Low L xs → tops L xs ≡ length xs → sum xs ≡ length xs * L
  tops-all xs h e = omega (arith, sum_low L xs h, ap (λ (n : ℕ). n * L) e, tops-least xs)

  -- each cell that is not at the top level takes one at least from the greatest sum
  pub tops-some : (xs : List ℕ) → Low L xs → sum xs + (length xs - tops L xs) ≤ length xs * L
  unfolding higher tops
  tops-some [] h = zero-le
  tops-some (x ∷ xs) h =
      let le : x ≤ L = h.0 in
      omega (arith, tops-few xs, tops-some xs h.1)

  module _ (g : 0 < L) where
    -- a cell above 0 is at the top level or a middle
    nonzero-is-either : (x : ℕ) → higher 0 x ≡ 1 - higher x L + min 1 (min x (L - x))
    nonzero-is-either x = go (dec_lt 0 x) (dec_lt x L)
      where
        go : Dec (0 < x) → Dec (x < L) → higher 0 x ≡ 1 - higher x L + min 1 (min x (L - x))
        go (yes p) (yes l) = omega (arith, higher-yes 0 x p, higher-yes x L l)
        go (yes p) (no l) = omega (arith, higher-yes 0 x p, higher-no x L (omega arith))
        go (no p) d = omega (arith, higher-no 0 x (omega arith), higher-yes x L (omega arith))

    -- the cells above 0 are those at the top level and the middles
    pub nonzero-are : (xs : List ℕ) → nonzero xs ≡ tops L xs + middles L xs
    unfolding nonzero tops middles
    nonzero-are [] = refl
    nonzero-are (x ∷ xs) = omega (arith, nonzero-is-either x, nonzero-are xs)

    -- with at most one middle the sum is L for each cell at the top level, and less than L more
    pub tops-rest : (xs : List ℕ) → Low L xs → middles L xs ≤ 1 → (tops L xs * L ≤ sum xs) × (sum xs < tops L xs * L + L)
    tops-rest xs h m = (tops-least xs, dite (ℕ_discrete (middles L xs) 0) none one)
      where
        none : middles L xs ≡ 0 → sum xs < tops L xs * L + L
        none e = let n : nonzero xs ≡ tops L xs = omega (arith, nonzero-are xs) in omega (arith, ap (λ (c : ℕ). c * L) n, nonzero-most xs h)

        one : ¬ (middles L xs ≡ 0) → sum xs < tops L xs * L + L
        one e = let n : nonzero xs ≡ suc (tops L xs) = omega (arith, nonzero-are xs) in omega (arith, ap (λ (c : ℕ). c * L) n, suc-mul (tops L xs) L, nonzero-most xs h)
