-- Laws of what is worked out of accepted settings: the guarantee, where the batches stand, and that all of it is small. Assumes nothing.
use Rattle.std.specs.Prelude.{◌≡◌, ℕ, ◌+◌, ◌-◌, ◌*◌, ◌^◌, ◌≤◌, ◌<◌}
use Rattle.std.proofs.Common.{⊎_elim, mul-le-mul, mul-le-mul_left, mul-le-mul_right, le_trans, arith, pow_mono}
use Rattle.std.proofs.Math.Decide.{dec_le, dec_lt}
use Rattle.rules.specs.Search.{both?}
use Rattle.rules.specs.SearchLaws.{pick_yes, pick_no}
use Rattle.rules.specs.Batches.{batch_cells, index_cells}
use Rattle.rules.specs.Accept.{most_bits, most_top, most_cells, most_stages, Genuine, genuine?, guarantee, reported, batch_start}
use Rattle.rules.specs.declared.Settings.{Settings}
use Rattle.rules.specs.StagesLaws.{below-pow}
use Rattle.rules.specs.AcceptLaws.{PlainFacts, StagedFacts, CommonFacts, genuine-facts, staged-bits}

-- ---- what is worked out of accepted settings is small

-- the m blocks have at most 16,384 cells
pub blocks-most : (r : Settings) → CommonFacts r → r.m * r.k ≤ most_cells
blocks-most r f = le_trans f.inside f.cells-most

-- the m blocks hold at most 16,384 * 255 levels
pub levels-most : (r : Settings) → CommonFacts r → r.m * r.k * r.top ≤ most_cells * most_top
levels-most r f = mul-le-mul (blocks-most r f) f.top-most

-- 2L + s - 1 is at most kL, with k = j + 2 and s below k
fits_bits : (j s L : ℕ) → s ≤ j + 1 → 1 ≤ L → 2 * L + s - 1 ≤ (j + 2) * L
fits_bits j s L h l = omega (arith, mul-le-mul_left j l)

-- k - 1 times at most kL is below mk_l, with k = j + 1 at most m
fits-blocks : (j c L m : ℕ) → 1 ≤ L → j + 1 ≤ m → c ≤ (j + 1) * L → j * c < m * (j + 1) * L
fits-blocks j c L m l h f = omega (arith, mul-le-mul_left j f, mul-le-mul_right ((j + 1) * L) h, mul-le-mul_left (j + 1) l)

-- what kind 1's guarantee takes off is less than the levels of the m blocks
pub stages-cost : (r : Settings) → StagedFacts r → (r.k - 1) * (2 * r.top + r.s - 1) < r.m * r.k * r.top
stages-cost r f =
    let b : 4 ≤ r.k = (staged-bits r f).0 in
    let e : r.k - 1 + 1 ≡ r.k = omega arith in
    let e₂ : r.k - 2 + 2 ≡ r.k = omega arith in
    let h : r.s ≤ r.k - 2 + 1 = omega (arith, below-pow r.s, f.bits) in
    let c : 2 * r.top + r.s - 1 ≤ (r.k - 1 + 1) * r.top = rw e (rw e₂ at (fits_bits (r.k - 2) r.s r.top h f.top_least)) in
    let g : r.k - 1 + 1 ≤ r.m = omega (arith, f.room) in
    rw e at (fits-blocks (r.k - 1) (2 * r.top + r.s - 1) r.top r.m f.top_least g c)

-- and is small
pub stages-cost-most : (r : Settings) → StagedFacts r → (r.k - 1) * (2 * r.top + r.s - 1) ≤ most_bits * (2 * most_top + most_stages)
stages-cost-most r f =
    let h : r.k - 1 ≤ most_bits = omega (arith, (staged-bits r f).1) in
    let g : 2 * r.top + r.s - 1 ≤ 2 * most_top + most_stages = omega (arith, f.top-most, f.stages-most) in
    mul-le-mul h g

-- so are the cells that kind 0's guarantee counts
pub counted-cells : (r : Settings) → CommonFacts r → (r.m - r.k + 1) * r.k ≤ most_cells
counted-cells r f =
    let h : r.m - r.k + 1 ≤ r.m = omega arith in
    le_trans (mul-le-mul_right r.k h) (blocks-most r f)

-- and their levels
pub counted-levels : (r : Settings) → CommonFacts r → (r.m - r.k + 1) * r.k * r.top ≤ most_cells * most_top
counted-levels r f = mul-le-mul (counted-cells r f) f.top-most

-- ---- the guarantee

-- the formula of kind 0
pub guarantee-plain : (r : Settings) → PlainFacts r → guarantee r ≡ (r.m - r.k + 1) * r.k * r.top + r.k - 1
unfolding guarantee
guarantee-plain r f = rw f.plain

-- the formula of kind 1
pub guarantee-staged : (r : Settings) → StagedFacts r → guarantee r ≡ r.m * r.k * r.top - (r.k - 1) * (2 * r.top + r.s - 1)
unfolding guarantee
guarantee-staged r f = rw f.staged

-- the guarantee is above 0
pub guarantee-pos : (r : Settings) → Genuine r → 0 < guarantee r
guarantee-pos r g =
    ⊎_elim
    (λ f. rw (guarantee-plain r f) (omega (arith, f.bits-least)))
    (λ f. rw (guarantee-staged r f) (omega (arith, stages-cost r f)))
    (genuine-facts r g)

-- ---- what a record reports

-- a genuine record reports its numbers
pub reported-is : (r : Settings) (x : ℕ) → Genuine r → reported r x ≡ x
unfolding reported
reported-is r x g = pick_yes (genuine? r) x _ g

-- and any other 0
pub reported-none : (r : Settings) (x : ℕ) → ¬ (Genuine r) → reported r x ≡ 0
unfolding reported
reported-none r x h = pick_no (genuine? r) x 0 h

-- ---- batches

-- where a batch from 1 to s - 1 starts
pub batch-start-is : (r : Settings) (b : ℕ) → Genuine r → 1 ≤ b → b < r.s → batch_start r b ≡ r.m * r.k + (b - 1) * batch_cells r.s r.w
unfolding batch_start
batch-start-is r b g l h = pick_yes (both? (genuine? r) (both? (dec_le 1 b) (dec_lt b r.s))) _ 0 (g, (l, h))

-- any other starts at 0
pub batch-start-none : (r : Settings) (b : ℕ) → (Genuine r → 1 ≤ b → ¬ (b < r.s)) → batch_start r b ≡ 0
unfolding batch_start
batch-start-none r b h = pick_no (both? (genuine? r) (both? (dec_le 1 b) (dec_lt b r.s))) _ 0 (λ p. h p.0 p.1.0 p.1.1)

-- the batches from 1 to s - 1 stand inside the sheet, one after the other
pub batch-inside : (r : Settings) → StagedFacts r → (b : ℕ) → 1 ≤ b → b < r.s → r.m * r.k + (b - 1) * batch_cells r.s r.w + batch_cells r.s r.w ≤ r.n
batch-inside r f b l h =
    let g : b - 1 + 1 ≤ r.s - 1 = omega arith in
    omega (arith, f.inside, mul-le-mul_right (batch_cells r.s r.w) g)

-- a batch has at most 2 * 64 * 66 cells
pub batch-most : (s w : ℕ) → s ≤ most_stages → w ≤ most_bits + 2 → batch_cells s w ≤ 2 * most_bits * (most_bits + 2)
batch-most s w h g =
    let p : 2 * (2 ^ s - 1) ≤ 2 * most_bits = omega (arith, pow_mono h) in
    mul-le-mul p g

-- and all of them 6 times that
pub index-most : (s w : ℕ) → s ≤ most_stages → w ≤ most_bits + 2 → index_cells s w ≤ most_stages * (2 * most_bits * (most_bits + 2))
index-most s w h g =
    let p : s - 1 ≤ most_stages = omega arith in
    mul-le-mul p (batch-most s w h g)
