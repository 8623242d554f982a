-- Laws of the stage: what the greatest level of a region says of it, where the regions after it are all 0. Assumes nothing.
use Rattle.std.specs.Prelude.{List, [], ◌∷◌, ◌≡◌, ◌%◌, ◌*◌, ◌+◌, ◌-◌, ◌/◌, ◌<◌, ◌≤◌, max, suc, ℕ, length, replicate, take}
use Rattle.std.proofs.Common.{◌∙◌, ap, subst, sym, zero-le, div-add-mod', div-lt_iff_lt-mul, div-mul-le_self, div-one, le-div_iff_mul-le, mul-le-mul_right, arith}
use Rattle.std.proofs.Math.Decide.{dec_lt, ℕ_discrete}
use Rattle.std.proofs.Math.Nat.{lt-div-mul-add, mod-one}
use Rattle.std.proofs.Math.Arith.{digits_div, digits_mod}
use Rattle.laws.specs.Cut.{block-fits, low-block}
use Rattle.laws.specs.Lists.{low-replicate}
use Rattle.laws.specs.Regions.{over, over_nothing}
use Rattle.laws.specs.Splice.{part, part-part}
use Rattle.cells.specs.Meaning.{greatest_of}
use Rattle.rules.specs.Cells.{Low, block, sum}
use Rattle.rules.specs.Search.{Found, at, first, nowhere}
use Rattle.rules.specs.SearchLaws.{First, first-eq, first-is, first-unique, hit, miss}
use Rattle.index.specs.Meaning.{Above, RegionsFit, stage_left}

-- ---- the greatest level and what stands above a level

-- where something stands above b, so does the greatest level
over-greatest : (b : ℕ) (xs : List ℕ) → 0 < over b xs → b < greatest_of xs
unfolding greatest_of
over-greatest b [] h = absurd (omega arith)
over-greatest b (x ∷ xs) h = go (dec_lt 0 (over b xs)) (λ q. over-greatest b xs q)
  where
    go : Dec (0 < over b xs) → (0 < over b xs → b < greatest_of xs) → b < max x (greatest_of xs)
    go (yes q) f = omega (arith, f q)
    go (no q) f = omega arith

-- and conversely
greatest-over : (b : ℕ) (xs : List ℕ) → b < greatest_of xs → 0 < over b xs
unfolding greatest_of
greatest-over b [] h = absurd (omega arith)
greatest-over b (x ∷ xs) h = go (dec_lt b x) (λ q. greatest-over b xs q)
  where
    go : Dec (b < x) → (b < greatest_of xs → 0 < over b xs) → 0 < (x - b) + over b xs
    go (yes q) f = omega arith
    go (no q) f = omega (arith, f (omega arith))

-- the greatest of levels of which none is above L is at most L
low-greatest : (L : ℕ) (xs : List ℕ) → Low L xs → greatest_of xs ≤ L
unfolding greatest_of
low-greatest L [] h = zero-le
low-greatest L (x ∷ xs) h = omega (arith, h.0, low-greatest L xs h.1)

-- ---- the stage

-- whoever shows what an answer means has the stage
stage_is : (cells stages per step : ℕ) (xs : List ℕ) {f : Found} → First (Above cells stages per step xs) stages f → f ≡ stage_left cells stages per step xs
stage_is cells stages per step xs h = sym (first-eq (λ d. dec_lt 0 (over ((stages - 1 - d) % per * step) (block cells xs ((stages - 1 - d) / per)))) stages h)

-- the regions from g on are all 0
abbrev pub DarkFrom : ℕ → ℕ → List ℕ → ℕ → Type 0
DarkFrom cells regions xs g = (x : ℕ) → g ≤ x → x < regions → greatest_of (block cells xs x) ≡ 0

-- past the last region there is none
pub dark-none : (cells regions : ℕ) (xs : List ℕ) → DarkFrom cells regions xs regions
dark-none cells regions xs x h l = absurd (omega arith)

-- one region more that is all 0
pub dark-more : (cells regions : ℕ) (xs : List ℕ) (g : ℕ) → 0 < g → DarkFrom cells regions xs g → greatest_of (block cells xs (g - 1)) ≡ 0 → DarkFrom cells regions xs (g - 1)
dark-more cells regions xs g p z e x h l = go (ℕ_discrete x (g - 1))
  where
    go : Dec (x ≡ g - 1) → greatest_of (block cells xs x) ≡ 0
    go (yes q) = ap (λ (y : ℕ). greatest_of (block cells xs y)) q ∙ e
    go (no q) = z x (omega arith) l

-- cells that are all 0 have regions that are
pub dark-all : (cells regions n : ℕ) (xs : List ℕ) → take (regions * cells) xs ≡ replicate n 0 → DarkFrom cells regions xs 0
unfolding block
dark-all cells regions n xs e x h l =
    let o : 0 + x * cells ≡ x * cells = omega arith in
    let q : part (x * cells) cells (part 0 (regions * cells) xs) ≡ part (x * cells) cells xs =
    part-part 0 (regions * cells) (x * cells) cells xs (block-fits cells x regions l) ∙ ap (λ (a : ℕ). part a cells xs) o in
    let z : Low 0 (part (x * cells) cells (take (regions * cells) xs)) = low-block 0 cells (take (regions * cells) xs) x (subst (Low 0) (sym e) (low-replicate 0 n 0 zero-le)) in
    omega (arith, low-greatest 0 (part (x * cells) cells xs) (subst (Low 0) q z))

module _ {cells regions stages per step : ℕ} {xs : List ℕ} (f : RegionsFit cells regions stages per step xs) where
  -- the region of a place is one of the regions
  in-region : (p : ℕ) → p < stages → p / per < regions
  in-region p l =
      let s : suc (p / per) * per ≤ stages + per - 1 = omega (arith, div-mul-le_self p per, f.some) in
      subst (λ (r : ℕ). p / per < r) (sym f.served) ((le-div_iff_mul-le f.some).1 s)

  -- and the first place of a region is one of the places
  pub first-place : (g : ℕ) → g < regions → g * per < stages
  first-place g l = omega (arith, (le-div_iff_mul-le f.some).0 (subst (λ (r : ℕ). g < r) f.served l), f.some)

  -- of a region that is all 0 no stage is the stage
  unlit : (p : ℕ) → greatest_of (block cells xs (p / per)) ≡ 0 → ¬ (0 < over (p % per * step) (block cells xs (p / per)))
  unlit p z h = omega (arith, over-greatest (p % per * step) (block cells xs (p / per)) h)

  -- where all regions are 0, it is stage 0
  pub stage-dark : DarkFrom cells regions xs 0 → nowhere ≡ stage_left cells stages per step xs
  stage-dark z = stage_is cells stages per step xs (miss (λ d l. unlit (stages - 1 - d) (z ((stages - 1 - d) / per) zero-le (in-region (stages - 1 - d) (omega arith)))))

  module _ (g : ℕ) (z : DarkFrom cells regions xs (suc g)) where
    -- the last place of region g whose floor is below its greatest level
    stage_at : (p : ℕ) → p < stages → p / per ≡ g → p % per * step < greatest_of (block cells xs g)
        → ((i : ℕ) → p < i → i < stages → i / per ≡ g → greatest_of (block cells xs g) ≤ i % per * step) → at (stages - 1 - p) ≡ stage_left cells stages per step xs
    stage_at p l e h b = stage_is cells stages per step xs (hit (stages - 1 - p) (omega arith) lit (λ d n. past (stages - 1 - d) (omega arith) (omega arith)))
      where
        back : stages - 1 - (stages - 1 - p) ≡ p
        back = omega arith

        lit : Above cells stages per step xs (stages - 1 - p)
        lit =
            subst (λ (y : ℕ). 0 < over (y % per * step) (block cells xs (y / per))) (sym back)
            (greatest-over (p % per * step) (block cells xs (p / per)) (subst (λ (y : ℕ). p % per * step < greatest_of (block cells xs y)) (sym e) h))

        past : (i : ℕ) → p < i → i < stages → ¬ (0 < over (i % per * step) (block cells xs (i / per)))
        past i n m = go (ℕ_discrete (i / per) g)
          where
            from : g ≤ i / per
            from = (le-div_iff_mul-le f.some).1 (omega (arith, div-mul-le_self p per, ap (λ (y : ℕ). y * per) e))

            go : Dec (i / per ≡ g) → ¬ (0 < over (i % per * step) (block cells xs (i / per)))
            go (yes q) o = omega (arith, over-greatest (i % per * step) (block cells xs (i / per)) o, ap (λ (y : ℕ). greatest_of (block cells xs y)) q, b i n m q)
            go (no q) o = unlit i (z (i / per) (omega (arith, from)) (in-region i m)) o

    module _ (h : ℕ) (e : h ≡ greatest_of (block cells xs g)) (some : 0 < h) where
      -- the last stage of region g whose floor is below h, counted from the region's first
      under : (h - 1) / step * step < h
      under = omega (arith, div-mul-le_self (h - 1) step)

      over-next : h ≤ (h - 1) / step * step + step
      over-next = omega (arith, lt-div-mul-add {a = h - 1} {b = step} f.up)

      -- it is one of the stages that a region serves
      served : (h - 1) / step < per
      served = (div-lt_iff_lt-mul {k = step} {x = h - 1} {y = per} f.up).1 (omega (arith, low-greatest (per * step) (block cells xs g) (low-block (per * step) cells xs g f.low)))

      -- where it is one of the stages, it is the stage
      pub stage-found : g * per + (h - 1) / step < stages → at (stages - 1 - (g * per + (h - 1) / step)) ≡ stage_left cells stages per step xs
      stage-found l =
          stage_at (g * per + (h - 1) / step) l (digits_div g served) (rw (digits_mod g served) (omega (arith, under)))
          (λ i n m q.
          let k : suc ((h - 1) / step) ≤ i % per = omega (arith, div-add-mod' i per, ap (λ (y : ℕ). y * per) q) in
          omega (arith, over-next, mul-le-mul_right {m = suc ((h - 1) / step)} {n = i % per} step k))

      -- and where it is past the last stage, that is the stage
      pub stage-last : g < regions → stages ≤ g * per + (h - 1) / step → at 0 ≡ stage_left cells stages per step xs
      stage-last l n =
          let r : ℕ = stages - 1 - g * per in
          let t : r < per = omega (arith, served, first-place g l) in
          let p : stages - 1 ≡ g * per + r = omega (arith, first-place g l) in
          let c : (stages - 1) % per ≡ r = ap (λ (y : ℕ). y % per) p ∙ digits_mod g t in
          let k : r ≤ (h - 1) / step = omega arith in
          let o : stages - 1 - (stages - 1) ≡ 0 = omega arith in
          ap at (sym o)
          ∙ stage_at (stages - 1) (omega (arith, first-place g l)) (ap (λ (y : ℕ). y / per) p ∙ digits_div g t)
          (omega (arith, ap (λ (y : ℕ). y * step) c, under, mul-le-mul_right {m = r} {n = (h - 1) / step} step k)) (λ i a b. absurd (omega arith))

-- ---- a region for each stage

-- there are as many regions as stages
pub regions-one : (n : ℕ) → (n + 1 - 1) / 1 ≡ n
regions-one n = div-one (n + 1 - 1) ∙ omega arith

-- what the look for the stage asks of n batches, each of which has all L levels for its one stage
pub batches-fit : (cells n L : ℕ) (xs : List ℕ) → n * cells ≤ length xs → n ≤ 65536 → 1 ≤ L → Low L xs → RegionsFit cells n n 1 L xs
batches-fit cells n L xs h f u l =
    let e : L ≡ 1 * L = omega arith in
    record { served = sym (regions-one n); inside = h; few = f; some = omega arith; up = u; low = subst (λ (x : ℕ). Low x xs) e l }

-- the stage is the last one of which a cell stands above 0
pub stage-one : (cells n L : ℕ) (xs : List ℕ) → stage_left cells n 1 L xs ≡ first (λ d. dec_lt 0 (sum (block cells xs (n - 1 - d)))) n
stage-one cells n L xs =
    first-unique (λ d l h. subst (λ (y : ℕ). 0 < y) (same d) h) (λ d l h. subst (λ (y : ℕ). 0 < y) (sym (same d)) h)
    (first-is (λ d. dec_lt 0 (over ((n - 1 - d) % 1 * L) (block cells xs ((n - 1 - d) / 1)))) n) (first-is (λ d. dec_lt 0 (sum (block cells xs (n - 1 - d)))) n)
  where
    same : (d : ℕ) → over ((n - 1 - d) % 1 * L) (block cells xs ((n - 1 - d) / 1)) ≡ sum (block cells xs (n - 1 - d))
    same d =
        let z : 0 * L ≡ 0 = omega arith in
        ap (λ (y : ℕ). over (y * L) (block cells xs ((n - 1 - d) / 1))) (mod-one (n - 1 - d))
        ∙ ap (λ (y : ℕ). over y (block cells xs ((n - 1 - d) / 1))) z
        ∙ ap (λ (y : ℕ). over 0 (block cells xs y)) (div-one (n - 1 - d))
        ∙ over_nothing (block cells xs (n - 1 - d))
