-- Laws of s and w: what the searches for the number of stages and for the width of an index block find. Assumes nothing.
use Rattle.std.specs.Prelude.{◌≡◌, refl, ℕ, zero, suc, ◌+◌, ◌*◌, ◌%◌, ◌^◌, ◌≤◌, ◌<◌}
use Rattle.std.proofs.Common.{sym, ap, ◌∙◌, lt_irrefl, le_antisymm, one-mul, pow-suc, not-suc-le-zero, arith, lit<, pow_mono, shl_exact}
use Rattle.std.proofs.Math.Nat.{mul-mod_left, mul-div_left, pow-le-pow_left}
use Rattle.std.proofs.Math.Decide.{ℕ_discrete, dec_le}
use Rattle.std.proofs.Math.Pow.{pow-lt}
use Rattle.std.specs.Int.Count.{count_trailing_zeros}
use Rattle.rules.specs.Search.{Found, at, nowhere}
use Rattle.rules.specs.SearchLaws.{First, hit, miss, first-is, first-eq, first-hit}
use Rattle.rules.specs.Accept.{most_bits, most_stages, place_of, stages_of, index_width}

-- a number is below that power of two
pub below-pow : (v : ℕ) → v < 2 ^ v
below-pow zero = omega arith
below-pow (suc v) = omega (arith, below-pow v)

-- the s that is found, where it is above 0, is one with 2 ^ s = k
pub stages-is : (k : ℕ) → 0 < stages_of k → (stages_of k ≤ most_stages) × (2 ^ stages_of k ≡ k)
unfolding stages_of
stages-is k = go (first-is (λ s. ℕ_discrete (2 ^ s) k) (suc most_stages))
  where
    go : {f : Found} → First (λ s. 2 ^ s ≡ k) (suc most_stages) f → 0 < place_of f → (place_of f ≤ most_stages) × (2 ^ place_of f ≡ k)
    go (hit s l e b) h = (omega arith, e)
    go (miss b) h = absurd (not-suc-le-zero h)

-- so an s of at least 2 is of 4 to 64 bits
pub stages-bits : (k s : ℕ) → s ≡ stages_of k → 2 ≤ s → (s ≤ most_stages) × (4 ≤ k) × (k ≤ most_bits)
stages-bits k s e h =
    let f = stages-is k (omega arith) in
    let p : 2 ^ s ≡ k = rw e f.1 in
    let l : s ≤ most_stages = omega (arith, f.0) in
    (l, rw (sym p) (pow_mono h), rw (sym p) (pow_mono l))

-- 1 shifted by e is 2 ^ e
pub shifted : (e : ℕ) → e < 64 → (1 * 2 ^ e) % 2 ^ 64 ≡ 2 ^ e
shifted e h = let l : 1 + e ≤ 64 = omega arith in shl_exact {a = 1} 1 e 64 (lit< tt) l ∙ one-mul (2 ^ e)

-- the zeros below the only digit of 2 ^ s are s
trailing-pow : (d s : ℕ) → s < d → count_trailing_zeros d (2 ^ s) ≡ s
unfolding count_trailing_zeros
trailing-pow zero s h = omega arith
trailing-pow (suc d) zero h = refl
trailing-pow (suc d) (suc s) h = rw (pow-suc 2 s, mul-mod_left (2 ^ s) 2, mul-div_left (2 ^ s) (lit< tt)) (ap suc (trailing-pow d s (omega arith)))

-- an s up to 6 with 2 ^ s = k is the one that is found
pub stages-only : (k s : ℕ) → s ≤ most_stages → 2 ^ s ≡ k → stages_of k ≡ s
unfolding stages_of
stages-only k s h e = ap place_of (first-eq (λ s. ℕ_discrete (2 ^ s) k) (suc most_stages) (hit s (omega arith) e (λ i l g. lt_irrefl (2 ^ i) (rw (e ∙ sym g) at (pow-lt l)))))

-- s is the number of zeros below the lowest digit of k, where that is at most 6 and k has no other digit
pub stages-zeros : (k : ℕ) → count_trailing_zeros 64 k ≤ most_stages → 2 ^ count_trailing_zeros 64 k ≡ k → stages_of k ≡ count_trailing_zeros 64 k
stages-zeros k h e = stages-only k (count_trailing_zeros 64 k) h e

-- there is no s otherwise
pub stages-none : (k : ℕ) → (count_trailing_zeros 64 k ≤ most_stages → ¬ (2 ^ count_trailing_zeros 64 k ≡ k)) → stages_of k ≡ 0
unfolding stages_of
stages-none k h = ap place_of (first-eq (λ s. ℕ_discrete (2 ^ s) k) (suc most_stages) (miss none))
  where
    none : (s : ℕ) → s < suc most_stages → ¬ (2 ^ s ≡ k)
    none s l e =
        let z : count_trailing_zeros 64 k ≡ s = ap (count_trailing_zeros 64) (sym e) ∙ trailing-pow 64 s (omega arith) in
        h (omega arith) (ap (λ t. 2 ^ t) z ∙ e)

-- k + 1 digits hold every index, so the search for the width ends
width-reaches : (L k : ℕ) → 1 ≤ L → k + 2 ≤ suc L ^ (k + 1)
width-reaches L k h =
    let g : 2 ≤ suc L = omega arith in
    omega (arith, below-pow (k + 1), pow-le-pow_left g (k + 1))

-- so what it finds is the first width that is enough
width-first : (L k : ℕ) → 1 ≤ L → First (λ w. k + 2 ≤ suc L ^ w) (k + 2) (at (index_width L k))
unfolding index_width
width-first L k h = go (first-is (λ w. dec_le (k + 2) (suc L ^ w)) (k + 2))
  where
    go : {f : Found} → First (λ w. k + 2 ≤ suc L ^ w) (k + 2) f → First (λ w. k + 2 ≤ suc L ^ w) (k + 2) (at (place_of f))
    go (hit j l p b) = hit j l p b
    go (miss b) = absurd (b (k + 1) (omega arith) (width-reaches L k h))

-- w digits are enough for k + 2 numbers
pub width-enough : (L k : ℕ) → 1 ≤ L → k + 2 ≤ suc L ^ index_width L k
width-enough L k h = go (width-first L k h)
  where
    go : {w : ℕ} → First (λ v. k + 2 ≤ suc L ^ v) (k + 2) (at w) → k + 2 ≤ suc L ^ w
    go (hit w l p b) = p

-- and no fewer are
pub width-least : (L k : ℕ) → 1 ≤ L → (v : ℕ) → k + 2 ≤ suc L ^ v → index_width L k ≤ v
width-least L k h v g = go (width-first L k h)
  where
    go : {w : ℕ} → First (λ v. k + 2 ≤ suc L ^ v) (k + 2) (at w) → w ≤ v
    go (hit w l p b) = let q : ¬ (v < w) = λ q. b v q g in omega arith

-- so a least width is the one that is found
pub width-only : (L k w : ℕ) → 1 ≤ L → k + 2 ≤ suc L ^ w → ((v : ℕ) → k + 2 ≤ suc L ^ v → w ≤ v) → index_width L k ≡ w
width-only L k w h e f = le_antisymm (width-least L k h w e) (f (index_width L k) (width-enough L k h))

-- the width is small
pub width-below : (L k : ℕ) → 1 ≤ L → index_width L k < k + 2
width-below L k h = go (width-first L k h)
  where
    go : {w : ℕ} → First (λ v. k + 2 ≤ suc L ^ v) (k + 2) (at w) → w < k + 2
    go (hit w l p b) = l

-- whoever finds no shorter width and this one enough has the width
pub width_is : (L k w : ℕ) → First (λ v. k + 2 ≤ suc L ^ v) w nowhere → w < k + 2 → k + 2 ≤ suc L ^ w → index_width L k ≡ w
unfolding index_width
width_is L k w f l h = ap place_of (first-eq (λ v. dec_le (k + 2) (suc L ^ v)) (k + 2) (first-hit (k + 2) f l h))
