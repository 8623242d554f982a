-- Levels above a floor: how the cells of a stage's index blocks stand above the lowest level that the stage uses, and the laws of it (02, K9). Assumes nothing.
use Rattle.std.specs.Prelude.{◌≡◌, refl, List, [], ◌∷◌, ◌++◌, ℕ, zero, suc, ◌+◌, ◌-◌, ◌*◌, ◌<◌, ◌≤◌, drop, get_or, length, replicate, take}
use Rattle.std.proofs.Common.{◌∙◌, ap, ap₂, zero-le, le_of_suc-le-suc, not-suc-le-zero, arith}
use Rattle.std.proofs.Math.Nat.{suc_inj}
use Rattle.rules.specs.Cells.{Rises, block, sum, Low}

-- ---- the words

-- how far the cells stand above b, in all
abbrev pub over : ℕ → List ℕ → ℕ
over b [] = 0
over b (x ∷ xs) = (x - b) + over b xs

-- the cells less b
abbrev pub less : ℕ → List ℕ → List ℕ
less b [] = []
less b (x ∷ xs) = (x - b) ∷ less b xs

-- the cells with b more
abbrev pub plus : ℕ → List ℕ → List ℕ
plus b [] = []
plus b (x ∷ xs) = (b + x) ∷ plus b xs

-- every cell is at b or at most `step` above
abbrev pub Steady : ℕ → ℕ → List ℕ → Type 0
Steady step b [] = Unit {0}
Steady step b (x ∷ xs) = ((b ≤ x) × (x ≤ b + step)) × Steady step b xs

-- ---- their laws

-- there are as many cells with b more
pub length-plus : (b : ℕ) (xs : List ℕ) → length (plus b xs) ≡ length xs
length-plus b [] = refl
length-plus b (x ∷ xs) = ap suc (length-plus b xs)

-- there are as many cells less b
pub length-less : (b : ℕ) (xs : List ℕ) → length (less b xs) ≡ length xs
length-less b [] = refl
length-less b (x ∷ xs) = ap suc (length-less b xs)

-- cells at b or at most `step` above are at most `step` once b is taken off
pub less-low : (step b : ℕ) (xs : List ℕ) → Steady step b xs → Low step (less b xs)
less-low step b [] h = tt
less-low step b (x ∷ xs) h = (omega (arith, h.0), less-low step b xs h.1)

-- and conversely
pub plus-steady : (step b : ℕ) (xs : List ℕ) → Low step xs → Steady step b (plus b xs)
plus-steady step b [] h = tt
plus-steady step b (x ∷ xs) h = ((omega arith, omega (arith, h.0)), plus-steady step b xs h.1)

-- they are low where the highest of them is
pub steady-low : (step b L : ℕ) (xs : List ℕ) → b + step ≤ L → Steady step b xs → Low L xs
steady-low step b L [] l h = tt
steady-low step b L (x ∷ xs) l h = (omega (arith, h.0), steady-low step b L xs l h.1)

-- cells of which none is above b rise to cells at b or above
pub rises-base : (b : ℕ) (xs ys : List ℕ) → length xs ≡ length ys → over b xs ≡ 0 → Rises xs (plus b ys)
rises-base b [] ys e h c = zero-le
rises-base b (x ∷ xs) [] e h c = absurd (omega arith)
rises-base b (x ∷ xs) (y ∷ ys) e h zero = omega arith
rises-base b (x ∷ xs) (y ∷ ys) e h (suc c) = rises-base b xs ys (suc_inj e) (omega arith) c

-- what stands above b is what is left when b is taken off
pub over-less : (b : ℕ) (xs : List ℕ) → over b xs ≡ sum (less b xs)
over-less b [] = refl
over-less b (x ∷ xs) = omega (arith, over-less b xs)

-- low cells are at 0 or at most L above it
pub low-steady : (L : ℕ) (xs : List ℕ) → Low L xs → Steady L 0 xs
low-steady L [] h = tt
low-steady L (x ∷ xs) h = ((zero-le, omega (arith, h.0)), low-steady L xs h.1)

-- ---- at floor 0

-- cells less 0 are the cells
pub less-nothing : (xs : List ℕ) → less 0 xs ≡ xs
less-nothing [] = refl
less-nothing (x ∷ xs) = ap₂ (λ (y : ℕ) (r : List ℕ). y ∷ r) (omega arith) (less-nothing xs)

-- cells with 0 more are the cells
pub plus-nothing : (xs : List ℕ) → plus 0 xs ≡ xs
plus-nothing [] = refl
plus-nothing (x ∷ xs) = ap₂ (λ (y : ℕ) (r : List ℕ). y ∷ r) (omega arith) (plus-nothing xs)

-- what stands above 0 is the sum
pub over_nothing : (xs : List ℕ) → over 0 xs ≡ sum xs
over_nothing xs = over-less 0 xs ∙ ap sum (less-nothing xs)

-- cells at 0 or at most L above it are low
pub steady-nothing : (L : ℕ) (xs : List ℕ) → Steady L 0 xs → Low L xs
steady-nothing L xs h = steady-low L 0 L xs (omega arith) h

-- ---- cell by cell, and in parts

-- a cell less b
pub get_or-less : (b : ℕ) (xs : List ℕ) (c : ℕ) → get_or (less b xs) c 0 ≡ get_or xs c 0 - b
get_or-less b [] c = omega arith
get_or-less b (x ∷ xs) zero = refl
get_or-less b (x ∷ xs) (suc c) = get_or-less b xs c

-- a cell is at b or at most `step` above
pub steady-at : (step b : ℕ) (xs : List ℕ) → Steady step b xs → (c : ℕ) → c < length xs → (b ≤ get_or xs c 0) × (get_or xs c 0 ≤ b + step)
steady-at step b [] h c l = absurd (not-suc-le-zero l)
steady-at step b (x ∷ xs) h zero l = h.0
steady-at step b (x ∷ xs) h (suc c) l = steady-at step b xs h.1 c (le_of_suc-le-suc l)

-- two lists one after the other, with b more
pub plus-append : (b : ℕ) (xs ys : List ℕ) → plus b (xs ++ ys) ≡ plus b xs ++ plus b ys
plus-append b [] ys = refl
plus-append b (x ∷ xs) ys = ap (λ (r : List ℕ). (b + x) ∷ r) (plus-append b xs ys)

-- n times a, with b more
pub plus-replicate : (b n a : ℕ) → plus b (replicate n a) ≡ replicate n (b + a)
plus-replicate b zero a = refl
plus-replicate b (suc n) a = ap (λ (r : List ℕ). (b + a) ∷ r) (plus-replicate b n a)

-- the first cells, at b or at most `step` above
pub steady-take : (step b n : ℕ) (xs : List ℕ) → Steady step b xs → Steady step b (take n xs)
steady-take step b zero xs h = tt
steady-take step b (suc n) [] h = tt
steady-take step b (suc n) (x ∷ xs) h = (h.0, steady-take step b n xs h.1)

-- the cells past n, at b or at most `step` above
pub steady-drop : (step b n : ℕ) (xs : List ℕ) → Steady step b xs → Steady step b (drop n xs)
steady-drop step b zero xs h = h
steady-drop step b (suc n) [] h = tt
steady-drop step b (suc n) (x ∷ xs) h = steady-drop step b n xs h.1

-- a block's cells, at b or at most `step` above
pub steady-block : (step b w : ℕ) (xs : List ℕ) (j : ℕ) → Steady step b xs → Steady step b (block w xs j)
unfolding block
steady-block step b w xs j h = steady-take step b w (drop (j * w) xs) (steady-drop step b (j * w) xs h)
