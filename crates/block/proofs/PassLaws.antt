-- Laws of a pass over a block: the first cell held against the last closes its shape. Assumes nothing.
use Rattle.std.proofs.Common.{◌≡◌, ℕ, ◌+◌, ◌%◌, ◌<◌, ◌≤◌, List, [], ◌∷◌, length, get_or, drop, refl, ap, not-suc-le-zero, arith, drop_of_length-le}
use native.Mathlib.Decide.{dec_lt}
use Rattle.rules.specs.Cells.{sum}
use Rattle.rules.specs.Search.{pick}
use Rattle.rules.specs.SearchLaws.{pick-elim}
use Rattle.block.specs.Meaning.{higher, last_of, nonzero, rise_cells, rises, shape_of, tops}

-- the rises from a level that no cell is above, and the first cell held against the last, are the rises of the block
rises-closed : (a : ℕ) (b : List ℕ) → 1 ≤ length b → get_or b 0 0 ≤ a → rises a b + higher (last_of a b) (get_or b 0 0) ≡ rises (last_of 0 b) b
unfolding higher rises last_of
rises-closed a [] h l = absurd (not-suc-le-zero h)
rises-closed a (x ∷ xs) h l = omega arith

-- number 0 adds nothing, whether or not cell 0 rises
cell-zero : {A : Type 0} (d : Dec A) → pick {B = ℕ} d 0 0 ≡ 0
cell-zero d = pick-elim (λ (n : ℕ). n ≡ 0) d 0 0 (λ h. refl) (λ h. refl)

-- the numbers of the cells that rise add up to the same, whatever comes before cell 0
cells-any : (a c : ℕ) (b : List ℕ) → rise_cells 0 a b ≡ rise_cells 0 c b
unfolding rise_cells
cells-any a c [] = refl
cells-any a c (x ∷ xs) = omega (arith, cell-zero (dec_lt a x), cell-zero (dec_lt c x))

-- past the last cell nothing is left to add, and the first held against the last makes the shape whole
pub shape-whole : (L a i n f s r t v : ℕ) (b : List ℕ) → 1 ≤ length b → get_or b 0 0 ≤ 255 → length b ≤ i → s < 256 → v < 256
    → rises 255 b ≡ n + rises a (drop i b)
    → rise_cells 0 255 b % 256 ≡ (s + rise_cells i a (drop i b)) % 256
    → nonzero b ≡ r + nonzero (drop i b)
    → tops L b ≡ t + tops L (drop i b)
    → sum b % 256 ≡ (v + sum (drop i b)) % 256
    → last_of 255 b ≡ last_of a (drop i b)
    → f ≡ n + higher a (get_or b 0 0)
    → record { rises = f; start = s; nonzero = r; tops = t; total = v } ≡ shape_of L b
unfolding rises rise_cells nonzero tops last_of
shape-whole L a i n f s r t v b some byte h bs bv up cells high top all last e =
    let o = drop_of_length-le b h in
    let k : last_of 255 b ≡ a = rw o at last in
    let x : f ≡ rises (last_of 0 b) b = omega (arith, ap (λ (c : ℕ). higher c (get_or b 0 0)) k, rises-closed 255 b some byte, rw o at up) in
    let y : s ≡ rise_cells 0 (last_of 0 b) b % 256 = omega (arith, cells-any 255 (last_of 0 b) b, rw o at cells) in
    let z : r ≡ nonzero b = omega (arith, rw o at high) in
    let w : t ≡ tops L b = omega (arith, rw o at top) in
    let q : v ≡ sum b % 256 = omega (arith, rw o at all) in
    rw (x, y, z, w, q)
