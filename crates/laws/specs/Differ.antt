-- How many cells differ: of lists one after the other, and where a run of cells is replaced. Assumes nothing.
use Rattle.std.specs.Prelude.{List, [], ◌∷◌, ◌++◌, ◌≡◌, refl, ℕ, suc, ◌+◌, ◌≤◌, length, take, drop}
use Rattle.std.proofs.Common.{◌∙◌, ap, ap₂, sym, arith, length-drop, take-append-drop, length-take-le}
use Rattle.std.proofs.Math.Decide.{ℕ_discrete}
use Rattle.laws.specs.Lists.{rises-still}
use Rattle.laws.specs.Splice.{part, spliced}
use Rattle.rules.specs.Cells.{Rises, sum}
use Rattle.rules.specs.Search.{pick}
use Rattle.rules.specs.SearchLaws.{pick-elim, pick_yes}

-- how many cells differ in level
abbrev pub differ : List ℕ → List ℕ → ℕ
differ [] ys = 0
differ (x ∷ xs) [] = 0
differ (x ∷ xs) (y ∷ ys) = pick (ℕ_discrete x y) (differ xs ys) (suc (differ xs ys))

-- cells that are the same
pub differ_same : (xs : List ℕ) → differ xs xs ≡ 0
differ_same [] = refl
differ_same (x ∷ xs) = pick_yes (ℕ_discrete x x) (differ xs xs) (suc (differ xs xs)) refl ∙ differ_same xs

-- of two pairs of lists, one after the other
pub differ-append : (ws xs ys zs : List ℕ) → length ws ≡ length xs → differ (ws ++ ys) (xs ++ zs) ≡ differ ws xs + differ ys zs
differ-append [] [] ys zs e = omega arith
differ-append [] (x ∷ xs) ys zs e = absurd (omega arith)
differ-append (w ∷ ws) [] ys zs e = absurd (omega arith)
differ-append (w ∷ ws) (x ∷ xs) ys zs e =
    let ih : differ (ws ++ ys) (xs ++ zs) ≡ differ ws xs + differ ys zs = differ-append ws xs ys zs (omega arith) in
    elim (ℕ_discrete w x) as (λ d. pick d (differ (ws ++ ys) (xs ++ zs)) (suc (differ (ws ++ ys) (xs ++ zs))) ≡ pick d (differ ws xs) (suc (differ ws xs)) + differ ys zs) [
      | yes q ↦ ih
      | no q ↦ omega (arith, ih)
    ]

-- a run of cells replaced: as many as differ in the run
pub differ-spliced : (a : ℕ) (b f : List ℕ) → a + length b ≤ length f → differ f (spliced a b f) ≡ differ (part a (length b) f) b
unfolding spliced
differ-spliced a b f h =
    let n : ℕ = length b in
    let g : n ≤ length (drop a f) = omega (arith, length-drop a f) in
    let e : f ≡ take a f ++ (take n (drop a f) ++ drop n (drop a f)) = sym (ap (λ (r : List ℕ). take a f ++ r) (take-append-drop n (drop a f)) ∙ take-append-drop a f) in
    ap (λ (r : List ℕ). differ r (spliced a b f)) e
    ∙ differ-append (take a f) (take a f) (take n (drop a f) ++ drop n (drop a f)) (b ++ drop n (drop a f)) refl
    ∙ ap₂ (λ (x y : ℕ). x + y) (differ_same (take a f))
    (differ-append (take n (drop a f)) b (drop n (drop a f)) (drop n (drop a f)) (length-take-le n (drop a f) g) ∙ ap (λ (y : ℕ). differ (take n (drop a f)) b + y) (differ_same (drop n (drop a f))))
    ∙ omega arith

-- 1 where two levels differ, else 0
abbrev pub apart : ℕ → ℕ → ℕ
apart x y = pick (ℕ_discrete x y) 0 1

-- one cell in front of others: one more differs, if it does
pub differ-cons : (x y : ℕ) (xs ys : List ℕ) → differ (x ∷ xs) (y ∷ ys) ≡ differ xs ys + apart x y
differ-cons x y xs ys =
    elim (ℕ_discrete x y) as (λ d. pick d (differ xs ys) (suc (differ xs ys)) ≡ differ xs ys + pick d 0 1) [
      | yes q ↦ omega arith
      | no q ↦ omega arith
    ]

-- a list that rises by one in sum differs in one cell
pub differ-one : (xs ys : List ℕ) → length xs ≡ length ys → Rises xs ys → sum ys ≡ suc (sum xs) → differ xs ys ≡ 1
differ-one [] [] e h s = absurd (omega arith)
differ-one [] (y ∷ ys) e h s = absurd (omega arith)
differ-one (x ∷ xs) [] e h s = absurd (omega arith)
differ-one (x ∷ xs) (y ∷ ys) e h s = pick-elim (λ n. n ≡ 1) (ℕ_discrete x y) (differ xs ys) (suc (differ xs ys))
    (λ q. differ-one xs ys (omega arith) (λ c. h (suc c)) (omega arith))
    (λ q. let z : ys ≡ xs = rises-still xs ys (omega arith) (λ c. h (suc c)) (omega (arith, h 0)) in omega (arith, ap (differ xs) z, differ_same xs))

-- no more cells differ than there are
pub differ-most : (xs ys : List ℕ) → differ xs ys ≤ length xs
differ-most [] ys = omega arith
differ-most (x ∷ xs) [] = omega arith
differ-most (x ∷ xs) (y ∷ ys) = pick-elim (λ n. n ≤ suc (length xs)) (ℕ_discrete x y) (differ xs ys) (suc (differ xs ys)) (λ q. omega (arith, differ-most xs ys)) (λ q. omega (arith, differ-most xs ys))
