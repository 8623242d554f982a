-- Laws of what it needs to write cells over others: from the last cell back, one level raised, a run replaced. Assumes nothing.
use Rattle.std.specs.Prelude.{List, ◌∷◌, ◌++◌, ◌≡◌, refl, ℕ, suc, ◌+◌, ◌-◌, ◌<◌, ◌≤◌, length, get_or, take, drop}
use Rattle.std.proofs.Common.{◌∙◌, ap, ap₂, subst, sym, arith, drop-cons}
use Rattle.std.proofs.Math.Seq.{drop-append-add, drop-length}
use Rattle.laws.specs.Differ.{apart, differ, differ-append, differ-cons, differ-one, differ-spliced}
use Rattle.laws.specs.Lists.{sum-append}
use Rattle.laws.specs.Put.{spliced-past}
use Rattle.laws.specs.Splice.{part, spliced, sum-spliced}
use Rattle.rules.specs.Cells.{Rises, sum}
use Rattle.plan.specs.Meaning.{Needs, NeedsMore}
use Rattle.plan.specs.declared.Need.{Need}

-- past the last cell nothing is needed
pub needs-none : (xs ys : List ℕ) → length ys ≡ length xs → Needs (drop (length xs) xs) (drop (length xs) ys) (record { cells = 0; levels = 0 })
needs-none xs ys e = rw (drop-length xs, sym (ap (λ (n : ℕ). drop n ys) e) ∙ drop-length ys) (record { cells = refl; levels = refl })

-- one cell before others, raised to v
needs-cons : (xs ys : List ℕ) (j c l v : ℕ) → j < length xs → length ys ≡ length xs → get_or ys j 0 ≡ v → get_or xs j 0 ≤ v
    → Needs (drop (suc j) xs) (drop (suc j) ys) (record { cells = c; levels = l })
    → Needs (drop j xs) (drop j ys) (record { cells = c + apart (get_or xs j 0) v; levels = l + (v - get_or xs j 0) })
needs-cons xs ys j c l v h e q r n =
    let a : drop j xs ≡ get_or xs j 0 ∷ drop (suc j) xs = drop-cons xs j 0 h in
    let b : drop j ys ≡ v ∷ drop (suc j) ys = drop-cons ys j 0 (omega arith) ∙ ap (λ (y : ℕ). y ∷ drop (suc j) ys) q in
    rw (a, b) (record {
      cells = omega (arith, n.cells, differ-cons (get_or xs j 0) v (drop (suc j) xs) (drop (suc j) ys));
      levels = omega (arith, n.levels);
    })

-- what a loop from the last cell back adds: the cell before cell i, which is raised to v
pub needs-turn : (xs ys : List ℕ) (i c l v : ℕ) → 0 < i → i ≤ length xs → length ys ≡ length xs → get_or ys (i - 1) 0 ≡ v → get_or xs (i - 1) 0 ≤ v
    → Needs (drop i xs) (drop i ys) (record { cells = c; levels = l })
    → Needs (drop (i - 1) xs) (drop (i - 1) ys) (record { cells = c + apart (get_or xs (i - 1) 0) v; levels = l + (v - get_or xs (i - 1) 0) })
needs-turn xs ys i c l v p h e q r n =
    let s : i ≡ suc (i - 1) = omega arith in
    needs-cons xs ys (i - 1) c l v (omega arith) e q r (subst (λ (x : ℕ). Needs (drop x xs) (drop x ys) (record { cells = c; levels = l })) s n)

-- one level raised is one cell
pub needs-one : (xs ys : List ℕ) → length xs ≡ length ys → Rises xs ys → sum ys ≡ suc (sum xs) → Needs xs ys (record { cells = 1; levels = 1 })
needs-one xs ys e h s = record { cells = sym (differ-one xs ys e h s); levels = omega arith }

-- a run of cells replaced
pub needs-spliced : (a w : ℕ) (b f : List ℕ) (n : Need) → length b ≡ w → a + w ≤ length f → NeedsMore 0 (part a w f) b n → Needs f (spliced a b f) n
needs-spliced a w b f n e h k =
    let g : part a (length b) f ≡ part a w f = ap (λ (x : ℕ). part a x f) e in
    record {
      cells = k.cells ∙ omega (arith, differ-spliced a b f (omega arith), ap (λ (x : List ℕ). differ x b) g);
      levels = omega (arith, k.levels, sum-spliced a b f, ap sum g);
    }

-- a run replaced past a front in which one level is raised
pub needs-past : (p q g : List ℕ) (a w : ℕ) (b : List ℕ) (n : Need) → length p ≡ length q → Rises p q → sum q ≡ suc (sum p) → length b ≡ w → length p ≤ a → a + w ≤ length p + length g
    → NeedsMore 1 (part a w (p ++ g)) b n → Needs (p ++ g) (spliced a b (q ++ g)) n
needs-past p q g a w b n e h s l m o k =
    let c : ℕ = a - length p in
    let z : spliced a b (q ++ g) ≡ q ++ spliced c b g = spliced-past q a c b g (omega arith) in
    let x : a ≡ length p + c = omega arith in
    let y : part a w (p ++ g) ≡ part c (length b) g = ap₂ (λ (x t : ℕ). take t (drop x (p ++ g))) x (sym l) ∙ ap (take (length b)) (drop-append-add p g c) in
    record {
      cells = k.cells ∙ omega (arith, ap (differ (p ++ g)) z, differ-append p q g (spliced c b g) e, differ-one p q e h s, differ-spliced c b g (omega arith), ap (λ (x : List ℕ). differ x b) y);
      levels = omega (arith, k.levels, ap sum z, sum-append p g, sum-append q (spliced c b g), sum-spliced c b g, ap sum y);
    }
