-- An index block as it is lent on, w cells from cell a on, and put back. Assumes nothing.
use Rattle.std.specs.Prelude.{◌≡◌, List, ◌++◌, ℕ, suc, ◌+◌, ◌-◌, ◌*◌, ◌≤◌, length, take, drop, replicate}
use Rattle.std.proofs.Common.{sym, ap, ◌∙◌, subst, mul-le-mul, arith, length-drop, length-take-le}
use Rattle.index.specs.Laws.{cells-nothing, length-cells}
use Rattle.index.specs.Meaning.{Holds, cells_at}
use Rattle.laws.specs.Differ.{differ-most}
use Rattle.laws.specs.Index.{digits_low, length_digits}
use Rattle.laws.specs.Lists.{low-drop, low-take, rises-full, sum_low, sum-replicate}
use Rattle.laws.specs.Splice.{part, spliced, spliced-put}
use Rattle.plan.specs.Meaning.{IndexFits, Needs, NeedsMore}
use Rattle.plan.specs.declared.Need.{Need}
use Rattle.rules.specs.Batches.{digits, entry_cells}
use Rattle.rules.specs.Cells.{Low, Rises, sum}
use Rattle.rules.specs.Stage.{Entry, closed, index}
use Rattle.rules.specs.declared.Settings.{Settings}

-- the levels of an index block, at most
entry-most : (L w : ℕ) (e : Entry) → Holds L w e → sum (entry_cells L w e) ≤ w * L
entry-most L w closed h = omega (arith, sum-replicate w L)
entry-most L w (index u) h = subst (λ (n : ℕ). sum (digits (suc L) w u) ≤ n * L) (length_digits (suc L) w u) (sum_low L (digits (suc L) w u) (digits_low L w u h))

module _ (f : List ℕ) (a w : ℕ) (h : a + w ≤ length f) where
  -- as many cells
  abbrev lent : List ℕ
  lent = take (a + w - a) (drop a f)

  pub lent-part : lent ≡ part a w f
  lent-part = let e : a + w - a ≡ w = omega arith in ap (λ (n : ℕ). take n (drop a f)) e

  pub lent-long : length lent ≡ w
  lent-long = ap length lent-part ∙ length-take-le w (drop a f) (omega (arith, length-drop a f))

  module _ (L : ℕ) (e : Entry) where
    -- what it says, as w cells
    lent-cells : cells_at 0 L (length lent) e ≡ entry_cells L w e
    lent-cells = ap (λ (n : ℕ). cells_at 0 L n e) lent-long ∙ cells-nothing L w e

    -- put back
    pub put-told : (ys : List ℕ) → ys ≡ cells_at 0 L (length lent) e → take a f ++ (ys ++ drop (a + w - a) (drop a f)) ≡ spliced a (entry_cells L w e) f
    put-told ys q =
        let n : a + w - a ≡ w = omega arith in
        ap (λ (c : List ℕ). take a f ++ (c ++ drop (a + w - a) (drop a f))) (q ∙ lent-cells)
        ∙ spliced-put a (a + w - a) (entry_cells L w e) f (sym (ap length (cells-nothing L w e)) ∙ length-cells 0 L w e ∙ sym n)

    -- what setting it asks for
    pub lent-rises : Rises (part a w f) (entry_cells L w e) → Rises lent (cells_at 0 L (length lent) e)
    lent-rises k c = subst (λ (ys : List ℕ). Rises ys (cells_at 0 L (length lent) e)) (sym lent-part) (subst (Rises (part a w f)) (sym lent-cells) k) c

    -- and what it needs, with `up` more
    pub lent-needs : (up : ℕ) (n : Need) → Needs lent (cells_at 0 L (length lent) e) n → NeedsMore up (part a w f) (entry_cells L w e) (record { cells = n.cells + up; levels = n.levels + up })
    lent-needs up n k =
        let q : Needs (part a w f) (entry_cells L w e) n = subst (λ (xs : List ℕ). Needs xs (entry_cells L w e) n) lent-part (subst (λ (ys : List ℕ). Needs lent ys n) lent-cells k) in
        record { cells = omega (arith, q.cells); levels = omega (arith, q.levels) }

    -- which is small
    pub lent-small : (n : Need) → Holds L w e → w ≤ 16384 → L ≤ 255 → Needs lent (cells_at 0 L (length lent) e) n → (n.cells ≤ 16384) × (n.levels ≤ 16384 * 255)
    lent-small n g m k q = (
      omega (arith, q.cells, differ-most lent (cells_at 0 L (length lent) e), lent-long),
      omega (arith, q.levels, ap sum lent-cells, entry-most L w e g, mul-le-mul m k),
    )

  -- raised to full, no level falls
  pub full-rises : (L : ℕ) → Low L f → Rises (part a w f) (replicate w L)
  full-rises L l = subst (λ (n : ℕ). Rises (part a w f) (replicate n L)) (sym (ap length lent-part) ∙ lent-long) (rises-full L (part a w f) (low-take L w (drop a f) (low-drop L a f l)))

-- ---- the same for a sheet of accepted settings

module _ (r : Settings) (f : List ℕ) (long : length f ≡ r.n) (a : ℕ) (h : IndexFits r a) (w : ℕ) (z : w ≡ r.w) (e : Entry) where
  inside : a + w ≤ length f
  inside = omega (arith, h.inside)

  -- what setting it asks for
  pub set-asked : r.top ≤ 255 → Holds r.top r.w e → (0 + r.top ≤ 255) × Holds r.top (length (take (a + w - a) (drop a f))) e
  set-asked t k = (omega arith, subst (λ (n : ℕ). Holds r.top n e) (sym (lent-long f a w inside ∙ z)) k)

  -- and what it leaves
  pub set_told : (ys : List ℕ) → ys ≡ cells_at 0 r.top (length (take (a + w - a) (drop a f))) e → take a f ++ (ys ++ drop (a + w - a) (drop a f)) ≡ spliced a (entry_cells r.top r.w e) f
  set_told ys q = put-told f a w inside r.top e ys q ∙ ap (λ (n : ℕ). spliced a (entry_cells r.top n e) f) z

  -- what the look at what it needs asks for
  pub need-asked : r.top ≤ 255 → r.n ≤ 16384 → Holds r.top r.w e → Rises (part a r.w f) (entry_cells r.top r.w e)
      → ((0 + r.top ≤ 255) × Holds r.top (length (take (a + w - a) (drop a f))) e × (length (take (a + w - a) (drop a f)) ≤ 65536)) × Rises (take (a + w - a) (drop a f)) (cells_at 0 r.top (length (take (a + w - a) (drop a f))) e)
  need-asked t m k g = (
    ((set-asked t k).0, (set-asked t k).1, omega (arith, lent-long f a w inside, h.inside)),
    lent-rises f a w inside r.top e (subst (λ (n : ℕ). Rises (part a n f) (entry_cells r.top n e)) (sym z) g),
  )

  -- what it tells, with `up` more
  pub need-told : (up : ℕ) (n : Need) → Needs (take (a + w - a) (drop a f)) (cells_at 0 r.top (length (take (a + w - a) (drop a f))) e) n
      → NeedsMore up (part a r.w f) (entry_cells r.top r.w e) (record { cells = n.cells + up; levels = n.levels + up })
  need-told up n k = subst (λ (x : ℕ). NeedsMore up (part a x f) (entry_cells r.top x e) (record { cells = n.cells + up; levels = n.levels + up })) z (lent-needs f a w inside r.top e up n k)

  -- is small
  pub need-small : (n : Need) → r.top ≤ 255 → r.n ≤ 16384 → Holds r.top r.w e → Needs (take (a + w - a) (drop a f)) (cells_at 0 r.top (length (take (a + w - a) (drop a f))) e) n → (n.cells ≤ 16384) × (n.levels ≤ 16384 * 255)
  need-small n t m k q = lent-small f a w inside r.top e n (subst (λ (x : ℕ). Holds r.top x e) (sym z) k) (omega (arith, h.inside)) t q
