-- Laws of what it needs to write over an index block, the last digit first. Assumes nothing.
use Rattle.std.specs.Prelude.{List, ◌++◌, ◌≡◌, ℕ, ◌+◌, ◌-◌, ◌*◌, ◌<◌, ◌≤◌, length, get_or, drop}
use Rattle.std.proofs.Common.{Bool, ◌∙◌, ⊎_elim, ap, eqb, not, reverse, subst, sym, arith}
use Rattle.std.proofs.Math.Decide.{ℕ_discrete}
use Rattle.std.proofs.lemmas.Bool.Decides.{eqb_tells}
use Rattle.std.proofs.lemmas.Grind.{get_or_default_zero}
use Rattle.std.proofs.lemmas.List.{get_or-reverse, length-reverse}
use mir.Val.{bool_byte}
use Rattle.laws.specs.Differ.{apart}
use Rattle.rules.specs.Cells.{Rises}
use Rattle.rules.specs.Search.{pick}
use Rattle.rules.specs.SearchLaws.{pick_no, pick_yes}
use Rattle.rules.specs.Stage.{Entry}
use Rattle.plan.specs.Meaning.{Needs}
use Rattle.plan.specs.NeedLaws.{needs-none, needs-turn}
use Rattle.index.specs.Laws.{LastRead, cells-front, cells-read, last_digit-low, length-cells}
use Rattle.index.specs.Meaning.{Holds, before_last, cells_at, last_digit}

-- ---- one cell

-- where it differs from a level it is 1 cell more, else none
apart-one : (x y : ℕ) → apart x y ≤ 1
apart-one x y = go (ℕ_discrete x y)
  where
    go : (d : Dec (x ≡ y)) → pick d 0 1 ≤ 1
    go (yes e) = omega arith
    go (no h) = omega arith

-- as a test tells it
pub apart-test : (x y : ℕ) → bool_byte (not (eqb x y)) ≡ apart x y
apart-test x y = ⊎_elim (λ t. ap (λ (b : Bool). bool_byte (not b)) t.0 ∙ sym (pick_yes (ℕ_discrete x y) 0 1 t.1)) (λ t. ap (λ (b : Bool). bool_byte (not b)) t.0 ∙ sym (pick_no (ℕ_discrete x y) 0 1 t.1)) (eqb_tells x y)

-- cell k of them from the last one back
pub read-back : (xs : List ℕ) (k x : ℕ) → (k < length (reverse xs)) × (x ≡ get_or (reverse xs) k x) → (k < length xs) × (x ≡ get_or xs (length xs - k - 1) 0)
read-back xs k x h =
    let l : k < length xs = omega (arith, length-reverse xs, h.0) in
    let i : length xs - 1 - k ≡ length xs - k - 1 = omega arith in
    (l, h.1 ∙ get_or-reverse xs k x l ∙ get_or_default_zero xs (length xs - 1 - k) x (omega arith) ∙ ap (λ (n : ℕ). get_or xs n 0) i)

-- ---- from the last cell back

-- what a loop from the last cell back knows where i cells are left: so many cells and levels are needed past them to make ys of xs, and they are to say e
pub record NeedPast (floor L : ℕ) (xs ys : List ℕ) (i : ℕ) (e : Entry) (c l : ℕ) : Type 0 where
  pub holds : Holds L i e
  pub front : ys ≡ cells_at floor L i e ++ drop i ys
  pub needs : Needs (drop i xs) (drop i ys) (record { cells = c; levels = l })
  pub few : c + i ≤ length xs
  pub low : l + 255 * i ≤ 255 * length xs

module _ (floor L : ℕ) (xs : List ℕ) where
  -- at first all are left
  pub need-first : (i : ℕ) (e : Entry) → i ≡ length xs → Holds L (length xs) e → NeedPast floor L xs (cells_at floor L (length xs) e) i e 0 0
  need-first i e q h =
      subst (λ (n : ℕ). NeedPast floor L xs (cells_at floor L (length xs) e) n e 0 0) (sym q)
      (record {
        holds = h;
        front = cells-front floor L (length xs) e;
        needs = needs-none xs (cells_at floor L (length xs) e) (length-cells floor L (length xs) e);
        few = omega arith;
        low = omega arith;
      })

  module _ (ys : List ℕ) (i : ℕ) (e : Entry) (c l : ℕ) (p : NeedPast floor L xs ys i e c l) where
    -- one cell more, which isn't above the level that it is raised to
    pub record NeedTurn (x : ℕ) : Type 0 where
      pub below : x ≤ floor + last_digit L e
      pub next : NeedPast floor L xs ys (i - 1) (before_last L e) (c + apart x (floor + last_digit L e)) (l + (floor + last_digit L e - x))

    pub need-turn : (x : ℕ) → x ≡ get_or xs (i - 1) 0 → 0 < i → i ≤ length xs → length ys ≡ length xs → Rises xs ys → floor + L ≤ 255 → NeedTurn x
    need-turn x q z h k r t =
        let d : LastRead floor L ys (i - 1) e = cells-read floor L i e ys z p.holds p.front in
        let b : get_or xs (i - 1) 0 ≤ floor + last_digit L e = omega (arith, d.level, r (i - 1)) in
        let m : Needs (drop (i - 1) xs) (drop (i - 1) ys) (record { cells = c + apart (get_or xs (i - 1) 0) (floor + last_digit L e); levels = l + (floor + last_digit L e - get_or xs (i - 1) 0) }) =
        needs-turn xs ys i c l (floor + last_digit L e) z h k d.level b p.needs in
        rw q (record {
          below = b;
          next = record {
            holds = d.holds;
            front = d.front;
            needs = m;
            few = omega (arith, apart-one (get_or xs (i - 1) 0) (floor + last_digit L e), p.few);
            low = omega (arith, last_digit-low L e, p.low);
          };
        })
