-- Laws of index blocks: the number that digits stand for, digit by digit, and the digits of a number above a floor. Assumes nothing.
use Rattle.std.specs.Prelude.{List, [], ◌++◌, ◌∷◌, ◌≡◌, refl, ◌%◌, ◌*◌, ◌+◌, ◌-◌, ◌/◌, ◌<◌, ◌^◌, ◌≤◌, suc, zero, ℕ, drop, get_or, length, replicate, set, take}
use Rattle.std.proofs.Common.{append_assoc, append-nil, le_refl, ⊎_elim, ◌∙◌, ap, subst, sym, div-add-mod', div-lt_iff_lt-mul, eq-or-lt_of_le, le_of_suc-le-suc, mod-lt, not-suc-le-zero, pow-suc, add-one, arith, length-append, drop_at, length-take-le, take-suc}
use Rattle.std.proofs.Math.Nat.{pow-le-pow_right, pow-zero}
use Rattle.std.proofs.lemmas.List.{length-replicate, replicate-append-replicate, get_or_at}
use Rattle.std.proofs.Math.Seq.{drop-length, take_all}
use Rattle.laws.specs.Cut.{block-fits, length-block, part-block}
use Rattle.laws.specs.Index.{digits_low, digits-num, length_digits, num-digits, num-full, num-lt}
use Rattle.laws.specs.Lists.{low-append, low-replicate, low-take}
use Rattle.laws.specs.Regions.{Steady, get_or-less, length-less, length-plus, less, less-low, less-nothing, plus, plus-append, plus-nothing, steady-at, steady-block}
use Rattle.rules.specs.Batches.{digits, entry_cells, entry_of, number}
use Rattle.rules.specs.Cells.{Low, block, same?}
use Rattle.rules.specs.SearchLaws.{pick_no, pick_yes}
use Rattle.rules.specs.Stage.{Entry, closed, index}
use Rattle.index.specs.declared.Region.{Region}
use Rattle.index.specs.Meaning.{BatchFits, ClosedFrom, Holds, before_last, cells_at, entry_at, last_digit, said}

-- ---- the number of an index block

-- one digit more at the end
number-snoc : (q : ℕ) (b : List ℕ) (x : ℕ) → number q (b ++ (x ∷ [])) ≡ number q b * q + x
unfolding number
number-snoc q [] x = omega (arith, ap (λ (p : ℕ). x * p) (pow-zero q))
number-snoc q (y ∷ b) x =
    let e : length (b ++ (x ∷ [])) ≡ suc (length b) = omega (arith, length-append b (x ∷ [])) in
    omega (arith, number-snoc q b x, ap (λ (n : ℕ). y * q ^ n) e, ap (λ (p : ℕ). y * p) (pow-suc q (length b)))

-- no digit is the number 0
pub number-none : (q : ℕ) → 0 ≡ number q []
unfolding number
number-none q = refl

-- what a loop adds: one more digit
pub number-take : (q : ℕ) (b : List ℕ) (i : ℕ) → i < length b → number q (take (i + 1) b) ≡ number q (take i b) * q + get_or b i 0
number-take q b i h =
    ap (λ (n : ℕ). number q (take n b)) (add-one i)
    ∙ ap (number q) (take-suc b i 0 h)
    ∙ number-snoc q (take i b) (get_or b i 0)

-- the number of the first i digits is less than the base to the i
pub number_lt : (L : ℕ) (b : List ℕ) (i : ℕ) → Low L b → i ≤ length b → number (suc L) (take i b) < suc L ^ i
number_lt L b i l h =
    subst (λ (n : ℕ). number (suc L) (take i b) < suc L ^ n) (length-take-le i b h) (num-lt L (take i b) (low-take L i b l))

-- the base to one digit more
pub power-one : (q i : ℕ) → q ^ (i + 1) ≡ q ^ i * q
power-one q i = ap (λ (n : ℕ). q ^ n) (add-one i) ∙ pow-suc q i

-- the base to fewer digits is no more
pub power_le : (L i n : ℕ) → i ≤ n → suc L ^ i ≤ suc L ^ n
power_le L i n h = pow-le-pow_right (omega arith) h

-- the digits of the greatest number are all L
most-full : (L : ℕ) (b : List ℕ) → Low L b → suc (number (suc L) b) ≡ suc L ^ length b → b ≡ replicate (length b) L
most-full L b l e =
    let r : List ℕ = replicate (length b) L in
    let n : number (suc L) b ≡ number (suc L) r = omega (arith, num-full L (length b)) in
    sym (digits-num L b l)
    ∙ ap (digits (suc L) (length b)) n
    ∙ ap (λ (w : ℕ). digits (suc L) w (number (suc L) r)) (sym (length-replicate (length b) L))
    ∙ digits-num L r (low-replicate L (length b) L (omega arith))

-- an index block is full if its number is the greatest of its width
pub entry-full : (L : ℕ) (b : List ℕ) → Low L b → number (suc L) b + 1 ≡ suc L ^ length b → entry_of L (length b) b ≡ closed
unfolding entry_of
entry-full L b l e = pick_yes (same? b (replicate (length b) L)) _ _ (most-full L b l (omega arith))

-- and only then: any other says its number
pub entry-number : (L : ℕ) (b : List ℕ) → ¬ (number (suc L) b + 1 ≡ suc L ^ length b) → entry_of L (length b) b ≡ index (number (suc L) b)
unfolding entry_of
entry-number L b h =
    pick_no (same? b (replicate (length b) L)) _ _
    (λ e. let z : number (suc L) b ≡ number (suc L) (replicate (length b) L) = ap (number (suc L)) e in h (omega (arith, num-full L (length b))))

module _ (floor L : ℕ) (b : List ℕ) where
  -- what a loop adds: one more digit above the floor
  pub number-above : (i : ℕ) → i < length b → number (suc L) (take (i + 1) (less floor b)) ≡ number (suc L) (take i (less floor b)) * suc L + (get_or b i 0 - floor)
  number-above i h =
      let l : i < length (less floor b) = omega (arith, length-less floor b) in
      number-take (suc L) (less floor b) i l ∙ ap (λ (x : ℕ). number (suc L) (take i (less floor b)) * suc L + x) (get_or-less floor b i)

  -- the number of the first i of them is less than the base to the i
  pub number-above-lt : (i : ℕ) → Steady L floor b → i ≤ length b → number (suc L) (take i (less floor b)) < suc L ^ i
  number-above-lt i s h =
      let l : i ≤ length (less floor b) = omega (arith, length-less floor b) in
      number_lt L (less floor b) i (less-low L floor b s) l

  -- an index block says that it is full if its number is the greatest of its width
  pub said-full : Steady L floor b → number (suc L) (less floor b) + 1 ≡ suc L ^ length b → said floor L (length b) b ≡ closed
  said-full s e =
      let n : length (less floor b) ≡ length b = length-less floor b in
      ap (λ (x : ℕ). entry_of L x (less floor b)) (sym n) ∙ entry-full L (less floor b) (less-low L floor b s) (e ∙ ap (λ (x : ℕ). suc L ^ x) (sym n))

  -- and else its number
  pub said-number : ¬ (number (suc L) (less floor b) + 1 ≡ suc L ^ length b) → said floor L (length b) b ≡ index (number (suc L) (less floor b))
  said-number h =
      let n : length (less floor b) ≡ length b = length-less floor b in
      ap (λ (x : ℕ). entry_of L x (less floor b)) (sym n) ∙ entry-number L (less floor b) (λ e. h (e ∙ ap (λ (x : ℕ). suc L ^ x) n))

-- the number of the first i digits above the floor, and the base to the i
pub record ReadTo (floor L : ℕ) (b : List ℕ) (i n p : ℕ) : Type 0 where
  pub number : n ≡ number (suc L) (take i (less floor b))
  pub power : p ≡ suc L ^ i

-- no digit is read at first
pub read-none : (floor L : ℕ) (b : List ℕ) → ReadTo floor L b 0 0 1
read-none floor L b = record { number = number-none (suc L); power = sym (pow-zero (suc L)) }

-- what a loop reads of one digit more
pub record DigitRead (floor L : ℕ) (b : List ℕ) (i n p : ℕ) : Type 0 where
  pub above : floor ≤ get_or b i 0
  pub below : n * (L + 1) + (get_or b i 0 - floor) < p * (L + 1)
  pub fits : p * (L + 1) ≤ suc L ^ length b
  pub more : ReadTo floor L b (i + 1) (n * (L + 1) + (get_or b i 0 - floor)) (p * (L + 1))

pub digit-read : (floor L : ℕ) (b : List ℕ) (i n p : ℕ) → ReadTo floor L b i n p → Steady L floor b → i < length b → DigitRead floor L b i n p
digit-read floor L b i n p r s h =
    let m : n * (L + 1) + (get_or b i 0 - floor) ≡ number (suc L) (take (i + 1) (less floor b)) =
    ap (λ (x : ℕ). x * (L + 1) + (get_or b i 0 - floor)) r.number ∙ ap (λ (x : ℕ). number (suc L) (take i (less floor b)) * x + (get_or b i 0 - floor)) (add-one L) ∙ sym (number-above floor L b i h) in
    let q : p * (L + 1) ≡ suc L ^ (i + 1) = ap (λ (x : ℕ). x * (L + 1)) r.power ∙ ap (λ (x : ℕ). suc L ^ i * x) (add-one L) ∙ sym (power-one (suc L) i) in
    record {
      above = (steady-at L floor b s i h).0;
      below = omega (arith, m, q, number-above-lt floor L b (i + 1) s (omega arith));
      fits = omega (arith, q, power_le L (i + 1) (length b) (omega arith));
      more = record { number = m; power = q };
    }

-- the number of fewer digits is no greater than the base to all of them
pub read-small : (floor L : ℕ) (b : List ℕ) (i n p : ℕ) → ReadTo floor L b i n p → Steady L floor b → i ≤ length b → n < suc L ^ length b
read-small floor L b i n p r s h =
    omega (arith, r.number, number-above-lt floor L b i s h, power_le L i (length b) h)

-- what the number of all digits says
pub read-all : (floor L : ℕ) (b : List ℕ) (i n p : ℕ) → ReadTo floor L b i n p → i ≡ length b → n ≡ number (suc L) (less floor b)
read-all floor L b i n p r e =
    r.number ∙ ap (number (suc L)) (take_all i (less floor b) (omega (arith, length-less floor b)))

pub read-full : (floor L : ℕ) (b : List ℕ) (i n p : ℕ) → ReadTo floor L b i n p → Steady L floor b → i ≡ length b → n + 1 ≡ p → closed ≡ said floor L (length b) b
read-full floor L b i n p r s e q =
    sym (said-full floor L b s (ap (λ (x : ℕ). x + 1) (sym (read-all floor L b i n p r e)) ∙ q ∙ r.power ∙ ap (λ (x : ℕ). suc L ^ x) e))

pub read-number : (floor L : ℕ) (b : List ℕ) (i n p : ℕ) → ReadTo floor L b i n p → i ≡ length b → ¬ (n + 1 ≡ p) → index n ≡ said floor L (length b) b
read-number floor L b i n p r e q =
    let t : n ≡ number (suc L) (less floor b) = read-all floor L b i n p r e in
    ap index t ∙ sym (said-number floor L b (λ x. q (ap (λ (y : ℕ). y + 1) t ∙ x ∙ sym (r.power ∙ ap (λ (y : ℕ). suc L ^ y) e))))

-- ---- the digits of a number

-- what is left without the last digit
pub rest_lt : (L w u : ℕ) → u < suc L ^ suc w → u / suc L < suc L ^ w
rest_lt L w u h = (div-lt_iff_lt-mul {k = suc L} {x = u} {y = suc L ^ w} (omega arith)).1 (subst (λ (x : ℕ). u < x) (pow-suc (suc L) w) h)

-- the last digit written behind the others: the same number
number-back : (L w u : ℕ) → u < suc L ^ suc w → number (suc L) (digits (suc L) w (u / suc L) ++ (u % suc L ∷ [])) ≡ u
number-back L w u h =
    number-snoc (suc L) (digits (suc L) w (u / suc L)) (u % suc L)
    ∙ ap (λ (x : ℕ). x * suc L + u % suc L) (num-digits (suc L) w (u / suc L) (omega arith) (rest_lt L w u h))
    ∙ div-add-mod' u (suc L)

-- so the last digit stands apart
digits-snoc : (L w u : ℕ) → u < suc L ^ suc w → digits (suc L) (suc w) u ≡ digits (suc L) w (u / suc L) ++ (u % suc L ∷ [])
digits-snoc L w u h =
    let b : List ℕ = digits (suc L) w (u / suc L) in
    let r : u % suc L < suc L = mod-lt u (omega arith) in
    let e : length (b ++ (u % suc L ∷ [])) ≡ suc w = omega (arith, length-append b (u % suc L ∷ []), length_digits (suc L) w (u / suc L)) in
    sym (ap (digits (suc L) (suc w)) (number-back L w u h))
    ∙ ap (λ (x : ℕ). digits (suc L) x (number (suc L) (b ++ (u % suc L ∷ [])))) (sym e)
    ∙ digits-num L (b ++ (u % suc L ∷ [])) (low-append L b (u % suc L ∷ []) (digits_low L w (u / suc L) (rest_lt L w u h)) (le_of_suc-le-suc r, tt))

-- ---- the digits of what an index block says, the last one first

-- the last digit is at most L
pub last_digit-low : (L : ℕ) (e : Entry) → last_digit L e ≤ L
last_digit-low L (index u) = le_of_suc-le-suc (mod-lt u (omega arith))
last_digit-low L closed = le_refl L

-- fewer cells can say what the digits before it say
pub holds-before : (L w : ℕ) (e : Entry) → Holds L (suc w) e → Holds L w (before_last L e)
holds-before L w (index u) h = rest_lt L w u h
holds-before L w closed h = tt

-- the last digit stands apart
cells-snoc : (L w : ℕ) (e : Entry) → Holds L (suc w) e → entry_cells L (suc w) e ≡ entry_cells L w (before_last L e) ++ (last_digit L e ∷ [])
cells-snoc L w (index u) h = digits-snoc L w u h
cells-snoc L w closed h = sym (replicate-append-replicate w 1 L ∙ ap (λ (n : ℕ). replicate n L) (add-one w))

-- as many cells are written as there are
pub length-cells : (floor step w : ℕ) (e : Entry) → length (cells_at floor step w e) ≡ w
length-cells floor step w (index u) = length-plus floor (digits (suc step) w u) ∙ length_digits (suc step) w u
length-cells floor step w closed = length-plus floor (replicate w step) ∙ length-replicate w step

-- cell j set, and the cells past it
drop-set : (b : List ℕ) (j v : ℕ) → j < length b → drop j (set b j v) ≡ v ∷ drop (suc j) b
drop-set [] j v h = absurd (not-suc-le-zero h)
drop-set (x ∷ b) zero v h = refl
drop-set (x ∷ b) (suc j) v h = drop-set b j v (le_of_suc-le-suc h)

module _ (floor L : ℕ) where
  -- digit j of the j + 1 that are left stands before the cells that stand already
  cells-peel : (j : ℕ) (e : Entry) (t : List ℕ) → Holds L (suc j) e
      → cells_at floor L (suc j) e ++ t ≡ cells_at floor L j (before_last L e) ++ ((floor + last_digit L e) ∷ t)
  cells-peel j e t l =
      ap (λ (r : List ℕ). plus floor r ++ t) (cells-snoc L j e l)
      ∙ ap (λ (r : List ℕ). r ++ t) (plus-append floor (entry_cells L j (before_last L e)) (last_digit L e ∷ []))
      ∙ append_assoc (cells_at floor L j (before_last L e)) ((floor + last_digit L e) ∷ []) t

  -- what a loop from the last digit writes: digit j of the j + 1 that are left
  cells-one : (j : ℕ) (e : Entry) (b : List ℕ) → j < length b → Holds L (suc j) e
      → cells_at floor L (suc j) e ++ drop (suc j) b ≡ cells_at floor L j (before_last L e) ++ drop j (set b j (floor + last_digit L e))
  cells-one j e b h l =
      cells-peel j e (drop (suc j) b) l
      ∙ ap (λ (r : List ℕ). cells_at floor L j (before_last L e) ++ r) (sym (drop-set b j (floor + last_digit L e) h))

  -- the last of the i digits that are left
  pub cells-turn : (i : ℕ) (e : Entry) (b : List ℕ) → 0 < i → i ≤ length b → Holds L i e
      → Holds L (i - 1) (before_last L e)
      × (cells_at floor L i e ++ drop i b ≡ cells_at floor L (i - 1) (before_last L e) ++ drop (i - 1) (set b (i - 1) (floor + last_digit L e)))
  cells-turn i e b p h l =
      let s : i ≡ suc (i - 1) = omega arith in
      let k : Holds L (suc (i - 1)) e = subst (λ (x : ℕ). Holds L x e) s l in
      (holds-before L (i - 1) e k, ap (λ (x : ℕ). cells_at floor L x e ++ drop x b) s ∙ cells-one (i - 1) e b (omega arith) k)

  -- at first every digit is still to be written
  pub cells-first : (e : Entry) (b : List ℕ) → cells_at floor L (length b) e ≡ cells_at floor L (length b) e ++ drop (length b) b
  cells-first e b =
      sym (ap (λ (r : List ℕ). cells_at floor L (length b) e ++ r) (drop-length b) ∙ append-nil (cells_at floor L (length b) e))

  -- and in the end none
  pub cells-last : (e : Entry) (b : List ℕ) → cells_at floor L 0 e ++ b ≡ b
  unfolding digits
  cells-last (index u) b = refl
  cells-last closed b = refl

  -- cells whose front is the j + 1 digits that are left: the last of those, and without it the others are still the front
  pub record LastRead (ys : List ℕ) (i : ℕ) (e : Entry) : Type 0 where
    pub level : get_or ys i 0 ≡ floor + last_digit L e
    pub holds : Holds L i (before_last L e)
    pub front : ys ≡ cells_at floor L i (before_last L e) ++ drop i ys

  read-one : (j : ℕ) (e : Entry) (ys : List ℕ) → Holds L (suc j) e → ys ≡ cells_at floor L (suc j) e ++ drop (suc j) ys → LastRead ys j e
  read-one j e ys l q =
      let h : List ℕ = cells_at floor L j (before_last L e) in
      let t : List ℕ = drop (suc j) ys in
      let n : length h ≡ j = length-cells floor L j (before_last L e) in
      let r : ys ≡ h ++ ((floor + last_digit L e) ∷ t) = q ∙ cells-peel j e t l in
      record {
        level = ap (λ (x : List ℕ). get_or x j 0) r ∙ get_or_at h (floor + last_digit L e) t 0 j n;
        holds = holds-before L j e l;
        front = r ∙ ap (λ (x : List ℕ). h ++ x) (sym (ap (drop j) r ∙ drop_at h ((floor + last_digit L e) ∷ t) j n));
      }

  -- what a loop from the last digit reads: the last of the i digits that are left
  pub cells-read : (i : ℕ) (e : Entry) (ys : List ℕ) → 0 < i → Holds L i e → ys ≡ cells_at floor L i e ++ drop i ys → LastRead ys (i - 1) e
  cells-read i e ys p l q =
      let s : i ≡ suc (i - 1) = omega arith in
      read-one (i - 1) e ys (subst (λ (x : ℕ). Holds L x e) s l) (subst (λ (x : ℕ). ys ≡ cells_at floor L x e ++ drop x ys) s q)

  -- at first the digits are all the cells
  pub cells-front : (w : ℕ) (e : Entry) → cells_at floor L w e ≡ cells_at floor L w e ++ drop w (cells_at floor L w e)
  cells-front w e =
      subst (λ (n : ℕ). cells_at floor L w e ≡ cells_at floor L w e ++ drop n (cells_at floor L w e)) (length-cells floor L w e)
      (sym (ap (λ (r : List ℕ). cells_at floor L w e ++ r) (drop-length (cells_at floor L w e)) ∙ append-nil (cells_at floor L w e)))

-- ---- the look for the next index block that isn't full

module _ (region : Region) (q x : ℕ) (batch : List ℕ) (fits : BatchFits region q batch) (h : x < q) where
  -- an index block has as many cells as the region says
  index-length : length (block region.width batch x) ≡ region.width
  index-length = length-block region.width batch x (omega (arith, block-fits region.width x q h, fits.holds))

  -- an index block as a part of the region's cells
  abbrev pub lent : List ℕ
  lent = take (x * region.width + region.width - x * region.width) (drop (x * region.width) batch)

  -- an index block may be read
  pub index-asked : (suc region.step ^ length lent ≤ 16777216) × Steady region.step region.floor lent
  index-asked =
      subst (λ (b : List ℕ). (suc region.step ^ length b ≤ 16777216) × Steady region.step region.floor b) (sym (part-block region.width batch x))
      (subst (λ (n : ℕ). suc region.step ^ n ≤ 16777216) (sym index-length) fits.narrow, steady-block region.step region.floor region.width batch x fits.steady)

  -- and says what the entry is
  pub index-said : said region.floor region.step (length lent) lent ≡ entry_at region batch x
  index-said =
      ap (λ (b : List ℕ). said region.floor region.step (length b) b) (part-block region.width batch x)
      ∙ ap (λ (n : ℕ). said region.floor region.step n (block region.width batch x)) index-length

module _ (region : Region) (batch : List ℕ) (from : ℕ) where
  -- at first the look has passed none
  pub closed_none : ClosedFrom region batch from from
  closed_none x h l = absurd (omega arith)

  -- one more that is full
  pub closed-more : (x : ℕ) → ClosedFrom region batch from x → entry_at region batch x ≡ closed → ClosedFrom region batch from (x + 1)
  closed-more x h e y a b =
      ⊎_elim (λ q. subst (λ (z : ℕ). entry_at region batch z ≡ closed) (sym q) e) (λ l. h y a l) (eq-or-lt_of_le (le_of_suc-le-suc (subst (λ (m : ℕ). y < m) (add-one x) b)))

-- ---- at floor 0

-- an index block says what its digits are
pub said-nothing : (step w : ℕ) (b : List ℕ) → said 0 step w b ≡ entry_of step w b
said-nothing step w b = ap (entry_of step w) (less-nothing b)

-- and its cells are its digits
pub cells-nothing : (step w : ℕ) (e : Entry) → cells_at 0 step w e ≡ entry_cells step w e
cells-nothing step w e = plus-nothing (entry_cells step w e)
