-- The sheet before: an accepted plain sheet with a level above 0 is what a change of the maps makes of an accepted one with one level fewer. Assumes nothing.
-- That one has the last block in use a level lower. So every accepted plain sheet has a run of the maps, by induction on the sum of its levels.
use mathlib.Core.List.{List}
use Rattle.std.specs.Prelude.{◌≢◌, ◌≡◌, refl, ◌%◌, ◌*◌, ◌+◌, ◌-◌, ◌<◌, ◌≤◌, suc, zero, ℕ, length, replicate}
use Rattle.std.proofs.Common.{◌∙◌, sym, le_refl, mul-le-mul_right, arith}
use Rattle.std.proofs.Math.Path.{ap, subst}
use Rattle.std.proofs.Math.Decide.{ℕ_discrete}
use Rattle.laws.specs.Cut.{length-store, low-store, store-back, store-past, store-twice}
use Rattle.laws.specs.Lists.{sum-zero}
use Rattle.laws.specs.Packed.{Last, empty-on, last-is, last_one, none, on-empty, used}
use Rattle.laws.specs.PlainMaps.{NoBlock, Proper, Update, empty-view, put-lawful, to-bit, total, upd-all}
use Rattle.laws.specs.PlainSheet.{Accepted, Run, begin, block-cells, change-law, fits, length-cells, low-cells, more, sum-states, upd}
use Rattle.rules.specs.Block.{State, active, broken, cells_of, empty, full, grown, next}
use Rattle.rules.specs.Cells.{block, store, sum}
use Rattle.rules.specs.Plain.{FullLast, HasBit, IsEmpty, IsFull, carry_out, change, has_bit?, is_empty?, plan, plan_from, put, states, weight}
use Rattle.rules.specs.Search.{Found, done, first, nowhere, some?}
use Rattle.rules.specs.SearchLaws.{first-eq, hit, miss, some-not}

-- the next step is a full block where it reaches the weight of one
grown-full : {A : Type 0} (i v : ℕ) (d : Dec A) → A → grown d i v ≡ full
grown-full i v (yes p) q = refl
grown-full i v (no p) q = absurd (p q)

-- else it is the active block of one weight more
grown-on : {A : Type 0} (i v : ℕ) (d : Dec A) → ¬ A → grown d i v ≡ active i (suc v)
grown-on i v (yes p) q = absurd (q p)
grown-on i v (no p) q = refl

module _ (k L m n : ℕ) (two : 1 < k) (g : 0 < L) (even : k * L % 2 ≡ 0) (room : m * k ≤ n) where
  -- an accepted sheet of which one change makes xs
  pub record Before (xs : List ℕ) : Type 0 where
    pub sheet : List ℕ
    pub bit : ℕ
    pub here : bit < k
    pub accepted : Accepted k L m n sheet
    pub makes : change k L m bit sheet ≡ done xs

  -- block j is the last that isn't empty
  module _ (xs : List ℕ) (a : Accepted k L m n xs) (j : ℕ) (l : j < m) (busy : ¬ (IsEmpty (states k L xs j)))
      (last : (x : ℕ) → x < m → j < x → IsEmpty (states k L xs x)) where
    abbrev st : ℕ → State
    st = states k L xs

    -- s is its state a level lower: it holds bit i or none, and no other block holds i
    module _ (i : ℕ) (here : i < k) (s : State) (o : Proper k (k * L) s) (not_full : ¬ (IsFull s))
        (is : (x : ℕ) → HasBit x s → x ≡ i) (alone : (x : ℕ) → x < m → x ≢ j → ¬ (HasBit i (st x))) where
      -- the sheet with the cells of s in block j
      abbrev lower : List ℕ
      lower = store k xs j (cells_of k L s)

      abbrev st' : ℕ → State
      st' = states k L lower

      u : Update m st st' j s
      u = upd k L m n two g even room i here xs a j s l o

      inside : j * k + k ≤ length xs
      inside = fits k L m n two g even room j xs a.long l

      long : length (cells_of k L s) ≡ k
      long = length-cells k L m n two g even room s o

      -- block j has the cells of its state
      same : block k xs j ≡ cells_of k L (st j)
      same = block-cells k L m n two g even room i here xs a j l

      -- the blocks after j are empty
      later : (x : ℕ) → x < m → j < x → IsEmpty (st' x)
      later x lx q = subst IsEmpty (sym (u.rest x lx (omega arith))) (last x lx q)

      -- the blocks before j are not
      sooner : (x : ℕ) → x < j → ¬ (IsEmpty (st' x))
      sooner x q h = busy (empty-on m st a.packed.0 j l x q (subst IsEmpty (u.rest x (omega arith) (omega arith)) h))

      -- if s is empty, bit i has no active block; if not, s is in the last block that isn't empty, and not full
      not-full-last : ¬ (FullLast k m st')
      not-full-last p = go (is_empty? s)
        where
          go : Dec (IsEmpty s) → ⊥
          go (yes e) = let q = p.0 i here in upd-all u (λ x t. ¬ (HasBit i t)) (λ h. subst (HasBit i) (empty-view s e) h) alone q.0 q.1 q.2
          go (no e) = not_full (subst IsFull (last_one (last-is st' m) j l (λ h. e (subst IsEmpty u.there h)) later ∙ u.there) p.1)

      -- the sheet with s is accepted
      lowered : Accepted k L m n lower
      lowered = record {
        long = length-store k xs j inside (cells_of k L s) long ∙ a.long;
        low = low-store L k xs j (cells_of k L s) a.low (low-cells k L m n two g even room s);
        lawful = put-lawful k (k * L) m i j s st st' a.lawful u o is alone;
        packed = (on-empty m st' (λ y ly x q h. let w : ¬ (x < j) = λ w. sooner x w h in later y ly (omega arith)), not-full-last);
        spare = store-past k xs j inside (cells_of k L s) long (m * k) (omega (arith, mul-le-mul_right {m = suc j} {n = m} k l)) ∙ a.spare;
      }

      -- where the plan of bit i puts the old state back, the sheet with s is one before xs
      by-plan : plan (k * L) st' m i ≡ put j (st j) → Before xs
      unfolding change
      by-plan e = record {
        sheet = lower;
        bit = i;
        here = here;
        accepted = lowered;
        makes = ap (carry_out k L lower) e ∙ ap (λ (r : List ℕ). done r) (store-twice k xs j inside (cells_of k L s) long (cells_of k L (st j)) ∙ ap (store k xs j) (sym same) ∙ store-back k xs j inside);
      }

      -- s holds bit i, and the old state is its next step
      by-own : HasBit i s → next (k * L) s ≡ st j → Before xs
      unfolding plan
      by-own h e = by-plan (
          ap (λ (f : Found). plan_from (k * L) st' i f (first (λ x. is_empty? (st' x)) m))
          (first-eq (λ x. has_bit? i (st' x)) m (hit j l (subst (HasBit i) (sym u.there) h) (λ x q w. alone x (omega arith) (omega arith) (subst (HasBit i) (u.rest x (omega arith) (omega arith)) w))))
          ∙ ap (λ (t : State). put j (next (k * L) t)) u.there ∙ ap (put j) e)

      -- s is empty, and bit i begins there, as block j is the lowest-numbered empty one
      by-new : s ≡ empty → active i 1 ≡ st j → Before xs
      unfolding plan
      by-new z e = by-plan (
          ap (λ (f : Found). plan_from (k * L) st' i f (first (λ x. is_empty? (st' x)) m))
          (first-eq (λ x. has_bit? i (st' x)) m (miss (upd-all u (λ x t. ¬ (HasBit i t)) (λ h. subst (HasBit i) z h) alone)))
          ∙ ap (λ (f : Found). plan_from (k * L) st' i nowhere f)
          (first-eq (λ x. is_empty? (st' x)) m (hit j l (subst IsEmpty (sym (u.there ∙ z)) tt) sooner))
          ∙ ap (put j) e)

    -- where block j is full, some bit has no active block
    free-bit : st j ≡ full → (i : ℕ) × (i < k) × NoBlock m i st
    free-bit e =
        let f = some-not (λ i. some? (λ x. has_bit? i (st x)) m) k (λ h. a.packed.1 (h, subst IsFull (sym (last_one (last-is st m) j l busy last ∙ e)) tt)) in
        (f.0, f.1, λ x lx w. f.2 (x, lx, w))

    -- block j one level lower: a full one becomes the last step of a bit that has no active block; an active one becomes empty, or its own step before
    from_last : (t : State) → st j ≡ t → Before xs
    from_last empty e = absurd (busy (subst IsEmpty (sym e) tt))
    from_last broken e = absurd (subst (Proper k (k * L)) e (a.lawful.proper j l))
    from_last full e =
        let (i, here, free) : (i : ℕ) × (i < k) × NoBlock m i st = free-bit e in
        let F : ℕ = k * L in
        let b : 2 ≤ k * L = omega (arith, mul-le-mul_right {m = 2} {n = k} L two) in
        let z : suc (F - 1) ≡ F = omega arith in
        by-own i here (active i (F - 1)) (here, omega arith, omega arith) (λ h. h) (λ x h. h) (λ x q d. free x q) refl
        (grown-full i (F - 1) (ℕ_discrete (suc (F - 1)) F) z ∙ sym e)
    from_last (active b zero) e = let o : Proper k (k * L) (active b zero) = subst (Proper k (k * L)) e (a.lawful.proper j l) in absurd (omega (arith, o.1))
    from_last (active b (suc zero)) e =
        let o : Proper k (k * L) (active b 1) = subst (Proper k (k * L)) e (a.lawful.proper j l) in
        by-new b o.0 empty tt (λ h. h) (λ x h. absurd h) (λ x q d h. d (a.lawful.apart b x j q l h (to-bit e))) refl (sym e)
    from_last (active b (suc (suc v))) e =
        let o : Proper k (k * L) (active b (suc (suc v))) = subst (Proper k (k * L)) e (a.lawful.proper j l) in
        by-own b o.0 (active b (suc v)) (o.0, omega arith, omega (arith, o.2)) (λ h. h) (λ x h. h) (λ x q d h. d (a.lawful.apart b x j q l h (to-bit e))) refl
        (grown-on b (suc v) (ℕ_discrete (suc (suc v)) (k * L)) (omega (arith, o.2)) ∙ sym e)

  -- an accepted sheet with a level above 0 has one before it
  pub before : (xs : List ℕ) → Accepted k L m n xs → (c : ℕ) → sum xs ≡ suc c → Before xs
  before xs a c e = go (last-is (states k L xs) m)
    where
      none-heavy : ((x : ℕ) → x < m → IsEmpty (states k L xs x)) → (y : ℕ) → y ≤ m → total (k * L) (states k L xs) y ≡ 0
      none-heavy h zero q = refl
      none-heavy h (suc y) q = omega (arith, none-heavy h y (omega arith), ap (weight (k * L)) (empty-view (states k L xs y) (h y q)))

      go : {t : State} → Last (states k L xs) m t → Before xs
      go (none h) = absurd (omega (arith, sum-states k L m n two g even room 0 (omega arith) xs a, none-heavy h m (le_refl m)))
      go (used j l b h) = from_last xs a j l b h (states k L xs j) refl

  -- every accepted sheet has a run of the maps, of as many changes as its levels sum to
  pub past : (c : ℕ) (xs : List ℕ) → Accepted k L m n xs → sum xs ≡ c → Run k L m n c xs
  past zero xs a e = subst (λ (r : List ℕ). Run k L m n 0 r) (sym (sum-zero xs e ∙ ap (λ (x : ℕ). replicate x 0) a.long)) begin
  past (suc c) xs a e =
      let b : Before xs = before xs a c e in
      more c b.bit b.sheet xs (past c b.sheet b.accepted (omega (arith, (change-law k L m n two g even room b.bit b.here b.sheet b.accepted xs b.makes).adds))) b.here b.makes
