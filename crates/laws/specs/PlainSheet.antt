-- Laws of plain sheets: n cells, of which the first m * k are m blocks, and the rest is spare and 0. Assumes nothing.
use mathlib.Core.List.{List}
use Rattle.std.specs.Prelude.{◌≢◌, ◌≡◌, refl, drop, replicate, take}
use Rattle.std.proofs.Common.{◌∙◌, subst, sym, le_refl, arith}
use Rattle.std.proofs.Math.Path.{ap}
use Prim.Native.Nat.{◌%◌, ◌*◌, ◌+◌, ◌-◌, ◌<◌, ◌≤◌, suc, zero, zero-le, ℕ}
use Rattle.std.proofs.Math.Decide.{ℕ_discrete}
use Rattle.std.proofs.Math.Nat.{mul-le-mul_right}
use Rattle.std.proofs.Math.ListN.{length}
use Rattle.std.proofs.lemmas.List.{length-replicate}
use Rattle.laws.specs.Block.{Means, cycle-full, cycle-low, cycle-rises, cycle-zero, length-cycle, state-means, state-one, sum-cycle}
use Rattle.laws.specs.Cut.{block_sum, length-store, low-store, store_other, store-past, store-rises, store_same, store-sum, sum-blocks, sum-split}
use Rattle.laws.specs.Lists.{drop-replicate, low-replicate, sum-replicate, take-replicate}
use Rattle.laws.specs.PlainMaps.{Lawful, Legal, Planned, Proper, Update, bit-two, erase-late, flips, keeps, lawful-from, legal, new, no-repeat, own, plan-is, stays, total}
use Rattle.laws.specs.Packed.{packed-blank, packed-put}
use Rattle.rules.specs.Block.{State, active, broken, cells_of, cycle, empty, full, grown, next, state_of}
use Rattle.rules.specs.Cells.{Low, Rises, block, store, sum}
use Rattle.rules.specs.Plain.{BlocksOk, HasBit, OnCycle, Packed, Plan, carry_out, change, erase, plan, put, read, states, weight}
use Rattle.rules.specs.Search.{Result, done, no_place_left}

-- ---- the maps D0 and E0

-- a reading is 0 or 1
pub read-two : (k L m : ℕ) (xs : List ℕ) (i : ℕ) → read k L m xs i < 2
unfolding read
read-two k L m xs i = bit-two (k * L) m i (states k L xs)

-- a sheet that checks 2, 5 and 6 accept
pub record Accepted (k L m n : ℕ) (xs : List ℕ) : Type 0 where
  pub long : length xs ≡ n
  pub low : Low L xs
  pub lawful : Lawful k (k * L) m (states k L xs)
  pub packed : Packed k m (states k L xs)
  pub spare : drop (m * k) xs ≡ replicate (n - m * k) 0

-- the same in the words of the rules
proper-from : (k L : ℕ) (s : State) (b : List ℕ) → OnCycle s → Means k L s b → Proper k (k * L) s
proper-from k L empty b o h = tt
proper-from k L full b o h = tt
proper-from k L broken b o h = o
proper-from k L (active i v) b o h = (h.0, h.1, h.2)

on-cycle : (k F : ℕ) (s : State) → Proper k F s → OnCycle s
on-cycle k F empty o = tt
on-cycle k F full o = tt
on-cycle k F broken o = o
on-cycle k F (active i v) o = tt

-- blocks that keep the rules have lawful states
pub blocks-lawful : (k L m : ℕ) (xs : List ℕ) → 0 < k → 0 < L → BlocksOk k L m xs → Lawful k (k * L) m (states k L xs)
unfolding states
blocks-lawful k L m xs h g b = lawful-from k (k * L) m (states k L xs)
    (λ j l. proper-from k L (state_of k L (block k xs j)) (block k xs j) (b.0 j l) (state-means k L h g (block k xs j))) b.1

-- and conversely
pub lawful-blocks : (k L m : ℕ) (xs : List ℕ) → Lawful k (k * L) m (states k L xs) → Packed k m (states k L xs) → BlocksOk k L m xs
lawful-blocks k L m xs a p = (λ j l. on-cycle k (k * L) (states k L xs j) (a.proper j l), no-repeat k (k * L) m (states k L xs) a, p)

-- ---- an accepted change

-- what a change of bit i that is made does
pub record Changed (k L m n i : ℕ) (xs ys : List ℕ) : Type 0 where
  pub stays : Accepted k L m n ys
  pub flips : read k L m ys i ≡ 1 - read k L m xs i
  pub keeps : (x : ℕ) → x ≢ i → read k L m ys x ≡ read k L m xs x
  pub rises : Rises xs ys
  pub adds : sum ys ≡ suc (sum xs)

-- what an answer says
abbrev pub AnswerLaw : ℕ → ℕ → ℕ → ℕ → ℕ → List ℕ → Result (List ℕ) → Type 0
AnswerLaw k L m n i xs (done ys) = Changed k L m n i xs ys
AnswerLaw k L m n i xs no_place_left = k ≤ m → (m - k + 1) * (k * L) + (k - 1) ≤ sum xs

module _ (k L m n : ℕ) (two : 1 < k) (g : 0 < L) (even : k * L % 2 ≡ 0) (room : m * k ≤ n) where
  big : 1 < k * L
  big = omega (arith, mul-le-mul_right {m = 2} {n = k} L two)

  -- a good state's cells are those of its shape
  cells_shape : (s : State) → Proper k (k * L) s → Means k L s (cells_of k L s)
  cells_shape empty o = refl
  cells_shape full o = refl
  cells_shape broken o = absurd o
  cells_shape (active i v) o = (o.0, o.1, o.2, refl)

  shape-cells : (s : State) (b : List ℕ) → Proper k (k * L) s → Means k L s b → b ≡ cells_of k L s
  shape-cells empty b o h = h
  shape-cells full b o h = h
  shape-cells broken b o h = absurd o
  shape-cells (active i v) b o h = h.3

  -- no level of a state's cells is above L
  pub low-cells : (s : State) → Low L (cells_of k L s)
  low-cells empty = low-replicate L k 0 zero-le
  low-cells full = low-replicate L k L (le_refl L)
  low-cells broken = tt
  low-cells (active i v) = cycle-low k L i v

  -- a proper state has k cells
  pub length-cells : (s : State) → Proper k (k * L) s → length (cells_of k L s) ≡ k
  length-cells empty o = length-replicate k 0
  length-cells full o = length-replicate k L
  length-cells broken o = absurd o
  length-cells (active i v) o = length-cycle k L i (omega arith) v

  sum-cells : (s : State) → Proper k (k * L) s → sum (cells_of k L s) ≡ weight (k * L) s
  sum-cells empty o = sum-replicate k 0 ∙ omega arith
  sum-cells full o = sum-replicate k L
  sum-cells broken o = absurd o
  sum-cells (active i v) o = sum-cycle k L i (omega arith) v (omega arith)

  -- block j stands in the sheet
  pub fits : (j : ℕ) (xs : List ℕ) → length xs ≡ n → j < m → j * k + k ≤ length xs
  fits j xs e l = omega (arith, mul-le-mul_right {m = suc j} {n = m} k l)

  module _ (i : ℕ) (here : i < k) (xs : List ℕ) (a : Accepted k L m n xs) where
    -- a block is its state's cells
    pub block-cells : (j : ℕ) → j < m → block k xs j ≡ cells_of k L (states k L xs j)
    unfolding states
    block-cells j l = shape-cells (state_of k L (block k xs j)) (block k xs j) (a.lawful.proper j l) (state-means k L (omega arith) g (block k xs j))

    -- a state's cells stored in block j put that state there
    pub upd : (j : ℕ) (s : State) → j < m → Proper k (k * L) s → Update m (states k L xs) (states k L (store k xs j (cells_of k L s))) j s
    unfolding states
    upd j s l o =
        let f : j * k + k ≤ length xs = fits j xs a.long l in
        record {
          place = l;
          there = ap (state_of k L) (store_same k xs j f (cells_of k L s) (length-cells s o)) ∙ state-one k L (omega arith) g s (cells_of k L s) (cells_shape s o);
          rest = λ x lx d. ap (state_of k L) (store_other k xs j f (cells_of k L s) (length-cells s o) x d);
        }

    -- no level of the block falls
    grown-rises : (v : ℕ) (d : Dec (suc v ≡ k * L)) → Rises (cycle k L i v) (cells_of k L (grown d i v))
    grown-rises v (yes e) =
        subst (λ (r : List ℕ). Rises (cycle k L i v) r) (ap (cycle k L i) e ∙ cycle-full k L i (omega arith)) (cycle-rises k L i (omega arith) v (suc v) (omega arith))
    grown-rises v (no e) = cycle-rises k L i (omega arith) v (suc v) (omega arith)

    block-rises : {j : ℕ} {s : State} → Planned (k * L) m i (states k L xs) (put j s) → Rises (cells_of k L (states k L xs j)) (cells_of k L s)
    block-rises (own j v l e) =
        subst (λ (s : State). Rises (cells_of k L s) (cells_of k L (next (k * L) (active i v)))) (sym e) (grown-rises v (ℕ_discrete (suc v) (k * L)))
    block-rises (new j l e h _) =
        subst (λ (s : State). Rises (cells_of k L s) (cycle k L i 1)) (sym e)
        (subst (λ (r : List ℕ). Rises r (cycle k L i 1)) (cycle-zero k L i (omega arith)) (cycle-rises k L i (omega arith) 0 1 (omega arith)))

    put-law : (j : ℕ) (s : State) → Planned (k * L) m i (states k L xs) (put j s) → Changed k L m n i xs (store k xs j (cells_of k L s))
    unfolding read
    put-law j s p =
        let st : ℕ → State = states k L xs in
        let y : Legal k (k * L) m i st j s = legal k (k * L) m i even big here st a.lawful p in
        let u : Update m st (states k L (store k xs j (cells_of k L s))) j s = upd j s y.place y.fits in
        let f : j * k + k ≤ length xs = fits j xs a.long y.place in
        let e : length (cells_of k L s) ≡ k = length-cells s y.fits in
        let b : block k xs j ≡ cells_of k L (st j) = block-cells j y.place in
        record {
          stays = record {
            long = length-store k xs j f (cells_of k L s) e ∙ a.long;
            low = low-store L k xs j (cells_of k L s) a.low (low-cells s);
            lawful = stays k (k * L) m i j s st (states k L (store k xs j (cells_of k L s))) a.lawful y u;
            packed = packed-put k (k * L) m i st (states k L (store k xs j (cells_of k L s))) here a.lawful a.packed p u;
            spare = store-past k xs j f (cells_of k L s) e (m * k) (omega (arith, mul-le-mul_right {m = suc j} {n = m} k y.place)) ∙ a.spare;
          };
          flips = flips k (k * L) m i j s st (states k L (store k xs j (cells_of k L s))) a.lawful y u;
          keeps = keeps k (k * L) m i j s st (states k L (store k xs j (cells_of k L s))) a.lawful y u;
          rises = store-rises k xs j f (cells_of k L s) e (subst (λ (r : List ℕ). Rises r (cells_of k L s)) (sym b) (block-rises p));
          adds = omega (arith, store-sum k xs j f (cells_of k L s) e, sum-cells s y.fits, ap sum b, sum-cells (st j) (a.lawful.proper j y.place), y.heavier);
        }

    answer-law : (p : Plan) → Planned (k * L) m i (states k L xs) p → (ys : List ℕ) → carry_out k L xs p ≡ done ys → Changed k L m n i xs ys
    answer-law (put j s) q ys e = subst (λ (r : List ℕ). Changed k L m n i xs r) (cc) (put-law j s q)
    answer-law erase q ys e = absurd (let z : ◌≡◌ {A = ℕ} 0 1 = cc in omega arith)

    -- after an accepted change of bit i
    pub change-law : (ys : List ℕ) → change k L m i xs ≡ done ys → Changed k L m n i xs ys
    unfolding change
    change-law ys e = answer-law (plan (k * L) (states k L xs) m i) (plan-is (k * L) m i (states k L xs)) ys e

    -- the levels of the first x blocks sum to their weights
    sum-total : (x : ℕ) → x ≤ m → block_sum k xs x ≡ total (k * L) (states k L xs) x
    sum-total zero l = refl
    sum-total (suc x) l = omega (arith, sum-total x (omega arith), ap sum (block-cells x l), sum-cells (states k L xs x) (a.lawful.proper x l))

    -- so those of the sheet sum to the weights of its blocks
    pub sum-states : sum xs ≡ total (k * L) (states k L xs) m
    sum-states = omega (arith, sum-split (m * k) xs, sum-blocks k m xs, ap sum a.spare, sum-replicate (n - m * k) 0, sum-total m (le_refl m))

    late : k ≤ m → (p : Plan) → Planned (k * L) m i (states k L xs) p → carry_out k L xs p ≡ no_place_left → (m - k + 1) * (k * L) + (k - 1) ≤ sum xs
    late q (put j s) h e = absurd (let z : ◌≡◌ {A = ℕ} 0 1 = cc in omega arith)
    late q erase h e = omega (arith, sum-states, erase-late k (k * L) (states k L xs) m i here (omega (arith, big)) q a.lawful h)

    -- no place: at least as many levels are raised as are guaranteed
    pub no-place-law : k ≤ m → change k L m i xs ≡ no_place_left → (m - k + 1) * (k * L) + (k - 1) ≤ sum xs
    unfolding change
    no-place-law q e = late q (plan (k * L) (states k L xs) m i) (plan-is (k * L) m i (states k L xs)) e

    -- which block an accepted change sets, and to what
    put-how : (p : Plan) → Planned (k * L) m i (states k L xs) p → (ys : List ℕ) → carry_out k L xs p ≡ done ys
        → (j : ℕ) × (s : State) × Planned (k * L) m i (states k L xs) (put j s) × Update m (states k L xs) (states k L ys) j s
    put-how (put j s) q ys e =
        let y : Legal k (k * L) m i (states k L xs) j s = legal k (k * L) m i even big here (states k L xs) a.lawful q in
        (j, s, q, subst (λ (r : List ℕ). Update m (states k L xs) (states k L r) j s) (cc) (upd j s y.place y.fits))
    put-how erase q ys e = absurd (let z : ◌≡◌ {A = ℕ} 0 1 = cc in omega arith)

    -- a change made puts one state
    pub change-how : (ys : List ℕ) → change k L m i xs ≡ done ys → (j : ℕ) × (s : State) × Planned (k * L) m i (states k L xs) (put j s) × Update m (states k L xs) (states k L ys) j s
    unfolding change
    change-how ys e = put-how (plan (k * L) (states k L xs) m i) (plan-is (k * L) m i (states k L xs)) ys e

    no-place-how₁ : (p : Plan) → Planned (k * L) m i (states k L xs) p → carry_out k L xs p ≡ no_place_left → Planned (k * L) m i (states k L xs) erase
    no-place-how₁ (put j s) q e = absurd (let z : ◌≡◌ {A = ℕ} 0 1 = cc in omega arith)
    no-place-how₁ erase q e = q

    -- no place is the plan to erase
    pub no-place-how : change k L m i xs ≡ no_place_left → Planned (k * L) m i (states k L xs) erase
    unfolding change
    no-place-how e = no-place-how₁ (plan (k * L) (states k L xs) m i) (plan-is (k * L) m i (states k L xs)) e

    answered : (p : Plan) → Planned (k * L) m i (states k L xs) p → AnswerLaw k L m n i xs (carry_out k L xs p)
    answered (put j s) q = put-law j s q
    answered erase q = λ r. late r erase q refl

    -- whatever the change comes to
    pub answer-all : AnswerLaw k L m n i xs (change k L m i xs)
    unfolding change
    answer-all = answered (plan (k * L) (states k L xs) m i) (plan-is (k * L) m i (states k L xs))

  -- ---- runs from the erased sheet

  -- every block of an erased sheet is empty
  pub blank : (j : ℕ) → j < m → states k L (replicate n 0) j ≡ empty
  unfolding states block
  blank j l =
      let f : j * k + k ≤ n = omega (arith, mul-le-mul_right {m = suc j} {n = m} k l) in
      state-one k L (omega arith) g empty (take k (drop (j * k) (replicate n 0)))
      (ap (take k) (drop-replicate (j * k) n 0 (omega arith)) ∙ take-replicate k (n - j * k) 0 (omega arith))

  -- an erased sheet is accepted
  pub start : Accepted k L m n (replicate n 0)
  start = record {
    long = length-replicate n 0;
    low = low-replicate L n 0 zero-le;
    lawful = record {
      proper = λ j l. subst (Proper k (k * L)) (sym (blank j l)) tt;
      apart = λ i j j' l l' h. absurd (subst (HasBit i) (blank j l) h);
    };
    packed = packed-blank k m (states k L (replicate n 0)) blank;
    spare = drop-replicate (m * k) n 0 room;
  }

-- xs is what c accepted changes make of the erased sheet
pub data Run (k L m n : ℕ) : ℕ → List ℕ → Type 0 where
  begin : Run k L m n 0 (replicate n 0)
  more : (c i : ℕ) (xs ys : List ℕ) → Run k L m n c xs → i < k → change k L m i xs ≡ done ys → Run k L m n (suc c) ys

module _ (k L m n : ℕ) (two : 1 < k) (g : 0 < L) (even : k * L % 2 ≡ 0) (room : m * k ≤ n) where
  -- in a run the sheet stays accepted, and its levels sum to the number of changes
  pub run-law : {c : ℕ} {xs : List ℕ} → Run k L m n c xs → Accepted k L m n xs × (sum xs ≡ c)
  run-law begin = (start k L m n two g even room, sum-replicate n 0 ∙ omega arith)
  run-law (more c i xs ys r h e) =
      let w : Accepted k L m n xs × (sum xs ≡ c) = run-law r in
      let d : Changed k L m n i xs ys = change-law k L m n two g even room i h xs w.0 ys e in
      (d.stays, d.adds ∙ ap suc w.1)

  -- demand 3, plain: Erase is not answered before (m - k + 1) k L + k - 1 changes were accepted
  pub plain-late : k ≤ m → (c i : ℕ) (xs : List ℕ) → Run k L m n c xs → i < k → change k L m i xs ≡ no_place_left → (m - k + 1) * (k * L) + (k - 1) ≤ c
  plain-late q c i xs r h e =
      let w : Accepted k L m n xs × (sum xs ≡ c) = run-law r in
      omega (arith, no-place-law k L m n two g even room i h xs w.0 q e)
