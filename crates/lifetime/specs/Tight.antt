-- The plain count is met: bits 1 to k - 1 once each, and then bit 0 until Erase. Assumes nothing.
use Rattle.std.specs.Prelude.{List, ◌≡◌, refl, ◌%◌, ◌*◌, ◌+◌, ◌-◌, ◌<◌, ◌≤◌, suc, zero, ℕ, replicate}
use Rattle.std.proofs.Common.{◌∙◌, ap, subst, sym, zero-le, add-mul, le_refl, lt_irrefl, mul-pos, arith}
use Rattle.std.proofs.Math.Decide.{ℕ_discrete}
use Rattle.laws.specs.PlainMaps.{Lawful, Planned, Proper, Update, new, out, own, tally, tally-upd, total, upd-all}
use Rattle.laws.specs.PlainSheet.{Accepted, Run, begin, blank, change-how, more, no-place-how, run-law, sum-states}
use Rattle.rules.specs.Block.{State, active, broken, empty, full, grown, next}
use Rattle.rules.specs.Cells.{sum}
use Rattle.rules.specs.Plain.{HasBit, IsEmpty, change, erase, put, states, weight}
use Rattle.rules.specs.Search.{Result, done, no_place_left}

-- a block of a bit other than 0
abbrev light : State → ℕ
light empty = 0
light full = 0
light broken = 0
light (active zero v) = 0
light (active (suc b) v) = 1

-- the blocks after bits 1 to t, and those while bit 0 is changed
abbrev Early : ℕ → State → Type 0
Early t empty = Unit {0}
Early t full = ⊥
Early t broken = ⊥
Early t (active zero v) = ⊥
Early t (active (suc b) v) = (b < t) × (v ≡ 1)

abbrev Ending : State → Type 0
Ending empty = Unit {0}
Ending full = Unit {0}
Ending broken = ⊥
Ending (active zero v) = Unit {0}
Ending (active (suc b) v) = v ≡ 1

early-more : (t : ℕ) (s : State) → Early t s → Early (suc t) s
early-more t empty h = tt
early-more t full h = h
early-more t broken h = h
early-more t (active zero v) h = h
early-more t (active (suc b) v) h = (omega arith, h.1)

early-ending : (t : ℕ) (s : State) → Early t s → Ending s
early-ending t empty h = tt
early-ending t full h = tt
early-ending t broken h = h
early-ending t (active zero v) h = tt
early-ending t (active (suc b) v) h = h.1

-- a block that is not empty holds 1 at least, and none holds more than F
heavy-one : (k F : ℕ) (s : State) → Proper k F s → 0 < F → ¬ (IsEmpty s) → 1 ≤ weight F s
heavy-one k F empty o p h = absurd (h tt)
heavy-one k F full o p h = p
heavy-one k F broken o p h = absurd o
heavy-one k F (active i v) o p h = o.1

most : (k F : ℕ) (s : State) → Proper k F s → weight F s ≤ F
most k F empty o = zero-le
most k F full o = le_refl F
most k F broken o = absurd o
most k F (active i v) o = omega arith

-- at the end each block is full or light
at-end : (F : ℕ) (s : State) → Ending s → ¬ (IsEmpty s) → ¬ (HasBit 0 s) → weight F s + light s * F ≡ F + light s
at-end F empty o h n = absurd (h tt)
at-end F full o h n = omega arith
at-end F broken o h n = absurd o
at-end F (active zero v) o h n = absurd (n refl)
at-end F (active (suc b) v) o h n = omega arith

module _ (k F : ℕ) (st : ℕ → State) where
  all-heavy : (m : ℕ) → 0 < F → Lawful k F m st → ((x : ℕ) → x < m → ¬ (IsEmpty (st x))) → m ≤ total F st m
  all-heavy m p g h = go m (le_refl m)
    where
      go : (n : ℕ) → n ≤ m → n ≤ total F st n
      go zero l = zero-le
      go (suc n) l = omega (arith, go n (omega arith), heavy-one k F (st n) (g.proper n l) p (h n l))

  all_most : (m : ℕ) → Lawful k F m st → total F st m ≤ m * F
  all_most m g = go m (le_refl m)
    where
      go : (n : ℕ) → n ≤ m → total F st n ≤ n * F
      go zero l = zero-le
      go (suc n) l = omega (arith, go n (omega arith), most k F (st n) (g.proper n l))

  all_end : (m : ℕ) → ((x : ℕ) → x < m → Ending (st x)) → ((x : ℕ) → x < m → ¬ (IsEmpty (st x))) → ((x : ℕ) → x < m → ¬ (HasBit 0 (st x)))
      → total F st m + tally light st m * F ≡ m * F + tally light st m
  all_end m o h e = go m (le_refl m)
    where
      go : (n : ℕ) → n ≤ m → total F st n + tally light st n * F ≡ n * F + tally light st n
      go zero l = omega arith
      go (suc n) l = omega (arith, go n (omega arith), at-end F (st n) (o n l) (h n l) (e n l))

tally-zero : (f : State → ℕ) (st : ℕ → State) (m : ℕ) → ((x : ℕ) → x < m → f (st x) ≡ 0) → tally f st m ≡ 0
tally-zero f st zero h = refl
tally-zero f st (suc m) h = omega (arith, tally-zero f st m (λ x l. h x (omega arith)), h m (le_refl (suc m)))

grown-ending : (v : ℕ) {A : Type 0} (d : Dec A) → Ending (grown d 0 v) × (light (grown d 0 v) ≡ 0)
grown-ending v (yes e) = (tt, refl)
grown-ending v (no e) = (tt, refl)

module _ (k L m n : ℕ) (two : 1 < k) (g : 0 < L) (even : k * L % 2 ≡ 0) (room : m * k ≤ n) (many : k ≤ m) where
  -- after t of the bits from 1 up
  pub record Begun (t : ℕ) : Type 0 where
    pub xs : List ℕ
    pub run : Run k L m n t xs
    pub each : (x : ℕ) → x < m → Early t (states k L xs x)
    pub lights : tally light (states k L xs) m ≡ t

  first_step : (t : ℕ) → suc t < k → Begun t → Begun (suc t)
  first_step t l f = go (change k L m (suc t) f.xs) refl
    where
      st : ℕ → State
      st = states k L f.xs

      acc : Accepted k L m n f.xs × (sum f.xs ≡ t)
      acc = run-law k L m n two g even room f.run

      sort : {j : ℕ} {s : State} (st' : ℕ → State) → Planned (k * L) m (suc t) st (put j s) → Update m st st' j s
          → ((x : ℕ) → x < m → Early (suc t) (st' x)) × (tally light st' m ≡ suc t)
      sort st' (own j v b q) u = absurd (lt_irrefl t (subst (Early t) q (f.each j b)).0)
      sort st' (new j b q h _) u = (
        upd-all u (λ _ s. Early (suc t) s) (le_refl (suc t), refl) (λ x lx d. early-more t (st x) (f.each x lx)),
        omega (arith, f.lights, tally-upd light u, ap light q),
      )

      go : (a : Result (List ℕ)) → change k L m (suc t) f.xs ≡ a → Begun (suc t)
      go (done ys) e =
          let w : (j : ℕ) × (s : State) × Planned (k * L) m (suc t) st (put j s) × Update m st (states k L ys) j s = change-how k L m n two g even room (suc t) l f.xs acc.0 ys e in
          let z : ((x : ℕ) → x < m → Early (suc t) (states k L ys x)) × (tally light (states k L ys) m ≡ suc t) = sort (states k L ys) w.2 w.3 in
          record { xs = ys; run = more t (suc t) f.xs ys f.run l e; each = z.0; lights = z.1 }
      go no_place_left e = absurd (dead (no-place-how k L m n two g even room (suc t) l f.xs acc.0 e))
        where
          dead : Planned (k * L) m (suc t) st erase → ⊥
          dead (out a b) = omega (arith, acc.1, sum-states k L m n two g even room (suc t) l f.xs acc.0, all-heavy k (k * L) st m (mul-pos (omega arith) g) acc.0.lawful b)

  first-all : (t : ℕ) → t < k → Begun t
  first-all zero l = record {
    xs = replicate n 0;
    run = begin;
    each = λ x b. subst (Early 0) (sym (blank k L m n two g even room x b)) tt;
    lights = tally-zero light (states k L (replicate n 0)) m (λ x b. ap light (blank k L m n two g even room x b));
  }
  first-all (suc t) l = first_step t l (first-all t (omega arith))

  -- until Erase
  pub record End : Type 0 where
    pub xs : List ℕ
    pub run : Run k L m n ((m - k + 1) * (k * L) + (k - 1)) xs
    pub out : change k L m 0 xs ≡ no_place_left

  seek : (fuel c : ℕ) (xs : List ℕ) → Run k L m n c xs → ((x : ℕ) → x < m → Ending (states k L xs x)) → tally light (states k L xs) m ≡ k - 1 → m * (k * L) < c + fuel → End
  seek zero c xs r o e h =
      let acc : Accepted k L m n xs × (sum xs ≡ c) = run-law k L m n two g even room r in
      absurd (omega (arith, acc.1, sum-states k L m n two g even room 0 (omega arith) xs acc.0, all_most k (k * L) (states k L xs) m acc.0.lawful))
  seek (suc fuel) c xs r o e h = go (change k L m 0 xs) refl (λ ys. seek fuel (suc c) ys)
    where
      st : ℕ → State
      st = states k L xs

      acc : Accepted k L m n xs × (sum xs ≡ c)
      acc = run-law k L m n two g even room r

      b : 0 < k
      b = omega arith

      sort : {j : ℕ} {s : State} (st' : ℕ → State) → Planned (k * L) m 0 st (put j s) → Update m st st' j s → ((x : ℕ) → x < m → Ending (st' x)) × (tally light st' m ≡ k - 1)
      sort st' (own j v l q) u =
          let d : Ending (next (k * L) (active 0 v)) × (light (next (k * L) (active 0 v)) ≡ 0) = grown-ending v (ℕ_discrete (suc v) (k * L)) in
          (upd-all u (λ _ s. Ending s) d.0 (λ x lx _. o x lx), omega (arith, e, tally-upd light u, ap light q, d.1))
      sort st' (new j l q _ _) u = (upd-all u (λ _ s. Ending s) tt (λ x lx _. o x lx), omega (arith, e, tally-upd light u, ap light q))

      go : (a : Result (List ℕ)) → change k L m 0 xs ≡ a
          → ((ys : List ℕ) → Run k L m n (suc c) ys → ((x : ℕ) → x < m → Ending (states k L ys x)) → tally light (states k L ys) m ≡ k - 1 → m * (k * L) < suc c + fuel → End) → End
      go (done ys) q rec =
          let w : (j : ℕ) × (s : State) × Planned (k * L) m 0 st (put j s) × Update m st (states k L ys) j s = change-how k L m n two g even room 0 b xs acc.0 ys q in
          let z : ((x : ℕ) → x < m → Ending (states k L ys x)) × (tally light (states k L ys) m ≡ k - 1) = sort (states k L ys) w.2 w.3 in
          rec ys (more c 0 xs ys r b q) z.0 z.1 (omega arith)
      go no_place_left q rec = record { xs = xs; run = subst (λ (x : ℕ). Run k L m n x xs) (last (no-place-how k L m n two g even room 0 b xs acc.0 q)) r; out = q }
        where
          last : Planned (k * L) m 0 st erase → c ≡ (m - k + 1) * (k * L) + (k - 1)
          last (out a v) =
              let F : ℕ = k * L in
              let s : (m - k + 1) * F + (k - 1) * F ≡ m * F = sym (add-mul (m - k + 1) (k - 1) F) ∙ ap (λ (x : ℕ). x * F) (omega arith) in
              let y : total F st m + (k - 1) * F ≡ m * F + (k - 1) = subst (λ (x : ℕ). total F st m + x * F ≡ m * F + x) e (all_end k F st m o v a) in
              omega (arith, acc.1, sum-states k L m n two g even room 0 b xs acc.0)

  pub tight : End
  tight =
      let f : Begun (k - 1) = first-all (k - 1) (omega arith) in
      seek (suc (m * (k * L))) (k - 1) f.xs f.run (λ x l. early-ending (k - 1) (states k L f.xs x) (f.each x l)) f.lights (omega arith)
