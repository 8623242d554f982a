-- Laws of the plain maps over the states of blocks 0 to m - 1, st : ℕ → State. F is a full block's weight, kL. Assumes nothing.
use Rattle.std.specs.Prelude.{List, [], ◌∷◌, ◌≢◌, ◌⊎◌, ◌≡◌, refl, ◌%◌, ◌*◌, ◌+◌, ◌-◌, ◌<◌, ◌≤◌, suc, zero, ℕ, length}
use Rattle.std.proofs.Common.{inl, inr, ◌∙◌, ap, ap₂, subst, sym, add-mul, eq-or-lt_of_le, le-mul_of_pos_right, le_of_suc-le-suc, le_refl, mod-lt, not-suc-le-zero, arith}
use Rattle.std.proofs.Math.Decide.{ℕ_discrete}
use Rattle.laws.specs.Distinct.{Below, Distinct, pigeon-absent}
use Rattle.rules.specs.Block.{State, active, broken, empty, full, grown, next}
use Rattle.rules.specs.Plain.{HasBit, IsEmpty, NoRepeat, Plan, SameBit, bit_of, erase, has_bit?, is_empty?, plan, plan_from, put, value_at, weight}
use Rattle.rules.specs.Search.{Found, at, first, nowhere}
use Rattle.rules.specs.SearchLaws.{First, first-is, hit, miss}
use Rattle.rules.specs.Stage.{Absent}

-- the sum of a number of each block
abbrev pub tally : (State → ℕ) → (ℕ → State) → ℕ → ℕ
tally f st zero = 0
tally f st (suc m) = tally f st m + f (st m)

-- the sum of the weights
abbrev pub total : ℕ → (ℕ → State) → ℕ → ℕ
total F st m = tally (weight F) st m

-- ---- accepted sheets

-- empty, full, or a step between the two on a bit's cycle
abbrev pub Proper : ℕ → ℕ → State → Type 0
Proper k F empty = Unit {0}
Proper k F full = Unit {0}
Proper k F broken = ⊥
Proper k F (active i v) = (i < k) × (0 < v) × (v < F)

-- every block keeps the rules, and no two have one bit
pub record Lawful (k F m : ℕ) (st : ℕ → State) : Type 0 where
  pub proper : (j : ℕ) → j < m → Proper k F (st j)
  pub apart : (i j j' : ℕ) → j < m → j' < m → HasBit i (st j) → HasBit i (st j') → j ≡ j'

-- an earlier block with the same bit, told by the bit
pub same_bit : (i : ℕ) (s t : State) → HasBit i s → HasBit i t → SameBit s t
same_bit i empty t h q = h
same_bit i full t h q = h
same_bit i broken t h q = h
same_bit i (active j v) t h q = subst (λ (x : ℕ). HasBit x t) h q

pub bit-same : (s t : State) → SameBit s t → (i : ℕ) × HasBit i s × HasBit i t
bit-same empty t h = absurd h
bit-same full t h = absurd h
bit-same broken t h = absurd h
bit-same (active i v) t h = (i, refl, h)

-- blocks that each keep the rules, with no repeated bit
pub lawful-from : (k F m : ℕ) (st : ℕ → State) → ((j : ℕ) → j < m → Proper k F (st j)) → NoRepeat m st → Lawful k F m st
lawful-from k F m st o a = record {
  proper = o;
  apart = λ i j j' l l' h h'.
      let p : ¬ (j < j') = λ q. a j' l' j q (same_bit i (st j) (st j') h h') in
      let q : ¬ (j' < j) = λ q. a j l j' q (same_bit i (st j') (st j) h' h) in
      omega arith;
}

-- lawful states have no bit twice
pub no-repeat : (k F m : ℕ) (st : ℕ → State) → Lawful k F m st → NoRepeat m st
no-repeat k F m st g j l x q c =
    let r : (i : ℕ) × HasBit i (st x) × HasBit i (st j) = bit-same (st x) (st j) c in
    let e : x ≡ j = g.apart r.0 x j (omega arith) l r.1 r.2 in
    omega arith

-- st' is st with block j set to s
pub record Update (m : ℕ) (st st' : ℕ → State) (j : ℕ) (s : State) : Type 0 where
  pub place : j < m
  pub there : st' j ≡ s
  pub rest : (x : ℕ) → x < m → x ≢ j → st' x ≡ st x

-- ---- what a plan and a reading mean

bit-view : (i : ℕ) (s : State) → HasBit i s → (v : ℕ) × (s ≡ active i v)
bit-view i empty h = absurd h
bit-view i full h = absurd h
bit-view i broken h = absurd h
bit-view i (active j v) h = (v, ap (λ (x : ℕ). active x v) (sym h))

-- a block that is empty has that state
pub empty-view : (s : State) → IsEmpty s → s ≡ empty
empty-view empty h = refl
empty-view full h = absurd h
empty-view broken h = absurd h
empty-view (active j v) h = absurd h

-- no block has bit i
abbrev pub NoBlock : ℕ → ℕ → (ℕ → State) → Type 0
NoBlock m i st = (x : ℕ) → x < m → ¬ (HasBit i (st x))

-- what a plan means
pub data Planned (F m i : ℕ) (st : ℕ → State) : Plan → Type 0 where
  own : (j v : ℕ) → j < m → st j ≡ active i v → Planned F m i st (put j (next F (active i v)))
  new : (j : ℕ) → j < m → st j ≡ empty → NoBlock m i st → ((x : ℕ) → x < j → ¬ (IsEmpty (st x))) → Planned F m i st (put j (active i 1))
  out : NoBlock m i st → ((x : ℕ) → x < m → ¬ (IsEmpty (st x))) → Planned F m i st erase

-- what a reading means
pub data Reads (m i : ℕ) (st : ℕ → State) : ℕ → Type 0 where
  from : (j v : ℕ) → j < m → st j ≡ active i v → Reads m i st (v % 2)
  none : NoBlock m i st → Reads m i st 0

module _ (F m i : ℕ) (st : ℕ → State) where
  plan-from-is : {f g : Found} → First (λ j. HasBit i (st j)) m f → First (λ j. IsEmpty (st j)) m g → Planned F m i st (plan_from F st i f g)
  plan-from-is (hit j l h b) g =
      let v : (v : ℕ) × (st j ≡ active i v) = bit-view i (st j) h in
      subst (λ (s : State). Planned F m i st (put j (next F s))) (sym v.1) (own j v.0 l v.1)
  plan-from-is (miss b) (hit j l h c) = new j l (empty-view (st j) h) b c
  plan-from-is (miss b) (miss c) = out b c

  -- the plan of the rules is so
  pub plan-is : Planned F m i st (plan F st m i)
  unfolding plan
  plan-is = plan-from-is (first-is (λ j. has_bit? i (st j)) m) (first-is (λ j. is_empty? (st j)) m)

  value-is : {f : Found} → First (λ j. HasBit i (st j)) m f → Reads m i st (value_at F st f)
  value-is (hit j l h b) =
      let v : (v : ℕ) × (st j ≡ active i v) = bit-view i (st j) h in
      subst (λ (s : State). Reads m i st (weight F s % 2)) (sym v.1) (from j v.0 l v.1)
  value-is (miss b) = none b

  -- the value of the rules is so
  pub bit_is : Reads m i st (bit_of F st m i)
  unfolding bit_of
  bit_is = value-is (first-is (λ j. has_bit? i (st j)) m)

module _ (F m i : ℕ) (st : ℕ → State) where
  value-two : (f : Found) → value_at F st f < 2
  value-two (at j) = mod-lt (weight F (st j)) (omega arith)
  value-two nowhere = omega arith

  -- it is 0 or 1
  pub bit-two : bit_of F st m i < 2
  unfolding bit_of
  bit-two = value-two (first (λ j. has_bit? i (st j)) m)

-- a block that is active at i and v is i's
pub to-bit : {i v : ℕ} {s : State} → s ≡ active i v → HasBit i s
to-bit {i} e = subst (λ (s : State). HasBit i s) (sym e) refl

-- lawful states have one reading
pub reads-one : {k F m i a b : ℕ} {st : ℕ → State} → Lawful k F m st → Reads m i st a → Reads m i st b → a ≡ b
reads-one {i = i} g (from j v l e) (from j' v' l' e') =
    let q : j ≡ j' = g.apart i j j' l l' (to-bit e) (to-bit e') in
    let w : v ≡ v' = cc in
    ap (λ (x : ℕ). x % 2) w
reads-one g (from j v l e) (none h) = absurd (h j l (to-bit e))
reads-one g (none h) (from j v l e) = absurd (h j l (to-bit e))
reads-one g (none h) (none h') = refl

-- ---- the laws of one accepted change

-- state s at block j, for a change of bit i: what makes it a change of that bit alone
pub record Legal (k F m i : ℕ) (st : ℕ → State) (j : ℕ) (s : State) : Type 0 where
  pub place : j < m
  pub fits : Proper k F s
  pub heavier : weight F s ≡ suc (weight F (st j))
  pub was : (x : ℕ) → HasBit x (st j) → x ≡ i
  pub is : (x : ℕ) → HasBit x s → x ≡ i
  pub alone : (x : ℕ) → x < m → x ≢ j → ¬ (HasBit i (st x))
  pub before : Reads m i st (weight F (st j) % 2)
  pub after : (st' : ℕ → State) → Update m st st' j s → Reads m i st' (weight F s % 2)

module _ (F i v : ℕ) where
  grown-proper : {k : ℕ} (d : Dec (suc v ≡ F)) → i < k → v < F → Proper k F (grown d i v)
  grown-proper (yes e) h l = tt
  grown-proper (no e) h l = (h, omega arith, omega arith)

  grown-weight : (d : Dec (suc v ≡ F)) → weight F (grown d i v) ≡ suc v
  grown-weight (yes e) = sym e
  grown-weight (no e) = refl

  grown-bit : (x : ℕ) (d : Dec (suc v ≡ F)) → HasBit x (grown d i v) → x ≡ i
  grown-bit x (yes e) h = absurd h
  grown-bit x (no e) h = h

  -- a full block leaves its bit at 0, and F is even
  grown-reads : (m j : ℕ) (st : ℕ → State) (d : Dec (suc v ≡ F)) → F % 2 ≡ 0 → j < m → st j ≡ grown d i v → ((x : ℕ) → x < m → x ≢ j → ¬ (HasBit i (st x)))
      → Reads m i st (weight F (grown d i v) % 2)
  grown-reads m j st (yes e) q l h b =
      let free : NoBlock m i st = λ x lx. free-at x lx (ℕ_discrete x j) in
      subst (λ (x : ℕ). Reads m i st x) (sym q) (none free)
    where
      free-at : (x : ℕ) → x < m → Dec (x ≡ j) → ¬ (HasBit i (st x))
      free-at x lx (yes p) w = subst (HasBit i) (ap st p ∙ h) w
      free-at x lx (no p) w = b x lx p w
  grown-reads m j st (no e) q l h b = from j (suc v) l h

module _ (k F m i : ℕ) (even : F % 2 ≡ 0) (big : 1 < F) (here : i < k) (st : ℕ → State) (g : Lawful k F m st) where
  others : (j v : ℕ) → j < m → st j ≡ active i v → (x : ℕ) → x < m → x ≢ j → ¬ (HasBit i (st x))
  others j v l e x lx d h = d (g.apart i x j lx l h (to-bit e))

  -- a plan puts a legal state
  pub legal : {j : ℕ} {s : State} → Planned F m i st (put j s) → Legal k F m i st j s
  legal (own j v l e) =
      let o : Proper k F (active i v) = subst (Proper k F) e (g.proper j l) in
      let w : weight F (st j) ≡ v = ap (weight F) e in
      record {
        place = l;
        fits = grown-proper F i v (ℕ_discrete (suc v) F) here o.2;
        heavier = grown-weight F i v (ℕ_discrete (suc v) F) ∙ ap suc (sym w);
        was = λ x h. subst (HasBit x) e h;
        is = λ x h. grown-bit F i v x (ℕ_discrete (suc v) F) h;
        alone = others j v l e;
        before = subst (λ (x : ℕ). Reads m i st (x % 2)) (sym w) (from j v l e);
        after = λ st' u. grown-reads F i v m j st' (ℕ_discrete (suc v) F) even l u.there
            (λ x lx d h. others j v l e x lx d (subst (HasBit i) (u.rest x lx d) h));
      }
  legal (new j l e h _) =
      record {
        place = l;
        fits = (here, omega arith, omega arith);
        heavier = ap (λ (s : State). suc (weight F s)) (sym e);
        was = λ x q. absurd (subst (HasBit x) e q);
        is = λ x q. q;
        alone = λ x lx d. h x lx;
        before = subst (λ (s : State). Reads m i st (weight F s % 2)) (sym e) (none h);
        after = λ st' u. from j 1 l u.there;
      }

-- what holds of s at j, and of st elsewhere, holds of st'
pub upd-all : {m j : ℕ} {s : State} {st st' : ℕ → State} → Update m st st' j s → (P : ℕ → State → Type 0) → P j s → ((x : ℕ) → x < m → x ≢ j → P x (st x))
    → (x : ℕ) → x < m → P x (st' x)
upd-all {m} {j} {s} {st} {st'} u P h b x l = go (ℕ_discrete x j)
  where
    go : Dec (x ≡ j) → P x (st' x)
    go (yes e) = subst (λ (y : ℕ). P y (st' y)) (sym e) (subst (P j) (sym u.there) h)
    go (no d) = subst (P x) (sym (u.rest x l d)) (b x l d)

-- a sum over the blocks changes by what changes at j
module _ (f : State → ℕ) {m j : ℕ} {s : State} {st st' : ℕ → State} (u : Update m st st' j s) where
  low : (n : ℕ) → n ≤ j → tally f st' n ≡ tally f st n
  low zero h = refl
  low (suc n) h = ap₂ (λ (a b : ℕ). a + b) (low n (omega arith)) (ap f (u.rest n (omega (arith, u.place)) (omega arith)))

  high : (n : ℕ) → j < n → n ≤ m → tally f st' n + f (st j) ≡ tally f st n + f s
  high zero h l = absurd (not-suc-le-zero h)
  high (suc n) h l = go (eq-or-lt_of_le (le_of_suc-le-suc h)) (λ q. high n q (omega arith))
    where
      go : (j ≡ n) ⊎ (j < n) → (j < n → tally f st' n + f (st j) ≡ tally f st n + f s) → tally f st' (suc n) + f (st j) ≡ tally f st (suc n) + f s
      go (inl e) r = omega (arith, low n (omega arith), ap (λ (x : ℕ). f (st' x)) (sym e) ∙ ap f u.there, ap (λ (x : ℕ). f (st x)) e)
      go (inr q) r = omega (arith, r q, ap f (u.rest n (omega arith) (omega arith)))

  -- a tally after one state is put
  pub tally-upd : tally f st' m + f (st j) ≡ tally f st m + f s
  tally-upd = high m u.place (le_refl m)

-- states stay lawful where the one that is put is proper, and active for no bit but i, which no other block has
pub put-lawful : (k F m i j : ℕ) (s : State) (st st' : ℕ → State) → Lawful k F m st → Update m st st' j s → Proper k F s → ((x : ℕ) → HasBit x s → x ≡ i)
    → ((x : ℕ) → x < m → x ≢ j → ¬ (HasBit i (st x))) → Lawful k F m st'
put-lawful k F m i j s st st' g u o is alone = record {
  proper = upd-all u (λ x t. Proper k F t) o (λ x l d. g.proper x l);
  apart = λ b x x' lx lx'. upd-all u (λ x t. HasBit b t → HasBit b (st' x') → x ≡ x')
      (λ h. upd-all u (λ x t. HasBit b t → j ≡ x) (λ q. refl)
      (λ z l d q. absurd (alone z l d (subst (λ (c : ℕ). HasBit c (st z)) (is b h) q))) x' lx')
      (λ z l d h. upd-all u (λ x t. HasBit b t → z ≡ x)
      (λ q. absurd (alone z l d (subst (λ (c : ℕ). HasBit c (st z)) (is b q) h)))
      (λ w lw e q. g.apart b z w l lw h q) x' lx')
      x lx;
}

module _ (k F m i j : ℕ) (s : State) (st st' : ℕ → State) (g : Lawful k F m st) (y : Legal k F m i st j s) (u : Update m st st' j s) where
  -- the sheet stays accepted
  pub stays : Lawful k F m st'
  stays = put-lawful k F m i j s st st' g u y.fits y.is y.alone

  -- the new reading differs in bit i
  pub flips : bit_of F st' m i ≡ 1 - bit_of F st m i
  flips = omega (arith, reads-one stays (bit_is F m i st') (y.after st' u), reads-one g (bit_is F m i st) y.before, y.heavier)

  same_reads : {x b : ℕ} → x ≢ i → Reads m x st b → Reads m x st' b
  same_reads {x} d (from z v l e) = from z v l (u.rest z l (λ q. d (y.was x (subst (λ (w : ℕ). HasBit x (st w)) q (to-bit e)))) ∙ e)
  same_reads {x} d (none h) = none (upd-all u (λ _ t. ¬ (HasBit x t)) (λ q. d (y.is x q)) (λ z l e. h z l))

  -- and in no other
  pub keeps : (x : ℕ) → x ≢ i → bit_of F st' m x ≡ bit_of F st m x
  keeps x d = reads-one stays (bit_is F m x st') (same_reads d (bit_is F m x st))

-- ---- Erase is not answered before (m - k + 1) F + k - 1 changes

-- the bits of the active blocks
abbrev pub note_bit : State → List ℕ → List ℕ
note_bit empty r = r
note_bit full r = r
note_bit broken r = r
note_bit (active i v) r = i ∷ r

abbrev pub active_bits : (ℕ → State) → ℕ → List ℕ
active_bits st zero = []
active_bits st (suc m) = note_bit (st m) (active_bits st m)

note-out : (i : ℕ) (s : State) (r : List ℕ) → ¬ (HasBit i s) → Absent i r → Absent i (note_bit s r)
note-out i empty r h o = o
note-out i full r h o = o
note-out i broken r h o = o
note-out i (active j v) r h o = (h, o)

bits_out : (i m : ℕ) (st : ℕ → State) → NoBlock m i st → Absent i (active_bits st m)
bits_out i zero st h = tt
bits_out i (suc m) st h = note-out i (st m) (active_bits st m) (h m (le_refl (suc m))) (bits_out i m st (λ x l. h x (omega arith)))

note-distinct : (s : State) (r : List ℕ) → ((i : ℕ) → HasBit i s → Absent i r) → Distinct r → Distinct (note_bit s r)
note-distinct empty r h o = o
note-distinct full r h o = o
note-distinct broken r h o = o
note-distinct (active j v) r h o = (h j refl, o)

note-below : (k F : ℕ) (s : State) (r : List ℕ) → Proper k F s → Below k r → Below k (note_bit s r)
note-below k F empty r h o = o
note-below k F full r h o = o
note-below k F broken r h o = o
note-below k F (active j v) r h o = (h.0, o)

-- with no empty block, each active one holds 1 at least and each other one F
note-heavy : (k F n w : ℕ) (s : State) (r : List ℕ) → Proper k F s → ¬ (IsEmpty s) → n * F + length r ≤ w + length r * F
    → suc n * F + length (note_bit s r) ≤ w + weight F s + length (note_bit s r) * F
note-heavy k F n w empty r o h l = absurd (h tt)
note-heavy k F n w full r o h l = omega arith
note-heavy k F n w broken r o h l = absurd o
note-heavy k F n w (active j v) r o h l = omega arith

-- at most k - 1 of m blocks active
pub few : (k m F a t : ℕ) → a < k → k ≤ m → 0 < F → m * F + a ≤ t + a * F → (m - k + 1) * F + (k - 1) ≤ t
few k m F a t l q p h =
    let e : (m - k + 1) * F + (k - 1) * F ≡ m * F = sym (add-mul (m - k + 1) (k - 1) F) ∙ ap (λ (x : ℕ). x * F) (omega arith) in
    let f : a * F + (k - 1 - a) * F ≡ (k - 1) * F = sym (add-mul a (k - 1 - a) F) ∙ ap (λ (x : ℕ). x * F) (omega arith) in
    let d : k - 1 - a ≤ (k - 1 - a) * F = le-mul_of_pos_right (k - 1 - a) p in
    omega arith

module _ (k F : ℕ) (st : ℕ → State) where
  shrink : {m : ℕ} → Lawful k F (suc m) st → Lawful k F m st
  shrink g = record { proper = λ j l. g.proper j (omega arith); apart = λ i j j' l l'. g.apart i j j' (omega arith) (omega arith) }

  bits-distinct : (m : ℕ) → Lawful k F m st → Distinct (active_bits st m)
  bits-distinct zero g = tt
  bits-distinct (suc m) g = note-distinct (st m) (active_bits st m)
      (λ i h. bits_out i m st (λ x l q. let e : x ≡ m = g.apart i x m (omega arith) (omega arith) q h in omega arith))
      (bits-distinct m (shrink g))

  bits_below : (m : ℕ) → Lawful k F m st → Below k (active_bits st m)
  bits_below zero g = tt
  bits_below (suc m) g = note-below k F (st m) (active_bits st m) (g.proper m (le_refl (suc m))) (bits_below m (shrink g))

  bits-heavy : (m : ℕ) → Lawful k F m st → ((x : ℕ) → x < m → ¬ (IsEmpty (st x))) → m * F + length (active_bits st m) ≤ total F st m + length (active_bits st m) * F
  bits-heavy zero g h = omega arith
  bits-heavy (suc m) g h = note-heavy k F m (total F st m) (st m) (active_bits st m) (g.proper m (le_refl (suc m))) (h m (le_refl (suc m)))
      (bits-heavy m (shrink g) (λ x l. h x (omega arith)))

  -- without a block of bit i they are fewer than k
  pub bits-few : (m i : ℕ) → i < k → Lawful k F m st → NoBlock m i st → length (active_bits st m) < k
  bits-few m i l g n = pigeon-absent k i (active_bits st m) l (bits_out i m st n) (bits-distinct m g) (bits_below m g)

  -- Theorem 1: where bit i finds no place, the blocks hold this much
  pub erase-late : (m i : ℕ) → i < k → 0 < F → k ≤ m → Lawful k F m st → Planned F m i st erase → (m - k + 1) * F + (k - 1) ≤ total F st m
  erase-late m i l p q g (out n v) =
      few k m F (length (active_bits st m)) (total F st m) (bits-few m i l g n) q p (bits-heavy m g v)
