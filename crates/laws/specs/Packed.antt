-- The two rules of 02, K3, over the states of blocks 0 to m - 1: an erased sheet keeps them, and so does every change. Assumes nothing.
use Rattle.std.proofs.Math.Logic.Dec
use Rattle.std.proofs.Common.{◌∙◌, ap, ap₂, subst, subst₂, sym, le_refl, not-suc-le-zero, arith}
use Rattle.std.specs.Prelude.{◌≡◌, refl, ◌<◌, suc, zero, ℕ}
use Rattle.std.proofs.Math.Decide.{ℕ_discrete}
use Rattle.laws.specs.PlainMaps.{Lawful, Planned, Update, new, own, to-bit, upd-all}
use Rattle.rules.specs.Block.{State, active, empty, grown}
use Rattle.rules.specs.Plain.{FullLast, HasBit, Hole, IsEmpty, IsFull, NoHole, Packed, is_empty?, last_used, put}
use Rattle.rules.specs.Search.{pick}
use Rattle.rules.specs.SearchLaws.{all_more, pick-elim}

-- ---- no hole

-- after an empty block every block is empty
abbrev pub EmptyOn : ℕ → (ℕ → State) → Type 0
EmptyOn m st = (j : ℕ) → j < m → (x : ℕ) → x < j → IsEmpty (st x) → IsEmpty (st j)

-- so it is where there is no hole
pub empty-on : (m : ℕ) (st : ℕ → State) → NoHole m st → EmptyOn m st
empty-on m st h j l x q e = (Dec.not-not (is_empty? (st j))).0 (λ d. h j l x q (e, d))

-- and conversely
pub on-empty : (m : ℕ) (st : ℕ → State) → EmptyOn m st → NoHole m st
on-empty m st h j l x q c = c.1 (h j l x q c.0)

-- ---- the last block that isn't empty

-- the last block that isn't empty: there is none, or it is block j
pub data Last (st : ℕ → State) (m : ℕ) : State → Type 0 where
  none : ((x : ℕ) → x < m → IsEmpty (st x)) → Last st m empty
  used : (j : ℕ) → j < m → ¬ (IsEmpty (st j)) → ((x : ℕ) → x < m → j < x → IsEmpty (st x)) → Last st m (st j)

-- an empty block after it changes nothing
more : (st : ℕ → State) (m : ℕ) → IsEmpty (st m) → {s : State} → Last st m s → Last st (suc m) s
more st m h (none a) = none (all_more a h)
more st m h (used j l n a) = used j (omega arith) n (all_more a (λ q. h))

-- the search of the rules finds it
pub last-is : (st : ℕ → State) (m : ℕ) → Last st m (last_used st m)
last-is st zero = none (λ x l. absurd (not-suc-le-zero l))
last-is st (suc m) = pick-elim (Last st (suc m)) (is_empty? (st m)) (last_used st m) (st m)
    (λ h. more st m h (last-is st m))
    (λ h. used m (le_refl (suc m)) h (λ x l z. absurd (omega arith)))

-- it is one block only
pub last_one : {st : ℕ → State} {m : ℕ} {s : State} → Last st m s → (j : ℕ) → j < m → ¬ (IsEmpty (st j)) → ((x : ℕ) → x < m → j < x → IsEmpty (st x)) → s ≡ st j
last_one (none a) j l n b = absurd (n (a j l))
last_one {st} (used i h d a) j l n b =
    let p : ¬ (i < j) = λ q. n (a j l q) in
    let q : ¬ (j < i) = λ q. d (b i h q) in
    let e : i ≡ j = omega arith in
    ap st e

-- ---- both rules

-- blocks that are all empty keep both rules
pub packed-blank : (k m : ℕ) (st : ℕ → State) → ((j : ℕ) → j < m → st j ≡ empty) → Packed k m st
packed-blank k m st h = (on-empty m st (λ j l x q e. subst IsEmpty (sym (h j l)) tt), λ p. none-full (last-is st m) p.1)
  where
    none-full : {s : State} → Last st m s → IsFull s → ⊥
    none-full (none a) f = f
    none-full (used j l n a) f = subst IsFull (h j l) f

-- states that agree below m have one last block that isn't empty
last-same : (m : ℕ) (st st' : ℕ → State) → ((j : ℕ) → j < m → st j ≡ st' j) → last_used st m ≡ last_used st' m
last-same zero st st' e = refl
last-same (suc m) st st' e = ap₂ (λ (s t : State). pick (is_empty? s) t s) (e m (le_refl (suc m))) (last-same m st st' (λ j l. e j (omega arith)))

-- and both keep the rules, or neither
pub packed-same : (k m : ℕ) (st st' : ℕ → State) → ((j : ℕ) → j < m → st j ≡ st' j) → Packed k m st → Packed k m st'
packed-same k m st st' e c = (
  λ j l x q. subst₂ (λ (s t : State). ¬ (Hole s t)) (e x (omega arith)) (e j l) (c.0 j l x q),
  λ p. c.1 (λ i h. let a = p.0 i h in (a.0, a.1, subst (HasBit i) (sym (e a.0 a.1)) a.2), subst IsFull (sym (last-same m st st' e)) p.1),
)

module _ (k F m i : ℕ) (st st' : ℕ → State) (here : i < k) (g : Lawful k F m st) (c : Packed k m st) where
  -- the bit's block takes its next step: it was in use and still is
  module _ (j v : ℕ) (l : j < m) (e : st j ≡ active i v) where
    stepped : (d : Dec (suc v ≡ F)) → ¬ (IsEmpty (grown d i v))
    stepped (yes f) h = h
    stepped (no f) h = h

    -- so the same blocks are empty
    was-empty : (d : Dec (suc v ≡ F)) → Update m st st' j (grown d i v) → (y : ℕ) → y < m → IsEmpty (st' y) → IsEmpty (st y)
    was-empty d u = upd-all u (λ y t. IsEmpty t → IsEmpty (st y)) (λ h. absurd (stepped d h)) (λ y ly z h. h)

    still-empty : (d : Dec (suc v ≡ F)) → Update m st st' j (grown d i v) → (y : ℕ) → y < m → IsEmpty (st y) → IsEmpty (st' y)
    still-empty d u = upd-all u (λ y t. IsEmpty (st y) → IsEmpty t) (λ q. absurd (subst IsEmpty e q)) (λ y ly z q. q)

    -- a block that fills leaves its bit without one; else the same bits have blocks and the same one is last
    not_last : (d : Dec (suc v ≡ F)) → Update m st st' j (grown d i v) → ¬ (FullLast k m st')
    not_last (yes f) u p =
        let a = p.0 i here in
        upd-all u (λ y t. ¬ (HasBit i t)) (λ h. h) (λ y ly d h. d (g.apart i y j ly l h (to-bit e))) a.0 a.1 a.2
    not_last (no f) u p = c.1 (λ b lb. let a = p.0 b lb in (a.0, a.1, was-bit b a.0 a.1 a.2), was-last (last-is st' m) p.1)
      where
        was-bit : (b y : ℕ) → y < m → HasBit b (st' y) → HasBit b (st y)
        was-bit b = upd-all u (λ y t. HasBit b t → HasBit b (st y)) (λ h. subst (HasBit b) (sym e) h) (λ y ly z h. h)

        was-full : (y : ℕ) → y < m → IsFull (st' y) → IsFull (st y)
        was-full = upd-all u (λ y t. IsFull t → IsFull (st y)) (λ q. absurd q) (λ y ly d q. q)

        was-last : {t : State} → Last st' m t → IsFull t → IsFull (last_used st m)
        was-last (none a) h = absurd h
        was-last (used y ly n a) h =
            let q : last_used st m ≡ st y = last_one (last-is st m) y ly (λ q. n (still-empty (no f) u y ly q)) (λ x lx z. was-empty (no f) u x lx (a x lx z)) in
            subst IsFull (sym q) (was-full y ly h)

    own-packed : (d : Dec (suc v ≡ F)) → Update m st st' j (grown d i v) → Packed k m st'
    own-packed d u = (
      on-empty m st' (λ y ly x q h. still-empty d u y ly (empty-on m st c.0 y ly x q (was-empty d u x (omega arith) h))),
      not_last d u,
    )

  -- the lowest-numbered empty block begins: it is now the last block that isn't empty
  module _ (j : ℕ) (l : j < m) (e : st j ≡ empty) (low : (x : ℕ) → x < j → ¬ (IsEmpty (st x))) (u : Update m st st' j (active i 1)) where
    begun : ¬ (IsEmpty (st' j))
    begun h = subst IsEmpty u.there h

    -- every block after it is empty
    after-it : (y : ℕ) → y < m → j < y → IsEmpty (st' y)
    after-it y ly q = subst IsEmpty (sym (u.rest y ly (omega arith))) (empty-on m st c.0 y ly j q (subst IsEmpty (sym e) tt))

    -- and every empty block stands after it
    empty-after : (x : ℕ) → x < m → IsEmpty (st' x) → j < x
    empty-after x lx h = upd-all u (λ y t. IsEmpty t → j < y) (λ q. absurd q) (λ y ly d q. let w : ¬ (y < j) = λ w. low y w q in omega arith) x lx h

    new-packed : Packed k m st'
    new-packed = (
      on-empty m st' (λ y ly x q h. let a : j < x = empty-after x (omega arith) h in after-it y ly (omega arith)),
      λ p. subst IsFull (last_one (last-is st' m) j l begun after-it ∙ u.there) p.1,
    )

  -- a change keeps both rules
  pub packed-put : {j : ℕ} {s : State} → Planned F m i st (put j s) → Update m st st' j s → Packed k m st'
  packed-put (own j v l e) u = own-packed j v l e (ℕ_discrete (suc v) F) u
  packed-put (new j l e n low) u = new-packed j l e low u
