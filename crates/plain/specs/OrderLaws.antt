-- Laws of the order of the blocks: those in use stand first, and whether the last of them is full. Assumes nothing.
use Rattle.std.specs.Prelude.{Bool, true, false, List, ◌≡◌, refl, ℕ, suc, ◌+◌, ◌-◌, ◌*◌, ◌≤◌, ◌<◌, take, drop}
use Rattle.std.proofs.Common.{◌∙◌, ap, subst, sym, mul-le-mul_right, not-suc-le-zero, add-one, arith, take-take}
use Rattle.std.proofs.Math.Decide.{dec_lt}
use Rattle.laws.specs.Cut.{block_sum, sum-blocks, sum-split}
use Rattle.laws.specs.Live.{run-keeps}
use Rattle.laws.specs.Splice.{drop-take}
use Rattle.rules.specs.Block.{State, active, full}
use Rattle.rules.specs.Plain.{IsEmpty, IsFull, NoHole, is_empty?, last_used}
use Rattle.rules.specs.SearchLaws.{all_more, pick_no, pick_yes}
use Rattle.cells.specs.Meaning.{RunFrom}
use Rattle.rules.specs.Cells.{block, sum}
use Rattle.plain.specs.Meaning.{EmptyFrom, Place, none, some}

-- ---- the last block in use

-- whether the last block in use below j is full
abbrev pub Ends : (ℕ → State) → ℕ → Bool → Type 0
Ends st j true = IsFull (last_used st j)
Ends st j false = ¬ (IsFull (last_used st j))

module _ (st : ℕ → State) (j : ℕ) where
  -- a block in use is the last
  last-here : ¬ (IsEmpty (st j)) → last_used st (j + 1) ≡ st j
  last-here n = subst (λ (x : ℕ). last_used st x ≡ st j) (sym (add-one j)) (pick_no (is_empty? (st j)) (last_used st j) (st j) n)

  -- past an empty one the last stays
  last-before : IsEmpty (st j) → last_used st (j + 1) ≡ last_used st j
  last-before h = subst (λ (x : ℕ). last_used st x ≡ last_used st j) (sym (add-one j)) (pick_yes (is_empty? (st j)) (last_used st j) (st j) h)

-- ---- the order

-- blocks below j, the first empty one, which is m while there is none, and whether the last one in use is full
pub data Ordered (st : ℕ → State) (m : ℕ) : ℕ → ℕ → Bool → Type 0 where
  -- every block so far is in use
  used : (j : ℕ) (f : Bool) → ((y : ℕ) → y < j → ¬ (IsEmpty (st y))) → Ends st j f → Ordered st m j m f
  -- block e is the first that isn't, and no block after it is
  past : (e : ℕ) (f : Bool) → e < m → ((y : ℕ) → y < e → ¬ (IsEmpty (st y))) → ((y : ℕ) → e ≤ y → y < m → IsEmpty (st y)) → Ends st e f → Ordered st m m e f

-- no block yet
pub order-none : (st : ℕ → State) (m : ℕ) → Ordered st m 0 m false
order-none st m = used 0 false (λ y l. absurd (not-suc-le-zero l)) (λ h. h)

-- one more block in use
order-used : {st : ℕ → State} {m j e : ℕ} {f : Bool} (g : Bool) → Ordered st m j e f → j < m → ¬ (IsEmpty (st j)) → Ends st (j + 1) g → Ordered st m (j + 1) e g
order-used {st} {m} g (used j f a h) l n q =
    used (j + 1) g (subst (λ (x : ℕ). (y : ℕ) → y < x → ¬ (IsEmpty (st y))) (sym (add-one j)) (all_more a n)) q
order-used g (past e f b a r h) l n q = absurd (omega arith)

-- a full one
pub order-full : {st : ℕ → State} {m j e : ℕ} {f : Bool} → Ordered st m j e f → j < m → st j ≡ full → Ordered st m (j + 1) e true
order-full {st} {j = j} o l q =
    let n : ¬ (IsEmpty (st j)) = λ h. subst IsEmpty q h in
    order-used true o l n (subst IsFull (sym (last-here st j n)) (subst IsFull (sym q) tt))

-- an active one
pub order-active : {st : ℕ → State} {m j e b v : ℕ} {f : Bool} → Ordered st m j e f → j < m → st j ≡ active b v → Ordered st m (j + 1) e false
order-active {st} {j = j} o l q =
    let n : ¬ (IsEmpty (st j)) = λ h. subst IsEmpty q h in
    order-used false o l n (λ h. subst IsFull q (subst IsFull (last-here st j n) h))

-- an empty one, after which all are
pub order-empty : {st : ℕ → State} {m j e : ℕ} {f : Bool} → Ordered st m j e f → j < m → ((y : ℕ) → j ≤ y → y < m → IsEmpty (st y)) → Ordered st m m j f
order-empty (used j f a h) l r = past j f l a r h
order-empty (past e f b a r h) l q = absurd (omega arith)

-- ---- what the order of all blocks says

-- the first empty block, once every block is looked at
order-first-at : {st : ℕ → State} {m j e : ℕ} {f : Bool} → Ordered st m j e f → j ≡ m → Place (λ y. IsEmpty (st y)) m m e
order-first-at {st} (used j f a h) q = none (subst (λ (x : ℕ). (y : ℕ) → y < x → ¬ (IsEmpty (st y))) q a)
order-first-at (past e f b a r h) q = some e b (r e (omega arith) b) a

-- the first empty block
pub order-first : {st : ℕ → State} {m e : ℕ} {f : Bool} → Ordered st m m e f → Place (λ y. IsEmpty (st y)) m m e
order-first o = order-first-at o refl

-- no hole, once every block is looked at
order-hole-at : {st : ℕ → State} {m j e : ℕ} {f : Bool} → Ordered st m j e f → j ≡ m → NoHole m st
order-hole-at (used i f a h) p j l x q o = a x (omega arith) o.0
order-hole-at (past e f b a r h) p j l x q o =
    let d : ¬ (x < e) = λ c. a x c o.0 in
    o.1 (r j (omega arith) l)

-- no hole
pub order-hole : {st : ℕ → State} {m e : ℕ} {f : Bool} → Ordered st m m e f → NoHole m st
order-hole o = order-hole-at o refl

-- whether the last block in use is full, once every block is looked at
order-ends-at : {st : ℕ → State} {m j e : ℕ} {f : Bool} → Ordered st m j e f → j ≡ m → Ends st m f
order-ends-at {st} (used j f a h) q = subst (λ (x : ℕ). Ends st x f) q h
order-ends-at {st} {m} (past e f b a r h) q =
    let s : last_used st m ≡ last_used st e = run-keeps (λ y. last_used st y ≡ last_used st e) e m (omega arith) (λ y c d q. last-before st y (r y c d) ∙ q) refl in
    go f h s
  where
    go : (f : Bool) → Ends st e f → last_used st m ≡ last_used st e → Ends st m f
    go true h s = subst IsFull (sym s) h
    go false h s = λ q. h (subst IsFull s q)

-- whether the last block in use is full
pub order-ends : {st : ℕ → State} {m e : ℕ} {f : Bool} → Ordered st m m e f → Ends st m f
order-ends o = order-ends-at o refl

-- ---- blocks that weigh nothing

module _ (k m from : ℕ) (xs : List ℕ) (l : from ≤ m) where
  -- the cells from one block on lie within the m blocks
  pub from-inside : from * k ≤ m * k
  from-inside = mul-le-mul_right {m = from} {n = m} k l

  -- their sum is what the first m blocks weigh more than those before
  rest_sum : sum (take (m * k - from * k) (drop (from * k) xs)) + block_sum k xs from ≡ block_sum k xs m
  rest_sum = omega (
    arith,
    sym (sum-blocks k m xs),
    sum-split (from * k) (take (m * k) xs),
    ap sum (drop-take (from * k) (m * k - from * k) (m * k) xs (omega (arith, from-inside))),
    ap sum (take-take (from * k) (m * k) xs from-inside),
    sum-blocks k from xs,
  )

  -- more blocks weigh no less
  weighs-more : (x r : ℕ) → x ≤ r → block_sum k xs x ≤ block_sum k xs r
  weighs-more x r h = run-keeps (λ y. block_sum k xs x ≤ block_sum k xs y) x r h (λ y c d q. subst (λ (z : ℕ). block_sum k xs x ≤ block_sum k xs z) (sym (add-one y)) (omega arith)) (omega arith)

  -- where those cells sum to 0 every block of them weighs nothing
  rest-nothing : sum (take (m * k - from * k) (drop (from * k) xs)) ≡ 0 → EmptyFrom k xs from m
  rest-nothing e y a b = omega (arith, rest_sum, weighs-more from y a, weighs-more (suc y) m b)

  -- and where every block does they sum to 0
  nothing-rest : EmptyFrom k xs from m → sum (take (m * k - from * k) (drop (from * k) xs)) ≡ 0
  nothing-rest h = omega (arith, rest_sum, run-keeps (λ y. block_sum k xs y ≡ block_sum k xs from) from m l (λ y c d q. ap (block_sum k xs) (add-one y) ∙ omega (arith, h y c d)) refl)

-- past blocks that weigh nothing, the cells that are left tell whether every block does
module _ (k m from j : ℕ) (xs : List ℕ) (l : from ≤ j) (h : j ≤ m) (run : RunFrom k 0 xs from j) where
  -- they are all 0
  pub rest-true : sum (take (m * k - j * k) (drop (j * k) xs)) ≡ 0 → EmptyFrom k xs from m
  rest-true e y a b = go (dec_lt y j)
    where
      go : Dec (y < j) → sum (block k xs y) ≡ 0
      go (yes q) = (run y a q).1 refl
      go (no q) = rest-nothing k m j xs h e y (omega arith) b

  -- or they are not
  pub rest-false : 0 < sum (take (m * k - j * k) (drop (j * k) xs)) → ¬ (EmptyFrom k xs from m)
  rest-false n q = omega (arith, nothing-rest k m j xs h (λ y a b. q y (omega arith) b))
