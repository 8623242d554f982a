-- Plain sheets: m blocks of k cells and then spare cells (01, "Plain rules"; 02, K3; the paper's D0 and E0). Assumes nothing.
use Rattle.std.specs.Prelude.{◌≡◌, List, ℕ, zero, suc, ◌-◌, ◌*◌, ◌%◌, ◌<◌, drop, replicate}
use Rattle.std.proofs.Math.Decide.{ℕ_discrete}
use Rattle.rules.specs.Search.{pick, both?, three?, not?, all?, some?, Found, at, nowhere, first, Result, done, no_place_left}
use Rattle.rules.specs.Cells.{same?, block, store}
use Rattle.rules.specs.Block.{State, empty, full, broken, active, state_of, cells_of, next}

-- ---- one block

-- the block is active, and its bit is i
abbrev pub HasBit : ℕ → State → Type 0
HasBit i empty = ⊥
HasBit i full = ⊥
HasBit i broken = ⊥
HasBit i (active j v) = i ≡ j

-- whether it is
abbrev pub has_bit? : (i : ℕ) (s : State) → Dec (HasBit i s)
has_bit? i empty = no (λ e. e)
has_bit? i full = no (λ e. e)
has_bit? i broken = no (λ e. e)
has_bit? i (active j v) = ℕ_discrete i j

-- the block is empty
abbrev pub IsEmpty : State → Type 0
IsEmpty empty = Unit {0}
IsEmpty full = ⊥
IsEmpty broken = ⊥
IsEmpty (active j v) = ⊥

-- whether it is
abbrev pub is_empty? : (s : State) → Dec (IsEmpty s)
is_empty? empty = yes tt
is_empty? full = no (λ e. e)
is_empty? broken = no (λ e. e)
is_empty? (active j v) = no (λ e. e)

-- the block is full
abbrev pub IsFull : State → Type 0
IsFull empty = ⊥
IsFull full = Unit {0}
IsFull broken = ⊥
IsFull (active j v) = ⊥

-- whether it is
abbrev pub is_full? : (s : State) → Dec (IsFull s)
is_full? empty = no (λ e. e)
is_full? full = yes tt
is_full? broken = no (λ e. e)
is_full? (active j v) = no (λ e. e)

-- empty, full, or on a cycle
abbrev pub OnCycle : State → Type 0
OnCycle empty = Unit {0}
OnCycle full = Unit {0}
OnCycle broken = ⊥
OnCycle (active j v) = Unit {0}

-- whether it is
abbrev pub on_cycle? : (s : State) → Dec (OnCycle s)
on_cycle? empty = yes tt
on_cycle? full = yes tt
on_cycle? broken = no (λ e. e)
on_cycle? (active j v) = yes tt

-- two active blocks with one bit
abbrev pub SameBit : State → State → Type 0
SameBit empty t = ⊥
SameBit full t = ⊥
SameBit broken t = ⊥
SameBit (active i v) t = HasBit i t

-- whether they are
abbrev pub same_bit? : (s t : State) → Dec (SameBit s t)
same_bit? empty t = no (λ e. e)
same_bit? full t = no (λ e. e)
same_bit? broken t = no (λ e. e)
same_bit? (active i v) t = has_bit? i t

-- an empty block and one that isn't empty
abbrev pub Hole : State → State → Type 0
Hole s t = IsEmpty s × ¬ (IsEmpty t)

-- whether they are
abbrev pub hole? : (s t : State) → Dec (Hole s t)
hole? s t = both? (is_empty? s) (not? (is_empty? t))

-- the sum of a block's levels; F = kL is the weight of a full block
abbrev pub weight : ℕ → State → ℕ
weight F empty = 0
weight F full = F
weight F broken = 0
weight F (active j v) = v

-- ---- the maps, over the states of the m blocks

-- a change sets one block to a new state, or finds no place
pub data Plan : Type 0 where
  put : ℕ → State → Plan
  erase : Plan

-- the bit's block takes its next step; else the lowest-numbered empty block begins; else no place
abbrev pub plan_from : ℕ → (ℕ → State) → ℕ → Found → Found → Plan
plan_from F st i (at j) f = put j (next F (st j))
plan_from F st i nowhere (at j) = put j (active i 1)
plan_from F st i nowhere nowhere = erase

-- the change of bit i
unfoldable pub plan : ℕ → (ℕ → State) → ℕ → ℕ → Plan
plan F st m i = plan_from F st i (first (λ j. has_bit? i (st j)) m) (first (λ j. is_empty? (st j)) m)

-- the parity of the block found, or 0
abbrev pub value_at : ℕ → (ℕ → State) → Found → ℕ
value_at F st (at j) = weight F (st j) % 2
value_at F st nowhere = 0

-- the value of bit i: the parity of its active block, or 0
unfoldable pub bit_of : ℕ → (ℕ → State) → ℕ → ℕ → ℕ
bit_of F st m i = value_at F st (first (λ j. has_bit? i (st j)) m)

-- ---- the same on cells

-- the states of the blocks
unfoldable pub states : ℕ → ℕ → List ℕ → ℕ → State
states k L xs j = state_of k L (block k xs j)

-- the reading of bit i (D0)
unfoldable pub read : ℕ → ℕ → ℕ → List ℕ → ℕ → ℕ
read k L m xs i = bit_of (k * L) (states k L xs) m i

-- a plan written to the cells
abbrev pub carry_out : ℕ → ℕ → List ℕ → Plan → Result (List ℕ)
carry_out k L xs (put j s) = done (store k xs j (cells_of k L s))
carry_out k L xs erase = no_place_left

-- the change of bit i (E0)
unfoldable pub change : ℕ → ℕ → ℕ → ℕ → List ℕ → Result (List ℕ)
change k L m i xs = carry_out k L xs (plan (k * L) (states k L xs) m i)

-- ---- the sheet rules

-- every block is empty, full or on a cycle
abbrev pub AllOnCycle : ℕ → (ℕ → State) → Type 0
AllOnCycle m st = (j : ℕ) → j < m → OnCycle (st j)

-- no active block has the bit of an earlier one
abbrev pub NoRepeat : ℕ → (ℕ → State) → Type 0
NoRepeat m st = (j : ℕ) → j < m → (x : ℕ) → x < j → ¬ (SameBit (st x) (st j))

-- no empty block stands before one that isn't empty
abbrev pub NoHole : ℕ → (ℕ → State) → Type 0
NoHole m st = (j : ℕ) → j < m → (x : ℕ) → x < j → ¬ (Hole (st x) (st j))

-- all k bits have active blocks
abbrev pub AllActive : ℕ → ℕ → (ℕ → State) → Type 0
AllActive k m st = (i : ℕ) → i < k → (j : ℕ) × (j < m) × HasBit i (st j)

-- the last block that isn't empty; empty where there is none
abbrev pub last_used : (ℕ → State) → ℕ → State
last_used st zero = empty
last_used st (suc m) = pick (is_empty? (st m)) (last_used st m) (st m)

-- all k bits have active blocks and the last block that isn't empty is full
abbrev pub FullLast : ℕ → ℕ → (ℕ → State) → Type 0
FullLast k m st = AllActive k m st × IsFull (last_used st m)

-- whether they do and it is
abbrev pub full_last? : (k m : ℕ) (st : ℕ → State) → Dec (FullLast k m st)
full_last? k m st = both? (all? (λ i. some? (λ j. has_bit? i (st j)) m) k) (is_full? (last_used st m))

-- there is no hole, and not all k bits have active blocks with a full block last
abbrev pub Packed : ℕ → ℕ → (ℕ → State) → Type 0
Packed k m st = NoHole m st × ¬ (FullLast k m st)

-- whether it is so
unfoldable pub packed? : (k m : ℕ) (st : ℕ → State) → Dec (Packed k m st)
packed? k m st =
    both? (all? (λ j. all? (λ x. not? (hole? (st x) (st j))) j) m) (not? (full_last? k m st))

-- the blocks keep the rules
abbrev pub BlocksOk : ℕ → ℕ → ℕ → List ℕ → Type 0
BlocksOk k L m xs = AllOnCycle m (states k L xs) × NoRepeat m (states k L xs) × Packed k m (states k L xs)

-- whether they do
unfoldable pub blocks_ok? : (k L m : ℕ) (xs : List ℕ) → Dec (BlocksOk k L m xs)
blocks_ok? k L m xs =
    three? (all? (λ j. on_cycle? (states k L xs j)) m)
    (all? (λ j. all? (λ x. not? (same_bit? (states k L xs x) (states k L xs j))) j) m)
    (packed? k m (states k L xs))

-- the cells from a on, up to n, are 0
abbrev pub Spare : ℕ → ℕ → List ℕ → Type 0
Spare a n xs = drop a xs ≡ replicate (n - a) 0

-- the sheet keeps the rules: its blocks do, and its spare cells are 0
abbrev pub Sound : ℕ → ℕ → ℕ → ℕ → List ℕ → Type 0
Sound k L m n xs = BlocksOk k L m xs × Spare (m * k) n xs

-- whether it does
unfoldable pub sound? : (k L m n : ℕ) (xs : List ℕ) → Dec (Sound k L m n xs)
sound? k L m n xs = both? (blocks_ok? k L m xs) (same? (drop (m * k) xs) (replicate (n - m * k) 0))
