-- Staged sheets (01, "Staged rules"): k = 2 ^ s bits, m blocks of k cells, and from stage 1 up a list of index blocks. Assumes nothing.
-- A stage is told by how many stages are left, d: stage 0 has s - 1 left and the last has none, so that stage s - 1 - d has d left.
use Rattle.std.specs.Prelude.{List, ◌++◌, ℕ, zero, suc, ◌-◌, ◌*◌, ◌^◌, length, replicate}
use Rattle.std.proofs.Math.Decide.{ℕ_discrete, dec_le}
use Rattle.rules.specs.Search.{pick, Result, done, no_place_left}
use Rattle.rules.specs.Cells.{tabulate, chop, join}
use Rattle.rules.specs.Plain as P
use Rattle.rules.specs.Stage.{Entry, closed, live_weights, value_of, StageOk, stage_ok?, Within, stay, beyond, change_within, record_all, recorded_entries}

-- what the cells mean: the m blocks at stage 0; or the stages left, the m blocks and the index blocks of the stage
pub data Sheet : Type 0 where
  stage0 : List ℕ → Sheet
  staged : ℕ → List ℕ → List Entry → Sheet

-- k / 2 ^ r cells in a parity block of stage r = s - 1 - d
abbrev pub parity_length : ℕ → ℕ
parity_length d = 2 * 2 ^ d

-- 2 ^ r m parity blocks
abbrev pub parity_count : ℕ → ℕ → ℕ → ℕ
parity_count s m d = m * 2 ^ (s - 1 - d)

-- the parity blocks of the stage with d left
abbrev pub parity_blocks : ℕ → ℕ → ℕ → List ℕ → List (List ℕ)
parity_blocks s m d xs = chop (parity_length d) (parity_count s m d) xs

-- how many of them aren't full
abbrev pub live_count : ℕ → ℕ → ℕ → ℕ → List ℕ → ℕ
live_count s m L d xs = length (live_weights (parity_length d * L) (parity_blocks s m d xs))

-- the values once bit i is changed
abbrev pub after : ℕ → (ℕ → ℕ) → ℕ → ℕ
after i f y = pick (ℕ_discrete y i) (1 - f y) (f y)

-- 2(k - 1) index blocks in a stage
abbrev pub index_blocks : ℕ → ℕ
index_blocks s = 2 * (2 ^ s - 1)

-- the move to the stage with d left, recording the values vs; index blocks past the live blocks are full
abbrev pub move_to : ℕ → ℕ → ℕ → ℕ → List ℕ → List ℕ → Sheet
move_to s m L d xs vs =
    staged d (join (record_all (parity_length d * L) L vs (parity_blocks s m d xs)))
    (recorded_entries (parity_length d * L) L 1 vs (parity_blocks s m d xs) ++ replicate (index_blocks s - live_count s m L d xs) closed)

-- the first stage after the one with d left in which at least k parity blocks aren't full
abbrev pub later : ℕ → ℕ → ℕ → ℕ → List ℕ → List ℕ → Result Sheet
later s m L zero xs vs = no_place_left
later s m L (suc d) xs vs = pick (dec_le (2 ^ s) (live_count s m L d xs)) (done (move_to s m L d xs vs)) (later s m L d xs vs)

-- the reading of bit y (D_r)
unfoldable pub read : ℕ → ℕ → ℕ → Sheet → ℕ → ℕ
read s m L (stage0 xs) y = P.read (2 ^ s) L m xs y
read s m L (staged d xs es) y = value_of (parity_length d * L) (parity_blocks s m d xs) es y

-- from stage 0: what the plain map makes of the m blocks, or a later stage
abbrev pub from_stage0 : ℕ → ℕ → ℕ → List ℕ → List ℕ → Result (List ℕ) → Result Sheet
from_stage0 s m L xs vs (done ys) = done (stage0 ys)
from_stage0 s m L xs vs no_place_left = later s m L (s - 1) xs vs

-- from a later stage: what the change within it makes, or a still later one
abbrev pub from_staged : ℕ → ℕ → ℕ → ℕ → List ℕ → List ℕ → Within → Result Sheet
from_staged s m L d xs vs (stay bs es) = done (staged d (join bs) es)
from_staged s m L d xs vs beyond = later s m L d xs vs

-- the change of bit i (E_r, with 01's corrections); a move records the values after the change
unfoldable pub change : ℕ → ℕ → ℕ → ℕ → Sheet → Result Sheet
change s m L i (stage0 xs) = from_stage0 s m L xs (tabulate (2 ^ s) (after i (read s m L (stage0 xs)))) (P.change (2 ^ s) L m i xs)
change s m L i (staged d xs es) =
    from_staged s m L d xs (tabulate (2 ^ s) (after i (read s m L (staged d xs es))))
    (change_within (parity_length d * L) L i (parity_blocks s m d xs) es)

-- the stage's rules
abbrev pub SheetOk : ℕ → ℕ → ℕ → Sheet → Type 0
SheetOk s m L (stage0 xs) = P.BlocksOk (2 ^ s) L m xs
SheetOk s m L (staged d xs es) = StageOk (2 ^ s) (parity_length d * L) (parity_blocks s m d xs) es

-- whether it keeps them
unfoldable pub sheet_ok? : (s m L : ℕ) (x : Sheet) → Dec (SheetOk s m L x)
sheet_ok? s m L (stage0 xs) = P.blocks_ok? (2 ^ s) L m xs
sheet_ok? s m L (staged d xs es) = stage_ok? (2 ^ s) (parity_length d * L) (parity_blocks s m d xs) es

-- ---- on cells, over what the cells mean and how a sheet is written back

-- the reading of bit y
unfoldable pub read_cells : ℕ → ℕ → ℕ → (List ℕ → Sheet) → List ℕ → ℕ → ℕ
read_cells s m L decode f y = read s m L (decode f) y

-- a sheet that was made is written back
abbrev pub written : (List ℕ → Sheet → List ℕ) → List ℕ → Result Sheet → Result (List ℕ)
written write f (done y) = done (write f y)
written write f no_place_left = no_place_left

-- the change of bit i
unfoldable pub change_cells : ℕ → ℕ → ℕ → (List ℕ → Sheet) → (List ℕ → Sheet → List ℕ) → ℕ → List ℕ → Result (List ℕ)
change_cells s m L decode write i f = written write f (change s m L i (decode f))
