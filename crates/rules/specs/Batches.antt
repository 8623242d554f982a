-- How kind 1 stores its index blocks: w digits in base L + 1, in batches 1 to s - 1 after the m blocks. Assumes nothing.
use Rattle.std.specs.Prelude.{List, [], ◌∷◌, ◌++◌, map, ℕ, zero, suc, ◌+◌, ◌-◌, ◌*◌, ◌/◌, ◌%◌, ◌^◌, length, take, drop, replicate}
use Rattle.std.proofs.Math.Decide.{dec_lt}
use Rattle.rules.specs.Search.{pick, both?, Found, at, nowhere, first}
use Rattle.rules.specs.Cells.{sum, same?, block, store, chop, join}
use Rattle.rules.specs.Plain.{Spare}
use Rattle.rules.specs.Stage.{Entry, index, closed}
use Rattle.rules.specs.Staged.{Sheet, stage0, staged, index_blocks, SheetOk, sheet_ok?}

-- the number that digits stand for in base q, most significant first
unfoldable pub number : ℕ → List ℕ → ℕ
number q [] = 0
number q (x ∷ xs) = x * q ^ length xs + number q xs

-- the w digits of u in base q, most significant first
unfoldable pub digits : ℕ → ℕ → ℕ → List ℕ
digits q zero u = []
digits q (suc w) u = u / q ^ w ∷ digits q w (u % q ^ w)

-- an index block is full if all its digits are L
unfoldable pub entry_of : ℕ → ℕ → List ℕ → Entry
entry_of L w b = pick (same? b (replicate w L)) closed (index (number (suc L) b))

-- the cells of an index block
abbrev pub entry_cells : ℕ → ℕ → Entry → List ℕ
entry_cells L w closed = replicate w L
entry_cells L w (index u) = digits (suc L) w u

-- the cells of one batch
abbrev pub batch_cells : ℕ → ℕ → ℕ
batch_cells s w = index_blocks s * w

-- I, the cells of all batches
abbrev pub index_cells : ℕ → ℕ → ℕ
index_cells s w = (s - 1) * batch_cells s w

-- the batch of the stage with d left: batch s - 1 - d, the first of them being batch 1
unfoldable pub batch : ℕ → ℕ → ℕ → List ℕ → ℕ → List ℕ
batch s m w f d = block (batch_cells s w) (drop (m * 2 ^ s) f) (s - 2 - d)

-- what the cells mean at the stage with d left, or at stage 0
abbrev pub sheet_at : ℕ → ℕ → ℕ → ℕ → List ℕ → Found → Sheet
sheet_at s m L w f (at d) = staged d (take (m * 2 ^ s) f) (map (entry_of L w) (chop w (index_blocks s) (batch s m w f d)))
sheet_at s m L w f nowhere = stage0 (take (m * 2 ^ s) f)

-- what n cells mean: the stage is the highest batch with a cell above 0, or stage 0
unfoldable pub decode : ℕ → ℕ → ℕ → ℕ → List ℕ → Sheet
decode s m L w f = sheet_at s m L w f (first (λ d. dec_lt 0 (sum (batch s m w f d))) (s - 1))

-- a sheet written back over the n cells: the m blocks, and the stage's batch
abbrev pub write : ℕ → ℕ → ℕ → ℕ → List ℕ → Sheet → List ℕ
write s m L w f (stage0 xs) = xs ++ drop (m * 2 ^ s) f
write s m L w f (staged d xs es) = xs ++ store (batch_cells s w) (drop (m * 2 ^ s) f) (s - 2 - d) (join (map (entry_cells L w) es))

-- the sheet keeps the rules of its stage, and its spare cells are 0
abbrev pub Sound : ℕ → ℕ → ℕ → ℕ → ℕ → List ℕ → Type 0
Sound s m L w n f = SheetOk s m L (decode s m L w f) × Spare (m * 2 ^ s + index_cells s w) n f

-- whether it does
unfoldable pub sound? : (s m L w n : ℕ) (f : List ℕ) → Dec (Sound s m L w n f)
sound? s m L w n f = both? (sheet_ok? s m L (decode s m L w f)) (same? (drop (m * 2 ^ s + index_cells s w) f) (replicate (n - (m * 2 ^ s + index_cells s w)) 0))
