-- Where the batches stand, and which of them is the stage's, in the words of 01 ("Staged rules"). Assumes nothing.
use Rattle.std.specs.Prelude.{◌≡◌, ℕ, ◌-◌, ◌*◌, ◌≤◌, ◌<◌, take, drop}
use mathlib.Core.List.{List, map}
use Rattle.rules.specs.Cells.{sum, chop}
use Rattle.rules.specs.Staged.{Sheet, stage0, staged, index_blocks}
use Rattle.rules.specs.Batches.{batch_cells, entry_of}
use Rattle.rules.specs.Accept.{batch_start}
use Rattle.rules.specs.declared.Settings.{Settings}

-- the cells of batch b, from the one that the settings record reports
abbrev pub batch_from : Settings → List ℕ → ℕ → List ℕ
batch_from r f b = take (batch_cells r.s r.w) (drop (batch_start r b) f)

-- what the cells mean at the stage of batch b: the m blocks, and the index blocks of that batch
abbrev pub staged_at : Settings → List ℕ → ℕ → Sheet
staged_at r f b = staged (r.s - 1 - b) (take (r.m * r.k) f) (map (entry_of r.top r.w) (chop r.w (index_blocks r.s) (batch_from r f b)))

-- 01's words for the stage: the highest batch with a cell above 0, or stage 0 if there is none
pub data StageIs (r : Settings) (f : List ℕ) : Sheet → Type 0 where
  at-batch : (b : ℕ) → 1 ≤ b → b < r.s → 0 < sum (batch_from r f b) → ((c : ℕ) → b < c → c < r.s → sum (batch_from r f c) ≡ 0) → StageIs r f (staged_at r f b)
  at-0 : ((c : ℕ) → 1 ≤ c → c < r.s → sum (batch_from r f c) ≡ 0) → StageIs r f (stage0 (take (r.m * r.k) f))
