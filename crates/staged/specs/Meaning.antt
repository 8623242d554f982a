-- The parts of a staged sheet, what a look at it finds, and a change that its stage has no place for. Assumes nothing.
use Rattle.std.specs.Prelude.{◌≢◌, ◌≡◌, List, Option, ℕ, suc, ◌+◌, ◌-◌, ◌*◌, ◌^◌, ◌≤◌, ◌<◌, replicate}
use Rattle.std.proofs.Math.Decide.{dec_lt}
use Rattle.rules.specs.Batches.{batch, batch_cells, decode, digits, index_cells}
use Rattle.rules.specs.Cells.{sum, tabulate}
use Rattle.rules.specs.Plain.{Spare}
use Rattle.rules.specs.Search.{Found, at, first, nowhere}
use Rattle.rules.specs.Staged.{after, change, index_blocks, later, live_count, parity_blocks, parity_count, parity_length}
use Rattle.rules.specs.declared.Answer.TheVariants.{Done}
use Rattle.rules.specs.declared.Settings.{Settings}
use Rattle.cells.specs.declared.blocks.Blocks.{Blocks}
use Rattle.moving.specs.declared.route.ParityBlocks.{ParityBlocks}
use Rattle.index.specs.declared.Region.{Region}
use Rattle.plain.specs.Meaning.{Scanned}
use Rattle.laws.specs.Splice.{part}
use Rattle.plan.specs.Meaning.{IndexFits, LookOf, NeedsMore, ParityFits, Planned, m_blocks, value_in}
use Rattle.plan.specs.declared.Look.{Look}
use Rattle.plan.specs.declared.Place.{Place}
use Rattle.plan.specs.declared.Plan.{Plan}
use Rattle.plan.specs.declared.Need.{Need}
use Rattle.plan.specs.declared.Plan.TheVariants.{Close, Move, Nowhere, Raise, Step, Take}
use Rattle.stage.specs.Meaning.{Passed, PlaceWithin, StagePlace, StageScanned, entries}

-- ---- the stage of a staged sheet

-- the stages whose batch has a cell above 0: the search that tells the stage
abbrev pub stage_found : Settings → List ℕ → Found
stage_found r f = first (λ d. dec_lt 0 (sum (batch r.s r.m r.w f d))) (r.s - 1)

-- the first spare cell
abbrev pub spare_at : Settings → ℕ
spare_at r = r.m * 2 ^ r.s + index_cells r.s r.w

-- the first cell of the batch of the stage with d left
abbrev pub batch_at : Settings → ℕ → ℕ
batch_at r d = r.m * 2 ^ r.s + (r.s - 2 - d) * batch_cells r.s r.w

-- a sheet whose spare cells are 0, at the stage x
pub record AtStage (r : Settings) (f : List ℕ) (x : Found) : Type 0 where
  pub spare : Spare (spare_at r) r.n f
  pub stage : stage_found r f ≡ x

-- the batch of the stage with d left
abbrev pub stage_batch : Settings → List ℕ → ℕ → List ℕ
stage_batch r f d = batch r.s r.m r.w f d

-- a scan of that stage
abbrev pub ScannedAt : Settings → List ℕ → ℕ → Look → Type 0
ScannedAt r f d s = StageScanned (r.s - 1 - d) (batch_at r d) (2 ^ r.s) (parity_length d * r.top) (parity_blocks r.s r.m d (m_blocks r f)) (entries r.top r.w (index_blocks r.s) (stage_batch r f d)) s

-- one that found the stage's rules kept
abbrev pub PassedAt : Settings → List ℕ → ℕ → Look → Type 0
PassedAt r f d s =
    Passed (r.s - 1 - d) (batch_at r d) (2 ^ r.s) (parity_length d * r.top) (parity_blocks r.s r.m d (m_blocks r f)) (entries r.top r.w (index_blocks r.s) (stage_batch r f d)) s

-- where the stage with d left has its index blocks: their first cell and width, from level 0 up to L
abbrev pub region_at : Settings → ℕ → Region
region_at r d = record { cell = batch_at r d; width = r.w; floor = 0; step = r.top }

-- its parity blocks
abbrev pub parity_at : Settings → ℕ → ParityBlocks
parity_at r d = record { len = parity_length d; count = parity_count r.s r.m d }

-- blocks that are the cells of the m blocks, cut into n blocks of w cells
pub record CutInto (r : Settings) (f : List ℕ) (w n : ℕ) (b : Blocks) : Type 0 where
  pub len : b.len ≡ w
  pub count : b.count ≡ n
  pub top : b.top ≡ r.top
  pub cells : b.cells.now ≡ m_blocks r f

-- the parity blocks of the stage with d left
abbrev pub ParityCut : Settings → List ℕ → ℕ → Blocks → Type 0
ParityCut r f d b = CutInto r f (parity_length d) (parity_count r.s r.m d) b

-- ---- what a look finds

-- a staged sheet at stage 0 that keeps the rules
pub record SeenZero (r : Settings) (xs : List ℕ) (b : Look) : Type 0 where
  pub passed : b.answer ≡ Done 0
  pub stage : AtStage r xs nowhere
  pub blocks : Scanned r.k r.top r.m (m_blocks r xs) b

-- a staged sheet that keeps the rules, at the stage from 1 up with d left
pub record SeenStage (r : Settings) (xs : List ℕ) (d : ℕ) (b : Look) : Type 0 where
  pub stage : AtStage r xs (at d)
  pub passed : PassedAt r xs d b

-- a staged sheet that keeps the rules, at stage v
pub data StagedSeen (r : Settings) (f : List ℕ) (b : Look) : ℕ → Type 0 where
  seen-zero : SeenZero r f b → StagedSeen r f b 0
  seen-later : (d : ℕ) → SeenStage r f d b → StagedSeen r f b (r.s - 1 - d)

-- check 6 of a staged sheet
abbrev pub StagedLook : Settings → List ℕ → Look → Type 0
StagedLook r f b = LookOf (StagedSeen r f b) r f b

-- ---- the change

-- what a place means for the change of bit i at the stage with d left
abbrev pub PlaceAt : Settings → List ℕ → ℕ → ℕ → StagePlace → Type 0
PlaceAt r f i d x = PlaceWithin (parity_length d) (parity_count r.s r.m d) r.w (2 ^ r.s) r.top i (m_blocks r f) (stage_batch r f d) x

-- the first cell of index block x of that stage
abbrev pub index_at : Settings → ℕ → ℕ → ℕ
index_at r d x = batch_at r d + x * r.w

-- a change that the stage with d left has no place for: fewer than k parity blocks are live; later batches are all 0;
-- and it goes on to a later stage, with the values of the bits' blocks, once bit i is changed
pub record Stuck (r : Settings) (f : List ℕ) (i d : ℕ) (bits : List (Option Place)) : Type 0 where
  pub left : d ≤ r.s - 1
  pub few : live_count r.s r.m r.top d (m_blocks r f) < 2 ^ r.s
  pub dark : (e : ℕ) → e < d → sum (batch r.s r.m r.w f e) ≡ 0
  pub goes : change r.s r.m r.top i (decode r.s r.m r.top r.w f)
      ≡ later r.s r.m r.top d (m_blocks r f) (tabulate (2 ^ r.s) (after i (value_in bits)))

-- a plan of the change in the stage that a look found, or that it has no place there
pub record StagePlan (r : Settings) (f : List ℕ) (i d : ℕ) (b : Look) (p : Plan) : Type 0 where
  pub here : p ≢ Nowhere → Planned r f i d b.bits p
  pub beyond : p ≡ Nowhere → Stuck r f i d b.bits

-- the plan of a change that goes on to a later stage: the move there, or no place
abbrev pub later_plan : Found → Plan
later_plan (at d) = Move d
later_plan nowhere = Nowhere

-- ---- the parts of a plan within a stage from 1 up

-- the parity block that a plan raises is one that isn't full
abbrev pub BlockReady : Settings → List ℕ → ℕ → Plan → Type 0
BlockReady r f d (Step j v) = Unit {0}
BlockReady r f d (Raise j) = ParityFits r f d j
BlockReady r f d (Close j a) = ParityFits r f d j
BlockReady r f d (Take j a up) = ParityFits r f d j
BlockReady r f d (Move e) = Unit {0}
BlockReady r f d Nowhere = Unit {0}

-- the index block that a plan sets is there
abbrev pub IndexIn : Settings → Plan → Type 0
IndexIn r (Step j v) = Unit {0}
IndexIn r (Raise j) = Unit {0}
IndexIn r (Close j a) = IndexFits r a
IndexIn r (Take j a up) = IndexFits r a
IndexIn r (Move e) = Unit {0}
IndexIn r Nowhere = Unit {0}

-- and all 0 where a free block is taken
abbrev pub IndexReady : Settings → List ℕ → Plan → Type 0
IndexReady r f (Step j v) = Unit {0}
IndexReady r f (Raise j) = Unit {0}
IndexReady r f (Close j a) = IndexFits r a
IndexReady r f (Take j a up) = IndexFits r a × (up ≤ 1) × (sum (part a r.w f) ≡ 0)
IndexReady r f (Move e) = Unit {0}
IndexReady r f Nowhere = Unit {0}

-- what the plan of a change of bit i needs: one level for a parity block that is raised, and what its index block takes
abbrev pub PlanNeeds : Settings → ℕ → List ℕ → Plan → Need → Type 0
PlanNeeds r i f (Step j v) n = Unit {0}
PlanNeeds r i f (Raise j) n = n ≡ record { cells = 1; levels = 1 }
PlanNeeds r i f (Close j a) n = NeedsMore 1 (part a r.w f) (replicate r.w r.top) n
PlanNeeds r i f (Take j a up) n = NeedsMore up (part a r.w f) (digits (suc r.top) r.w (i + 1)) n
PlanNeeds r i f (Move e) n = Unit {0}
PlanNeeds r i f Nowhere n = Unit {0}
