-- What the look at a sheet, the plan of a change and its need mean, for every kind. Assumes nothing.
use Rattle.std.specs.Prelude.{◌≢◌, ◌≡◌, List, ◌++◌, ℕ, zero, suc, ◌+◌, ◌-◌, ◌*◌, ◌%◌, ◌^◌, ◌≤◌, ◌<◌, length, get_or, take, drop, replicate, Option, Some, None}
use Rattle.laws.specs.Splice.{part, spliced}
use Rattle.rules.specs.Accept.{most_bits}
use Rattle.rules.specs.Batches.{batch, digits, write}
use Rattle.rules.specs.Block.{cycle}
use Rattle.rules.specs.Calls.{Outcome, Sound, change_sheet, changing, check_sheet, read_bit}
use Rattle.rules.specs.Cells.{Low, block, store, sum, tabulate}
use Rattle.laws.specs.Differ.{differ}
use Rattle.rules.specs.Search.{Result, done, no_place_left}
use Rattle.rules.specs.Stage.{raise}
use Rattle.rules.specs.Staged.{after, live_count, move_to, parity_count, parity_length}
use Rattle.rules.specs.declared.Answer.{Answer}
use Rattle.rules.specs.declared.Answer.TheVariants.{BadSheet, Done}
use Rattle.rules.specs.declared.Settings.{Settings}
use Rattle.plan.specs.declared.Look.{Look}
use Rattle.plan.specs.declared.Need.{Need}
use Rattle.plan.specs.declared.Place.{Place}
use Rattle.plan.specs.declared.Plan.{Plan}
use Rattle.plan.specs.declared.Plan.TheVariants.{Close, Move, Nowhere, Raise, Step, Take}

-- ---- the sheet before a look

-- a sheet of n cells with no level above L: checks 2 and 5 have passed
pub record Levelled (r : Settings) (f : List ℕ) : Type 0 where
  pub long : length f ≡ r.n
  pub low : Low r.top f

-- ---- the look

-- a look at nothing, with an answer
abbrev pub unseen : Answer → Look
unseen a = record { answer = a; batch = 0; bits = replicate most_bits None; free = None }

-- the weight of the block that a bit has; 0 where it has none
abbrev pub weight_in : Option Place → ℕ
weight_in None = 0
weight_in (Some p) = p.weight

-- the value of a bit by a look: the parity of its block's weight
abbrev pub value_in : List (Option Place) → ℕ → ℕ
value_in bits i = weight_in (get_or bits i None) % 2

-- check 6: a sheet that breaks the rules is refused; one that keeps them is at the stage answered, its bits are the values found, and the look has Seen it there
pub data LookOf (Seen : ℕ → Type 0) (r : Settings) (f : List ℕ) (b : Look) : Type 0 where
  breaks : b.answer ≡ BadSheet → ¬ (Sound r f) → LookOf Seen r f b
  keeps : (v : ℕ) → b.answer ≡ Done v → Sound r f → ((i : ℕ) → i < r.k → read_bit r f i ≡ value_in b.bits i) → Seen v → LookOf Seen r f b

-- ---- the plan

-- the m blocks of a staged sheet
abbrev pub m_blocks : Settings → List ℕ → List ℕ
m_blocks r f = take (r.m * 2 ^ r.s) f

-- the m blocks with parity block j of the stage with d left raised by one
abbrev pub raised_blocks : Settings → List ℕ → ℕ → ℕ → List ℕ
raised_blocks r f d j = store (parity_length d) (m_blocks r f) j (raise r.top (block (parity_length d) (m_blocks r f) j))

-- and the sheet so
abbrev pub parity_raised : Settings → List ℕ → ℕ → ℕ → List ℕ
parity_raised r f d j = raised_blocks r f d j ++ drop (r.m * 2 ^ r.s) f

-- the sheet after the move to the stage with e left, where the values g are recorded
abbrev pub moved_sheet : Settings → List ℕ → ℕ → (ℕ → ℕ) → List ℕ
moved_sheet r f e g = write r.s r.m r.top r.w f (move_to r.s r.m r.top e (m_blocks r f) (tabulate (2 ^ r.s) g))

-- the sheet once the plan of a change of bit i is carried out, at the stage with d left; the bits' values after the change are g
abbrev pub carried : Settings → ℕ → ℕ → (ℕ → ℕ) → List ℕ → Plan → List ℕ
carried r i d g f (Step j v) = store r.k f j (cycle r.k r.top i (v + 1))
carried r i d g f (Raise j) = parity_raised r f d j
carried r i d g f (Close j a) = spliced a (replicate r.w r.top) (parity_raised r f d j)
carried r i d g f (Take j a zero) = spliced a (digits (suc r.top) r.w (i + 1)) f
carried r i d g f (Take j a (suc up)) = spliced a (digits (suc r.top) r.w (i + 1)) (parity_raised r f d j)
carried r i d g f (Move e) = moved_sheet r f e g
carried r i d g f Nowhere = f

-- the same, or no place
abbrev pub carried_out : Settings → ℕ → ℕ → (ℕ → ℕ) → List ℕ → Plan → Result (List ℕ)
carried_out r i d g f (Step j v) = done (carried r i d g f (Step j v))
carried_out r i d g f (Raise j) = done (carried r i d g f (Raise j))
carried_out r i d g f (Close j a) = done (carried r i d g f (Close j a))
carried_out r i d g f (Take j a up) = done (carried r i d g f (Take j a up))
carried_out r i d g f (Move e) = done (carried r i d g f (Move e))
carried_out r i d g f Nowhere = no_place_left

-- block j of k cells stands at the step of weight v on bit i's cycle, and isn't full
pub record StepFits (r : Settings) (f : List ℕ) (i j v : ℕ) : Type 0 where
  pub place : j * r.k + r.k ≤ length f
  pub below : v < r.k * r.top
  pub cells : block r.k f j ≡ cycle r.k r.top i v

-- parity block j of the stage with d left, one from 1 up, isn't full
pub record ParityFits (r : Settings) (f : List ℕ) (d j : ℕ) : Type 0 where
  pub stage : d < r.s - 1
  pub inside : j < parity_count r.s r.m d
  pub live : sum (block (parity_length d) (m_blocks r f) j) ≢ parity_length d * r.top

-- an index block from cell a on lies past the m blocks, and in the sheet
pub record IndexFits (r : Settings) (a : ℕ) : Type 0 where
  pub past : r.m * 2 ^ r.s ≤ a
  pub inside : a + r.w ≤ r.n

-- a later stage that a sheet can move to: it has enough live parity blocks, an index block for each of them, and its batch is all 0
pub record MoveFits (r : Settings) (f : List ℕ) (e : ℕ) : Type 0 where
  pub stage : e < r.s - 1
  pub enough : 2 ^ r.s ≤ live_count r.s r.m r.top e (m_blocks r f)
  pub fits : live_count r.s r.m r.top e (m_blocks r f) ≤ 2 * (2 ^ r.s - 1)
  pub dark : sum (batch r.s r.m r.w f e) ≡ 0

-- the cells that a plan names are there, and as it takes them to be
abbrev pub Fits : Settings → List ℕ → ℕ → ℕ → Plan → Type 0
Fits r f i d (Step j v) = StepFits r f i j v
Fits r f i d (Raise j) = ParityFits r f d j
Fits r f i d (Close j a) = ParityFits r f d j × IndexFits r a
Fits r f i d (Take j a up) = ParityFits r f d j × IndexFits r a × (up ≤ 1) × (sum (part a r.w f) ≡ 0)
Fits r f i d (Move e) = MoveFits r f e
Fits r f i d Nowhere = Unit {0}

-- a plan of the change of bit i, at the stage with d left: it fits the sheet, and carried out it is the encoding map's change; a move records the values that the look found, after the change
pub record Planned (r : Settings) (f : List ℕ) (i d : ℕ) (bits : List (Option Place)) (p : Plan) : Type 0 where
  pub fits : Fits r f i d p
  pub made : change_sheet r f i ≡ carried_out r i d (after i (value_in bits)) f p

-- ---- the need

-- what it takes to make ys of xs: so many cells move, and so many levels are raised
pub record Needs (xs ys : List ℕ) (n : Need) : Type 0 where
  pub cells : n.cells ≡ differ xs ys
  pub levels : n.levels + sum xs ≡ sum ys

-- the same, with `up` more of both
pub record NeedsMore (up : ℕ) (xs ys : List ℕ) (n : Need) : Type 0 where
  pub cells : n.cells ≡ up + differ xs ys
  pub levels : n.levels + sum xs ≡ up + sum ys

-- ---- the parts of a plan within a stage from 1 up

-- a plan that raises a parity block or sets an index block of the present stage
abbrev pub Within : Plan → Type 0
Within (Step j v) = ⊥
Within (Raise j) = Unit {0}
Within (Close j a) = Unit {0}
Within (Take j a up) = Unit {0}
Within (Move e) = ⊥
Within Nowhere = ⊥

-- a plan of a staged sheet that is no step of a block
abbrev pub Staged : Plan → Type 0
Staged (Step j v) = ⊥
Staged (Raise j) = Unit {0}
Staged (Close j a) = Unit {0}
Staged (Take j a up) = Unit {0}
Staged (Move e) = Unit {0}
Staged Nowhere = ⊥

-- the sheet with the parity block raised that the plan raises
abbrev pub block_raised : Settings → ℕ → List ℕ → Plan → List ℕ
block_raised r d f (Step j v) = f
block_raised r d f (Raise j) = parity_raised r f d j
block_raised r d f (Close j a) = parity_raised r f d j
block_raised r d f (Take j a zero) = f
block_raised r d f (Take j a (suc up)) = parity_raised r f d j
block_raised r d f (Move e) = f
block_raised r d f Nowhere = f

-- the sheet with the index block set that the plan sets
abbrev pub index_set : Settings → ℕ → List ℕ → Plan → List ℕ
index_set r i f (Step j v) = f
index_set r i f (Raise j) = f
index_set r i f (Close j a) = spliced a (replicate r.w r.top) f
index_set r i f (Take j a up) = spliced a (digits (suc r.top) r.w (i + 1)) f
index_set r i f (Move e) = f
index_set r i f Nowhere = f

-- ---- the call from check 6 on

-- a change of bit i from check 6 on
abbrev pub from_sheet : Settings → List ℕ → ℕ → Outcome
from_sheet r f i = changing r f i (check_sheet r f)
