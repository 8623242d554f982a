-- What the move to a stage makes of the cells, as definitions of the rules. Assumes nothing.
-- The sheet f begins with `count` parity blocks of `len` cells; the stage's batch begins at cell `at`; W = len * L is the weight of a full parity block.
use Rattle.std.specs.Prelude.{Bool, true, false, if◌then◌else◌, List, [], ◌∷◌, ◌++◌, map, ◌≡◌, ℕ, zero, suc, ◌+◌, ◌-◌, ◌*◌, ◌%◌, ◌^◌, ◌≤◌, ◌<◌, length, get_or, take, drop, replicate}
use Rattle.std.proofs.Math.Decide.{dec_lt, ℕ_discrete}
use Rattle.cells.specs.declared.blocks.Blocks.{Blocks}
use Rattle.index.specs.Meaning.{cells_at}
use Rattle.plan.specs.Meaning.{Needs}
use Rattle.laws.specs.Live.{live, live_block}
use Rattle.laws.specs.Regions.{over}
use Rattle.laws.specs.Splice.{part}
use Rattle.rules.specs.Accept.{most_bits}
use Rattle.rules.specs.Batches.{entry_cells}
use Rattle.rules.specs.Cells.{Low, block, chop, join, store, tabulate}
use Rattle.rules.specs.Search.{pick}
use Rattle.rules.specs.Stage.{Entry, closed, index, live_weights, raise, record_all, recorded_entries}
use Rattle.plan.specs.declared.Need.{Need}
use Rattle.moving.specs.declared.route.Mark.{Mark}
use Rattle.moving.specs.declared.route.Mark.TheVariants.{Filled, Raised, Stays}
use Rattle.moving.specs.declared.route.Recorder.{Recorder}
use Rattle.index.specs.declared.Region.{Region}
use Rattle.moving.specs.declared.route.ParityBlocks.{ParityBlocks}
use Rattle.moving.specs.declared.route.Route.{Route}

-- ---- the route

-- the mark of a live block of weight v that records a value: it stays, as its parity is the value; it is raised by one; or it is raised by one and is full then
unfoldable pub mark : ℕ → ℕ → ℕ → Mark
mark W v value = pick (ℕ_discrete (v % 2) value) Stays (pick (ℕ_discrete (suc v) W) Filled Raised)

-- whether a mark has its block raised
abbrev pub raises : Mark → Bool
raises Stays = false
raises Raised = true
raises Filled = true

-- block 0, which stays
abbrev pub blank : Recorder
blank = record { block = 0; mark = Stays }

-- the number of the t-th block that records a value
abbrev pub block_at : List Recorder → ℕ → ℕ
block_at rs t = (get_or rs t blank).block

-- and its mark
abbrev pub mark_at : List Recorder → ℕ → Mark
mark_at rs t = (get_or rs t blank).mark

-- the marks of a list of them
abbrev pub marks_in : List Recorder → List Mark
marks_in rs = map (λ r. r.mark) rs

-- a route for the values vs among the parity blocks bs: how many of them aren't full, and the number and the mark of each that records a value
pub record Routed (W : ℕ) (vs : List ℕ) (bs : List (List ℕ)) (route : Route) : Type 0 where
  pub live : route.live ≡ live W bs
  pub places : (t : ℕ) → t < length vs → block_at route.recorders t ≡ live_block W t bs
  pub marks : (t : ℕ) → t < length vs → mark_at route.recorders t ≡ mark W (get_or (live_weights W bs) t 0) (get_or vs t 0)

-- what the search for a route asks of count parity blocks of len cells: at least k of them aren't full
pub record RouteFits (len count k L : ℕ) (cells : List ℕ) : Type 0 where
  pub few : k ≤ most_bits
  pub enough : k ≤ live (len * L) (chop len count cells)

-- what it answers: the route of k bits, for the values vs among those blocks
pub record RouteOf (b : Blocks) (k : ℕ) (vs : List ℕ) (route : Route) : Type 0 where
  pub parity : route.parity ≡ record { len = b.len; count = b.count }
  pub top : route.top ≡ b.top
  pub bits : route.k ≡ k
  pub routed : Routed (b.len * b.top) vs (chop b.len b.count b.cells.now) route

-- the live blocks counted and the recorders once the blocks bs are passed: the first of them that aren't full, up to the number of the values, have their places and marks
pub record Passing (W : ℕ) (vs : List ℕ) (bs : List (List ℕ)) (n : ℕ) (rs : List Recorder) : Type 0 where
  pub met : n ≡ live W bs
  pub room : length rs ≡ most_bits
  pub places : (t : ℕ) → t < length vs → t < live W bs → block_at rs t ≡ live_block W t bs
  pub marks : (t : ℕ) → t < length vs → t < live W bs → mark_at rs t ≡ mark W (get_or (live_weights W bs) t 0) (get_or vs t 0)

-- ---- the marked blocks

-- the first k places are those of blocks of len cells that lie in the cells
abbrev pub Placed : ℕ → ℕ → List Recorder → List ℕ → Type 0
Placed len k rs cells = (t : ℕ) → t < k → block_at rs t * len + len ≤ length cells

-- the cells once the blocks of the first k places, those that don't stay, are raised by one in turn
unfoldable pub marked_cells : ℕ → ℕ → ℕ → List Recorder → List ℕ → List ℕ
marked_cells len L zero rs cells = cells
marked_cells len L (suc k) rs cells =
    let before : List ℕ = marked_cells len L k rs cells in
    if raises (mark_at rs k) then store len before (block_at rs k) (raise L (block len before (block_at rs k))) else before

-- ---- the batch

-- what the index block of bit x says, by the mark of the bit's block: its number, or full where the value fills the block
abbrev pub named_entry : ℕ → Mark → Entry
named_entry x Stays = index (x + 1)
named_entry x Raised = index (x + 1)
named_entry x Filled = closed

-- what index block x of the batch says after the move by a route of n live blocks: the number of its bit, or full where the value fills the block; 0 past the bits; full past the live blocks
unfoldable pub slot_entry : ℕ → ℕ → List Recorder → ℕ → Entry
slot_entry k n rs x = pick (dec_lt x k) (named_entry x (mark_at rs x)) (pick (dec_lt x n) (index 0) closed)

-- what the first q index blocks say
unfoldable pub slot_entries : ℕ → ℕ → List Recorder → ℕ → List Entry
slot_entries k n rs q = map (slot_entry k n rs) (tabulate q (λ x. x))

-- the cells of index blocks of w cells that say es, above a floor
unfoldable pub row_cells : ℕ → ℕ → ℕ → List Entry → List ℕ
row_cells floor step w es = join (map (cells_at floor step w) es)

-- what it asks to write a batch: 2 (k - 1) index blocks of w cells, wide enough for the numbers up to k
pub record RowFits (w floor step k : ℕ) (batch : List ℕ) : Type 0 where
  pub some : 1 ≤ k
  pub exact : length batch ≡ 2 * (k - 1) * w
  pub short : length batch ≤ 65536
  pub wide : k < suc step ^ w
  pub below : floor + step ≤ 255

-- ---- what the move needs

-- how many marks of a list raise their block
unfoldable pub risen : List Mark → ℕ
risen [] = 0
risen (m ∷ ms) = if raises m then suc (risen ms) else risen ms

-- ---- the whole sheet

-- the cells of the whole batch after the move: index blocks past those of the live blocks are full
unfoldable pub batch_after : ℕ → ℕ → ℕ → ℕ → ℕ → List ℕ → List ℕ → List ℕ
batch_after len count w k L vs f =
    join (map (entry_cells L w) (recorded_entries (len * L) L 1 vs (chop len count f) ++ replicate (2 * (k - 1) - length (live_weights (len * L) (chop len count f))) closed))

-- the sheet after the move: the parity blocks with the values recorded, the cells up to the batch, the batch, and the cells past it
unfoldable pub moved : ℕ → ℕ → ℕ → ℕ → ℕ → ℕ → List ℕ → List ℕ → List ℕ
moved at len count w k L vs f =
    join (record_all (len * L) L vs (chop len count f))
    ++ (drop (count * len) (take at f)
    ++ (batch_after len count w k L vs f
    ++ drop (at + 2 * (k - 1) * w) f))

-- the sheet after the move, with index blocks above a floor: the parity blocks with the values recorded, the cells up to the batch, the batch, and the cells past it
unfoldable pub moved_above : ℕ → ℕ → ℕ → ℕ → ℕ → ℕ → ℕ → ℕ → List ℕ → List ℕ → List ℕ
moved_above at len count w floor step k L vs f =
    join (record_all (len * L) L vs (chop len count f))
    ++ (drop (count * len) (take at f)
    ++ (row_cells floor step w (recorded_entries (len * L) L 1 vs (chop len count f) ++ replicate (2 * (k - 1) - length (live_weights (len * L) (chop len count f))) closed)
    ++ drop (at + 2 * (k - 1) * w) f))

-- a region that has room for the batch of a move: 2 (k - 1) index blocks, wide enough for the numbers up to k, none of whose cells stands above the floor
pub record RegionFits (region : Region) (k : ℕ) (f : List ℕ) : Type 0 where
  pub some : 1 ≤ k
  pub inside : region.cell + 2 * (k - 1) * region.width ≤ length f
  pub short : length f ≤ 65536
  pub wide : k < suc region.step ^ region.width
  pub below : region.floor + region.step ≤ 255
  pub fresh : over region.floor (part region.cell (2 * (k - 1) * region.width) f) ≡ 0

-- a route for the values vs of its bits, among parity blocks that lie before the region: at least as many of them as bits aren't full, and no more than there are index blocks
pub record MoveFits (region : Region) (vs : List ℕ) (route : Route) (f : List ℕ) : Type 0 where
  pub ordered : route.parity.count * route.parity.len ≤ region.cell
  pub low : Low route.top f
  pub as_many : length vs ≡ route.k
  pub enough : route.k ≤ live (route.parity.len * route.top) (chop route.parity.len route.parity.count f)
  pub room : live (route.parity.len * route.top) (chop route.parity.len route.parity.count f) ≤ 2 * (route.k - 1)
  pub routed : Routed (route.parity.len * route.top) vs (chop route.parity.len route.parity.count f) route

-- the sheet after the move of a route's bits to the stage of a region, with the values vs
abbrev pub moved_in : Region → Route → List ℕ → List ℕ → List ℕ
moved_in region route vs f = moved_above region.cell route.parity.len route.parity.count region.width region.floor region.step route.k route.top vs f

-- some values have that route
abbrev pub HasRoute : Region → Route → List ℕ → Type 0
HasRoute region route f = (vs : List ℕ) × MoveFits region vs route f

-- the same recorders among other parity blocks, of cells with another top level
abbrev pub taken_over : ParityBlocks → ℕ → Route → Route
taken_over parity L route = record { parity = parity; top = L; k = route.k; live = route.live; recorders = route.recorders; few = route.few }

-- what the move by a route's recorders needs: whatever the parity blocks, the top level and the values that have that route, it is what the move of these needs
abbrev pub RouteNeeds : Region → Route → List ℕ → Need → Type 0
RouteNeeds region route f need = (parity : ParityBlocks) (L : ℕ) (vs : List ℕ) → MoveFits region vs (taken_over parity L route) f → Needs f (moved_in region (taken_over parity L route) vs f) need

-- the sheet after the move by a route: whatever the values that have that route, it is the move of these
abbrev pub RouteMoves : Region → Route → List ℕ → List ℕ → Type 0
RouteMoves region route f g = (vs : List ℕ) → MoveFits region vs route f → g ≡ moved_in region route vs f
