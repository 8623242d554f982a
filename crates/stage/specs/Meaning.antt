-- What the scan of one stage answers and asks, as definitions over the rules. Assumes nothing.
-- bs are the stage's parity blocks and es what its index blocks say; W is the weight of a full parity block.
use Rattle.std.specs.Prelude.{List, [], ◌∷◌, map, ◌≢◌, ◌≡◌, ℕ, zero, suc, ◌+◌, ◌-◌, ◌*◌, ◌%◌, ◌≤◌, ◌<◌, length, get_or, set, take, replicate, Option, Some, None}
use Rattle.std.proofs.Math.Decide.{ℕ_discrete}
use Rattle.std.specs.Option.{option_or}
use Rattle.laws.specs.Live.{live_block}
use Rattle.rules.specs.Accept.{most_bits}
use Rattle.rules.specs.Batches.{digits, entry_cells, entry_of}
use Rattle.rules.specs.Cells.{Low, block, chop, join, store, sum}
use Rattle.rules.specs.Search.{pick}
use Rattle.rules.specs.Stage.{Absent, Entry, Names, StageOk, change_within, closed, index, indexes, live_weights, raise, stay, beyond}
use Rattle.rules.specs.declared.Answer.TheVariants.{Done, BadSheet}
use Rattle.plan.specs.Meaning.{unseen}
use Rattle.cells.specs.declared.blocks.Blocks.{Blocks}
use Rattle.plan.specs.declared.Look.{Look}
use Rattle.plan.specs.declared.Place.{Place}
use Rattle.plan.specs.declared.Plan.{Plan}
use Rattle.plan.specs.declared.Plan.TheVariants.{Close, Nowhere, Raise, Take}
use Rattle.index.specs.Meaning.{BatchFits, entry_at, said}
use Rattle.index.specs.declared.Region.{Region}

-- ---- index blocks

-- what the first q index blocks of w cells say, where the stage has all L levels to itself
abbrev pub entries : ℕ → ℕ → ℕ → List ℕ → List Entry
entries L w q batch = map (entry_of L w) (chop w q batch)

-- what the first q index blocks of a region say, where batch is the region's cells
abbrev pub entries_in : Region → ℕ → List ℕ → List Entry
entries_in region q batch = map (said region.floor region.step region.width) (chop region.width q batch)

-- ---- live blocks

-- the number of the t-th index block that isn't full
abbrev pub open_entry : ℕ → List Entry → ℕ
open_entry t [] = 0
open_entry t (closed ∷ es) = suc (open_entry t es)
open_entry zero (index u ∷ es) = 0
open_entry (suc t) (index u ∷ es) = suc (open_entry t es)

-- u stands in a list first at rank t
pub record FirstAt (u : ℕ) (ts : List ℕ) (t : ℕ) : Type 0 where
  pub inside : t < length ts
  pub there : get_or ts t 0 ≡ u
  pub earlier : (x : ℕ) → x < t → ¬ (get_or ts x 0 ≡ u)

-- the block of rank t: the t-th parity block that isn't full, the t-th index block that isn't full, and the weight
abbrev pub ranked : ℕ → ℕ → List (List ℕ) → List Entry → Place
ranked W t bs es = record { block = live_block W t bs; slot = open_entry t es; weight = get_or (live_weights W bs) t 0 }

-- the block that number u has: that of the first rank where u stands; where u stands nowhere, none
pub data Home (W u : ℕ) (bs : List (List ℕ)) (es : List Entry) : Option Place → Type 0 where
  has : (t : ℕ) → FirstAt u (indexes es) t → Home W u bs es (Some (ranked W t bs es))
  has_not : Absent u (indexes es) → Home W u bs es None

-- ---- the scan

-- what a scan of a stage holds once it has passed bs and es and found them right: the stage and the first cell of its batch, each bit's block, and the first free one
pub record Passed (stage cell k W : ℕ) (bs : List (List ℕ)) (es : List Entry) (s : Look) : Type 0 where
  pub answer : s.answer ≡ Done stage
  pub batch : s.batch ≡ cell
  pub long : length s.bits ≡ most_bits
  pub as_many : length (indexes es) ≡ length (live_weights W bs)
  pub names : Names k (indexes es)
  pub homes : (i : ℕ) → i < most_bits → Home W (suc i) bs es (get_or s.bits i None)
  pub free : Home W 0 bs es s.free

-- a scan of nothing so far
abbrev pub begun : ℕ → ℕ → Look
begun stage cell = record { answer = Done stage; batch = cell; bits = replicate most_bits None; free = None }

-- the scan of a stage that breaks the rules
abbrev pub broken : Look
broken = unseen BadSheet

-- a scan with one more block that no bit has: the first such block stays
abbrev pub with_free : Look → Place → Look
with_free s p = record { answer = s.answer; batch = s.batch; bits = s.bits; free = option_or s.free (Some p) }

-- a scan with the block of bit i
abbrev pub with_own : Look → ℕ → Place → Look
with_own s i p = record { answer = s.answer; batch = s.batch; bits = set s.bits i (Some p); free = s.free }

-- where a scan stands that has found nothing wrong: the first j of count parity blocks and the first x of q index blocks are passed
pub record ScanAt (stage k W count len : ℕ) (cells : List ℕ) (region : Region) (batch : List ℕ) (q j x : ℕ) (s : Look) : Type 0 where
  pub few : k ≤ most_bits
  pub in_cells : j ≤ count
  pub in-batch : x ≤ q
  pub passed : Passed stage region.cell k W (chop len j cells) (entries_in region x batch) s

-- a turn of the scan that has met parity block j, of weight v and not full, and index block x, of number u
pub record Turn (stage k W count len : ℕ) (cells : List ℕ) (region : Region) (batch : List ℕ) (q j x u v : ℕ) (s : Look) : Type 0 where
  pub here : ScanAt stage k W count len cells region batch q j x s
  pub a_block : j < count
  pub an-index : x < q
  pub weight : v ≡ sum (block len cells j)
  pub live : v ≢ W
  pub entry : entry_at region batch x ≡ index u

-- what the scan of a stage asks: count parity blocks of len cells, and 2(k - 1) index blocks in a region
pub record StageFits (len count : ℕ) (region : Region) (k L : ℕ) (cells batch : List ℕ) : Type 0 where
  pub bits : 2 ≤ k
  pub few : k ≤ most_bits
  pub long : 2 ≤ len
  pub brief : len ≤ most_bits
  pub inside : count * len ≤ length cells
  pub short : length cells ≤ 65536
  pub level : 1 ≤ L
  pub low : Low L cells
  pub indexed : BatchFits region (2 * (k - 1)) batch

-- what the scan asks of parity blocks, beside that they lie in the cells
pub record ScanFits (b : Blocks) (region : Region) (k : ℕ) (batch : List ℕ) : Type 0 where
  pub bits : 2 ≤ k
  pub few : k ≤ most_bits
  pub long : 2 ≤ b.len
  pub brief : b.len ≤ most_bits
  pub level : 1 ≤ b.top
  pub indexed : BatchFits region (2 * (k - 1)) batch

-- what it answers: where the stage keeps the rules, each bit's block and the first free one; else that it breaks them, and nothing more
pub data StageScanned (stage cell k W : ℕ) (bs : List (List ℕ)) (es : List Entry) (s : Look) : Type 0 where
  right : Passed stage cell k W bs es s → StageScanned stage cell k W bs es s
  wrong : s ≡ broken → ¬ (StageOk k W bs es) → StageScanned stage cell k W bs es s

-- ---- the place of a change

-- the place of a change: the bit's own block, the first free one, or a later stage
pub data StagePlace : Type 0 where
  Own Free : Place → StagePlace
  Beyond : StagePlace

-- the bit's own block, else the first free one, else a later stage
abbrev pub own_or_free : Option Place → Option Place → StagePlace
own_or_free (Some own) free = Own own
own_or_free None (Some free) = Free free
own_or_free None None = Beyond

-- the place of a change of a bit by a scan
abbrev pub place_in : Look → ℕ → StagePlace
place_in s bit = own_or_free (get_or s.bits bit None) s.free

-- the plan of a change at a place: the bit's own block is raised, and closed if that fills it; a free block is taken, and raised only if its weight is even
abbrev pub plan_at : ℕ → ℕ → ℕ → StagePlace → Plan
plan_at cell w W (Own p) = pick (ℕ_discrete (p.weight + 1) W) (Close p.block (cell + p.slot * w)) (Raise p.block)
plan_at cell w W (Free p) = Take p.block (cell + p.slot * w) (1 - p.weight % 2)
plan_at cell w W Beyond = Nowhere

-- the plan of a change of a bit that a scan gives, with index blocks of w cells
abbrev pub plan_in : Look → ℕ → ℕ → ℕ → Plan
plan_in s bit w W = plan_at s.batch w W (place_in s bit)

-- where a scan found the stage's batch, and the cells of an index block, are numbers that 32 bits hold
pub record Near (s : Look) (w : ℕ) : Type 0 where
  pub batch : s.batch ≤ 65536
  pub width : w ≤ 65536

-- a change of bit i that stays in the stage, at the block p: the blocks and entries after it, and the cells of both
pub record Stays (len count w q L i : ℕ) (cells batch : List ℕ) (p : Place) (bs : List (List ℕ)) (es : List Entry) (after indexed : List ℕ) : Type 0 where
  pub in_cells : p.block < count
  pub in-batch : p.slot < q
  pub weight : p.weight ≡ sum (block len cells p.block)
  pub live : p.weight ≢ len * L
  pub stays : change_within (len * L) L i (chop len count cells) (entries L w q batch) ≡ stay bs es
  pub cells-after : join bs ≡ after
  pub batch-after : join (map (entry_cells L w) es) ≡ indexed

-- what a place means for the change of bit i: its own block is raised, and its index block to full if that fills it;
-- the first free block, whose index block is all 0, takes the bit, raised only if its weight is even; or the change goes on to a later stage, and fewer than k blocks aren't full
pub data PlaceWithin (len count w k L i : ℕ) (cells batch : List ℕ) : StagePlace → Type 0 where
  at_own : (p : Place) → Stays len count w (2 * (k - 1)) L i cells batch p
      (set (chop len count cells) p.block (raise L (block len cells p.block)))
      (pick (ℕ_discrete (suc p.weight) (len * L)) (set (entries L w (2 * (k - 1)) batch) p.slot closed) (entries L w (2 * (k - 1)) batch))
      (store len (take (count * len) cells) p.block (raise L (block len cells p.block)))
      (pick (ℕ_discrete (suc p.weight) (len * L)) (store w (take (2 * (k - 1) * w) batch) p.slot (replicate w L)) (take (2 * (k - 1) * w) batch))
      → PlaceWithin len count w k L i cells batch (Own p)
  at-free : (p : Place) → Stays len count w (2 * (k - 1)) L i cells batch p
      (pick (ℕ_discrete (p.weight % 2) 0) (set (chop len count cells) p.block (raise L (block len cells p.block))) (chop len count cells))
      (set (entries L w (2 * (k - 1)) batch) p.slot (index (suc i)))
      (pick (ℕ_discrete (p.weight % 2) 0) (store len (take (count * len) cells) p.block (raise L (block len cells p.block))) (take (count * len) cells))
      (store w (take (2 * (k - 1) * w) batch) p.slot (digits (suc L) w (suc i)))
      → sum (block w batch p.slot) ≡ 0
      → PlaceWithin len count w k L i cells batch (Free p)
  at_none : change_within (len * L) L i (chop len count cells) (entries L w (2 * (k - 1)) batch) ≡ beyond
      → length (live_weights (len * L) (chop len count cells)) < k
      → PlaceWithin len count w k L i cells batch Beyond
