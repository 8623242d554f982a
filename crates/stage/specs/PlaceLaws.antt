-- What follows from the scan of a stage: its check, the reading of each bit, and the place of a change. Assumes nothing.
use mathlib.Core.List.{List, [], ◌∷◌, map}
use Rattle.std.specs.Prelude.{◌≡◌, refl, ℕ, zero, suc, ◌-◌, ◌*◌, ◌%◌, ◌≤◌, ◌<◌, drop, get_or, set, take, Option}
use Rattle.std.proofs.Common.{◌∙◌, sym, le_refl, arith, length-drop, length-take-le}
use Rattle.std.proofs.Math.Path.{ap, ap₂}
use Rattle.std.proofs.Math.Decide.{ℕ_discrete}
use Rattle.std.proofs.Math.ListN.{get_or-map, length}
use Rattle.std.proofs.lemmas.List.{length-map}
use Rattle.laws.specs.Chop.{join-chop, length-chop}
use Rattle.laws.specs.Index.{free-zero, stored-entry}
use Rattle.laws.specs.Lists.{low-drop, low-take}
use Rattle.laws.specs.Live.{live_block}
use Rattle.laws.specs.LiveBlock.{live-block-in, live-block-open, live-block-sum, raise-live-set}
use Rattle.laws.specs.Parts.{chop-take, get_or-chop, join-set, map-set}
use Rattle.laws.specs.Stage.{absent-at, names-few, weight-at, weight-none}
use Rattle.laws.specs.Regions.{steady-nothing}
use Rattle.index.specs.Laws.{said-nothing}
use Rattle.index.specs.Meaning.{said, whole_region}
use Rattle.rules.specs.Accept.{most_bits}
use Rattle.rules.specs.Batches.{entry_cells, entry_of}
use Rattle.rules.specs.Cells.{Low, block, chop, join, store, sum}
use Rattle.rules.specs.Search.{Found, at, first, nowhere, pick}
use Rattle.rules.specs.SearchLaws.{first-eq, hit, miss}
use Rattle.rules.specs.Stage.{Absent, Entry, Names, StageOk, beyond, change_within, chosen, closed, index, indexes, live_weights, raise, stay, value_of}
use Rattle.stage.specs.LiveLaws.{open-entry-in, open-entry-is, set-live-set}
use Rattle.stage.specs.Meaning.{FirstAt, Home, Near, Passed, PlaceWithin, StageFits, Own, Free, at-free, at_none, at_own, entries, entries_in, has, has_not, open_entry, own_or_free, place_in, ranked}
use Rattle.plan.specs.Meaning.{value_in, weight_in}
use Rattle.plan.specs.declared.Look.{Look}
use Rattle.plan.specs.declared.Place.{Place}

-- ---- the check and the reading

-- a stage that a scan has passed keeps the rules
pub stage-ok : {stage cell k W : ℕ} {bs : List (List ℕ)} {es : List Entry} {s : Look} → Passed stage cell k W bs es s → StageOk k W bs es
stage-ok p = (p.as_many, p.names)

-- the block that the scan holds for a bit gives its value
home-read : (W i : ℕ) (bs : List (List ℕ)) (es : List Entry) (o : Option Place) → length (indexes es) ≡ length (live_weights W bs) → Home W (suc i) bs es o → value_of W bs es i ≡ weight_in o % 2
home-read W i bs es o m (has t f) = ap (λ (x : ℕ). x % 2) (weight-at (suc i) t (indexes es) (live_weights W bs) m f.inside f.there f.earlier)
home-read W i bs es o m (has_not n) = ap (λ (x : ℕ). x % 2) (weight-none (suc i) (indexes es) (live_weights W bs) n)

-- each bit reads as the rules say
pub stage-read : {stage cell k W : ℕ} {bs : List (List ℕ)} {es : List Entry} {s : Look} → Passed stage cell k W bs es s → (i : ℕ) → i < most_bits → value_of W bs es i ≡ value_in s.bits i
stage-read {W = W} {bs} {es} p i l = home-read W i bs es _ p.as_many (p.homes i l)

-- ---- the change, by ranks

-- the search for a number finds its first rank
search-at : (u t : ℕ) (ts : List ℕ) → FirstAt u ts t → first (λ x. ℕ_discrete (get_or ts x 0) u) (length ts) ≡ at t
search-at u t ts f = first-eq (λ x. ℕ_discrete (get_or ts x 0) u) (length ts) (hit t f.inside f.there f.earlier)

-- or nothing where it is absent
search-none : (u : ℕ) (ts : List ℕ) → Absent u ts → first (λ x. ℕ_discrete (get_or ts x 0) u) (length ts) ≡ nowhere
search-none u ts o = first-eq (λ x. ℕ_discrete (get_or ts x 0) u) (length ts) (miss (λ x l e. absent-at u x ts o l (sym e)))

module _ (W L i : ℕ) (bs : List (List ℕ)) (es : List Entry) (as_many : length (indexes es) ≡ length (live_weights W bs)) where
  -- the bit's own block
  within-own : (t : ℕ) → FirstAt (suc i) (indexes es) t
      → change_within W L i bs es ≡ stay (set bs (live_block W t bs) (raise L (get_or bs (live_block W t bs) []))) (pick (ℕ_discrete (suc (get_or (live_weights W bs) t 0)) W) (set es (open_entry t es) closed) es)
  unfolding change_within
  within-own t f =
      let l : t < length (live_weights W bs) = omega (arith, f.inside) in
      ap (λ (r : Found). chosen W L i bs es r (first (λ x. ℕ_discrete (get_or (indexes es) x 0) 0) (length (indexes es)))) (search-at (suc i) t (indexes es) f)
      ∙ ap₂ (λ (cs : List (List ℕ)) (fs : List Entry). stay cs (pick (ℕ_discrete (suc (get_or (live_weights W bs) t 0)) W) fs es)) (raise-live-set W L t bs l) (set-live-set closed t es f.inside)

  -- the first free one
  within-free : (t : ℕ) → Absent (suc i) (indexes es) → FirstAt 0 (indexes es) t
      → change_within W L i bs es ≡ stay (pick (ℕ_discrete (get_or (live_weights W bs) t 0 % 2) 0) (set bs (live_block W t bs) (raise L (get_or bs (live_block W t bs) []))) bs) (set es (open_entry t es) (index (suc i)))
  unfolding change_within
  within-free t o f =
      let l : t < length (live_weights W bs) = omega (arith, f.inside) in
      ap₂ (λ (r r' : Found). chosen W L i bs es r r') (search-none (suc i) (indexes es) o) (search-at 0 t (indexes es) f)
      ∙ ap₂ (λ (cs : List (List ℕ)) (fs : List Entry). stay (pick (ℕ_discrete (get_or (live_weights W bs) t 0 % 2) 0) cs bs) fs) (raise-live-set W L t bs l) (set-live-set (index (suc i)) t es f.inside)

  -- neither
  within_none : Absent (suc i) (indexes es) → Absent 0 (indexes es) → change_within W L i bs es ≡ beyond
  unfolding change_within
  within_none o p = ap₂ (λ (r r' : Found). chosen W L i bs es r r') (search-none (suc i) (indexes es) o) (search-none 0 (indexes es) p)

-- ---- the change, on cells

module _ (w n : ℕ) (xs : List ℕ) (inside : n * w ≤ length xs) where
  -- the blocks put together are the cells that they take up
  blocks-kept : join (chop w n xs) ≡ take (n * w) xs
  blocks-kept = ap join (sym (chop-take w n (n * w) xs (le_refl (n * w)))) ∙ join-chop w n (take (n * w) xs) (length-take-le (n * w) xs inside)

  -- with one block set, they are the cells with that block stored
  blocks-set : (j : ℕ) (b : List ℕ) → j < n → join (set (chop w n xs) j b) ≡ store w (take (n * w) xs) j b
  blocks-set j b h = ap (λ (bs : List (List ℕ)). join (set bs j b)) (sym (chop-take w n (n * w) xs (le_refl (n * w)))) ∙ join-set w n (take (n * w) xs) j b (length-take-le (n * w) xs inside) h

-- the cells of the entries are the index blocks again
entries-stored : (L w q : ℕ) (batch : List ℕ) → q * w ≤ length batch → Low L batch → map (entry_cells L w) (entries L w q batch) ≡ chop w q batch
entries-stored L w zero batch h l = refl
entries-stored L w (suc q) batch h l =
    ap₂ (λ (b : List ℕ) (r : List (List ℕ)). b ∷ r) (stored-entry L w (take w batch) (low-take L w batch l) (length-take-le w batch (omega arith)))
    (entries-stored L w q (drop w batch) (omega (arith, length-drop w batch)) (low-drop L w batch l))

module _ (L w q : ℕ) (batch : List ℕ) (inside : q * w ≤ length batch) (low : Low L batch) where
  -- the entries put together as cells
  entries-kept : join (map (entry_cells L w) (entries L w q batch)) ≡ take (q * w) batch
  entries-kept = ap join (entries-stored L w q batch inside low) ∙ blocks-kept w q batch inside

  -- and with one entry set
  entries-set : (x : ℕ) (y : Entry) → x < q → join (map (entry_cells L w) (set (entries L w q batch) x y)) ≡ store w (take (q * w) batch) x (entry_cells L w y)
  entries-set x y h =
      ap join (map-set (entry_cells L w) (entries L w q batch) x y ∙ ap (λ (r : List (List ℕ)). set r x (entry_cells L w y)) (entries-stored L w q batch inside low))
      ∙ blocks-set w q batch inside x (entry_cells L w y) h

-- what blocks of cells say above level 0 is what their cells say
said-whole : (L w : ℕ) (bs : List (List ℕ)) → map (said 0 L w) bs ≡ map (entry_of L w) bs
said-whole L w [] = refl
said-whole L w (b ∷ bs) = ap₂ (λ (e : Entry) (es : List Entry). e ∷ es) (said-nothing L w b) (said-whole L w bs)

-- and so what the index blocks say of a stage that has all levels to itself
pub entries-whole : (cell w L q : ℕ) (batch : List ℕ) → entries_in (whole_region cell w L) q batch ≡ entries L w q batch
entries-whole cell w L q batch = said-whole L w (chop w q batch)

-- ---- the place of a change

-- a function of a choice is the choice of its values
pick-through : {A B C : Type 0} (d : Dec A) (h : B → C) {x y : B} {x' y' : C} → h x ≡ x' → h y ≡ y' → h (pick d x y) ≡ pick d x' y'
pick-through (yes a) h p q = p
pick-through (no a) h p q = q

module _ (cell len count w k L : ℕ) (cells batch : List ℕ) (f : StageFits len count (whole_region cell w L) k L cells batch)
    (as_many : length (indexes (entries L w (2 * (k - 1)) batch)) ≡ length (live_weights (len * L) (chop len count cells))) where
  -- the block of rank t lies in the cells
  block_in : (t : ℕ) → t < length (indexes (entries L w (2 * (k - 1)) batch)) → live_block (len * L) t (chop len count cells) < count
  block_in t h = omega (arith, live-block-in (len * L) t (chop len count cells) (omega arith), length-chop len count cells)

  -- and its index block in the batch
  entry_in : (t : ℕ) → t < length (indexes (entries L w (2 * (k - 1)) batch)) → open_entry t (entries L w (2 * (k - 1)) batch) < 2 * (k - 1)
  entry_in t h = omega (arith, open-entry-in t (entries L w (2 * (k - 1)) batch) h, length-map (chop w (2 * (k - 1)) batch) (entry_of L w), length-chop w (2 * (k - 1)) batch)

  -- and says its number
  entry-is : (t : ℕ) → t < length (indexes (entries L w (2 * (k - 1)) batch))
      → entry_of L w (block w batch (open_entry t (entries L w (2 * (k - 1)) batch))) ≡ index (get_or (indexes (entries L w (2 * (k - 1)) batch)) t 0)
  entry-is t h =
      let x : ℕ = open_entry t (entries L w (2 * (k - 1)) batch) in
      ap (entry_of L w) (sym (get_or-chop w (2 * (k - 1)) batch x (entry_in t h)))
      ∙ sym (get_or-map (entry_of L w) (chop w (2 * (k - 1)) batch) x [])
      ∙ open-entry-is t (entries L w (2 * (k - 1)) batch) (entry_of L w []) h

  -- a change at the bit's own block, of rank t
  own-place : (i t : ℕ) → FirstAt (suc i) (indexes (entries L w (2 * (k - 1)) batch)) t
      → PlaceWithin len count w k L i cells batch (Own (ranked (len * L) t (chop len count cells) (entries L w (2 * (k - 1)) batch)))
  own-place i t r =
      let W : ℕ = len * L in
      let bs : List (List ℕ) = chop len count cells in
      let es : List Entry = entries L w (2 * (k - 1)) batch in
      let l : t < length (live_weights W bs) = omega (arith, r.inside) in
      let j : ℕ = live_block W t bs in
      let b : get_or bs j [] ≡ block len cells j = get_or-chop len count cells j (block_in t r.inside) in
      at_own _ (record {
        in_cells = block_in t r.inside;
        in-batch = entry_in t r.inside;
        weight = live-block-sum W t bs l ∙ ap sum b;
        live = live-block-open W t bs l;
        stays = within-own W L i bs es as_many t r ∙ ap (λ (c : List ℕ). stay (set bs j (raise L c)) (pick (ℕ_discrete (suc (get_or (live_weights W bs) t 0)) W) (set es (open_entry t es) closed) es)) b;
        cells-after = blocks-set len count cells f.inside j (raise L (block len cells j)) (block_in t r.inside);
        batch-after = pick-through (ℕ_discrete (suc (get_or (live_weights W bs) t 0)) W) (λ (e : List Entry). join (map (entry_cells L w) e))
            (entries-set L w (2 * (k - 1)) batch f.indexed.holds (steady-nothing L batch f.indexed.steady) (open_entry t es) closed (entry_in t r.inside)) (entries-kept L w (2 * (k - 1)) batch f.indexed.holds (steady-nothing L batch f.indexed.steady));
      })

  -- a change at the first free block, of rank t
  free-place : (i t : ℕ) → Absent (suc i) (indexes (entries L w (2 * (k - 1)) batch)) → FirstAt 0 (indexes (entries L w (2 * (k - 1)) batch)) t
      → PlaceWithin len count w k L i cells batch (Free (ranked (len * L) t (chop len count cells) (entries L w (2 * (k - 1)) batch)))
  free-place i t o r =
      let W : ℕ = len * L in
      let bs : List (List ℕ) = chop len count cells in
      let es : List Entry = entries L w (2 * (k - 1)) batch in
      let l : t < length (live_weights W bs) = omega (arith, r.inside) in
      let j : ℕ = live_block W t bs in
      let b : get_or bs j [] ≡ block len cells j = get_or-chop len count cells j (block_in t r.inside) in
      at-free _ (record {
        in_cells = block_in t r.inside;
        in-batch = entry_in t r.inside;
        weight = live-block-sum W t bs l ∙ ap sum b;
        live = live-block-open W t bs l;
        stays = within-free W L i bs es as_many t o r ∙ ap (λ (c : List ℕ). stay (pick (ℕ_discrete (get_or (live_weights W bs) t 0 % 2) 0) (set bs j (raise L c)) bs) (set es (open_entry t es) (index (suc i)))) b;
        cells-after = pick-through (ℕ_discrete (get_or (live_weights W bs) t 0 % 2) 0) join (blocks-set len count cells f.inside j (raise L (block len cells j)) (block_in t r.inside)) (blocks-kept len count cells f.inside);
        batch-after = entries-set L w (2 * (k - 1)) batch f.indexed.holds (steady-nothing L batch f.indexed.steady) (open_entry t es) (index (suc i)) (entry_in t r.inside);
      }) (free-zero L w (block w batch (open_entry t es)) (entry-is t r.inside ∙ ap index r.there))

  -- the blocks that the scan holds for the bit and for 0 are its own and the first free one
  placed : (i : ℕ) → i < k → Names k (indexes (entries L w (2 * (k - 1)) batch)) → (own free : Option Place)
      → Home (len * L) (suc i) (chop len count cells) (entries L w (2 * (k - 1)) batch) own
      → Home (len * L) 0 (chop len count cells) (entries L w (2 * (k - 1)) batch) free
      → PlaceWithin len count w k L i cells batch (own_or_free own free)
  placed i h n own free (has t r) g = own-place i t r
  placed i h n own free (has_not a) (has t r) = free-place i t a r
  placed i h n own free (has_not a) (has_not b) =
      let es : List Entry = entries L w (2 * (k - 1)) batch in
      at_none (within_none (len * L) L i (chop len count cells) es as_many a b) (omega (arith, as_many, names-few k i (indexes es) n h b a))

-- the scan's place for a bit is where the rules make the change
pub stage-place : {stage cell len count w k L : ℕ} {cells batch : List ℕ} {s : Look} → StageFits len count (whole_region cell w L) k L cells batch
    → Passed stage cell k (len * L) (chop len count cells) (entries L w (2 * (k - 1)) batch) s
    → (i : ℕ) → i < k → PlaceWithin len count w k L i cells batch (place_in s i)
stage-place {cell = cell} {len} {count} {w} {k} {L} {cells} {batch} f r i h =
    placed cell len count w k L cells batch f r.as_many i h r.names _ _ (r.homes i (omega (arith, f.few))) r.free

-- ---- small numbers

-- what a scan that found the rules kept tells is small
pub scan-near : {stage cell k W w : ℕ} {bs : List (List ℕ)} {es : List Entry} {s : Look} → cell ≤ 65536 → w ≤ 65536 → Passed stage cell k W bs es s → Near s w
scan-near c d r = record { batch = omega (arith, r.batch); width = d }
