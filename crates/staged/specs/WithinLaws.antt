-- Laws of a change at a stage from 1 up: the plan in the stage, or that it has no place, and the cells as they are put back over the sheet. Assumes nothing.
use Rattle.std.specs.Prelude.{◌≡◌, refl, List, Option, ◌++◌, map, ◌≢◌, take, drop, replicate, set}
use Rattle.std.proofs.Math.Path.{sym, ap}
use Rattle.std.proofs.Common.{ap₂, ◌∙◌, subst, subst₂, mul-le-mul, mul-le-mul_right, length-append, length-drop, take-append-drop, length-take-le, take_all}
use Prim.Native.Nat.{ℕ, zero, suc, ◌+◌, ◌-◌, ◌*◌, ◌%◌, ◌^◌, ◌≤◌, ◌<◌}
use Rattle.std.proofs.Math.Decide.{ℕ_discrete}
use native.Mathlib.Omega.{arith}
use Rattle.std.proofs.Math.ListN.{length}
use Rattle.std.proofs.lemmas.List.{length-replicate}
use Rattle.std.proofs.Math.Seq.{drop-append-add}
use Rattle.rules.specs.Accept.{most_bits}
use Rattle.rules.specs.AcceptLaws.{StagedFacts, staged-bits, staged-width}
use Rattle.rules.specs.Batches.{batch, batch_cells, decode, digits, entry_cells, write}
use Rattle.rules.specs.Calls.{change_sheet}
use Rattle.rules.specs.Cells.{Low, block, join, store, sum, tabulate}
use Rattle.rules.specs.Search.{at, done, pick}
use Rattle.rules.specs.SearchLaws.{pick-elim, pick_no, pick_yes}
use Rattle.rules.specs.Stage.{Entry, Within, beyond, change_within, closed, index, raise, stay}
use Rattle.rules.specs.Staged.{after, change, change_cells, from_staged, index_blocks, later, live_count, parity_blocks, parity_count, parity_length, written}
use Rattle.rules.specs.Staged as S
use Rattle.rules.specs.declared.Settings.{Settings}
use Rattle.laws.specs.Cut.{length-block, length-store, low-block, low-store, store-back, store-sum}
use Rattle.laws.specs.Index.{length_digits}
use Rattle.laws.specs.Kinds.{staged-change}
use Rattle.laws.specs.Lists.{low-append, low-drop, low-take, tabulate-same}
use Rattle.laws.specs.Put.{put-store}
use Rattle.laws.specs.Splice.{part, part-part, spliced}
use Rattle.laws.specs.Stage.{raise-length, raise-low, raise-sum}
use Rattle.plan.specs.Meaning.{Fits, IndexFits, Levelled, ParityFits, Planned, m_blocks, parity_raised, raised_blocks, value_in}
use Rattle.plan.specs.declared.Look.{Look}
use Rattle.plan.specs.declared.Place.{Place}
use Rattle.plan.specs.declared.Plan.TheVariants.{Close, Nowhere, Raise, Take}
use Rattle.stage.specs.Meaning.{Beyond, Free, Near, Own, StagePlace, Stays, at-free, at_none, at_own, entries, place_in, plan_at, plan_in}
use Rattle.stage.specs.PlaceLaws.{scan-near, stage-place, stage-read}
use Rattle.staged.specs.LayoutLaws.{batch-inside, length_most, parity-cells}
use Rattle.staged.specs.Meaning.{AtStage, PassedAt, PlaceAt, Stuck, batch_at, index_at, stage_batch}
use Rattle.staged.specs.ScanLaws.{stage-fits}
use Rattle.staged.specs.StageLaws.{batch-length, dark-staged, decode-at, meaning, stage-below}
use Rattle.staged.specs.ZeroLaws.{cells_in}

-- the cells past the m blocks, with the batch of that stage set to b
abbrev batch_set : Settings → List ℕ → ℕ → List ℕ → List ℕ
batch_set r f d b = store (batch_cells r.s r.w) (drop (r.m * 2 ^ r.s) f) (r.s - 2 - d) b

-- a change of bit i that stays in that stage
abbrev StaysAt : Settings → List ℕ → ℕ → ℕ → Place → List (List ℕ) → List Entry → List ℕ → List ℕ → Type 0
StaysAt r f i d p bs es c b = Stays (parity_length d) (parity_count r.s r.m d) r.w (2 * (2 ^ r.s - 1)) r.top i (m_blocks r f) (stage_batch r f d) p bs es c b

-- ---- where an index block lies

module _ (r : Settings) (p : StagedFacts r) (d : ℕ) (h : d < r.s - 1) (x : ℕ) (l : x < index_blocks r.s) where
  -- in its batch
  slot-in : x * r.w + r.w ≤ batch_cells r.s r.w
  slot-in = omega (arith, mul-le-mul_right {m = suc x} {n = index_blocks r.s} r.w l)

  -- and so in the sheet
  pub index_in : index_at r d x + r.w ≤ r.n
  index_in = omega (arith, slot-in, batch-inside r p d h)

-- ---- one stage's parts, with m blocks of any levels before them

module _ (r : Settings) (p : StagedFacts r) (f : List ℕ) (v : Levelled r f) (d : ℕ) (h : d < r.s - 1) where
  -- the cells past the m blocks
  abbrev rest : List ℕ
  rest = drop (r.m * 2 ^ r.s) f

  -- the m blocks have m times k cells
  pub blocks-long : length (m_blocks r f) ≡ r.m * 2 ^ r.s
  blocks-long = length-take-le (r.m * 2 ^ r.s) f (cells_in r p f v (r.m * 2 ^ r.s) refl)

  -- and so have the parity blocks together
  parities : parity_count r.s r.m d * parity_length d ≡ r.m * 2 ^ r.s
  parities = parity-cells r p d (omega (arith, h))

  -- the batch lies in the cells past the m blocks
  batch-fits : (r.s - 2 - d) * batch_cells r.s r.w + batch_cells r.s r.w ≤ length rest
  batch-fits = omega (arith, length-drop (r.m * 2 ^ r.s) f, v.long, batch-inside r p d h)

  -- the parity blocks are all of the m blocks
  cells_whole : take (parity_count r.s r.m d * parity_length d) (m_blocks r f) ≡ m_blocks r f
  cells_whole = take_all (parity_count r.s r.m d * parity_length d) (m_blocks r f) (omega (arith, parities, blocks-long))

  -- the index blocks are all of the batch
  batch-whole : take (2 * (2 ^ r.s - 1) * r.w) (stage_batch r f d) ≡ stage_batch r f d
  batch-whole = take_all (2 * (2 ^ r.s - 1) * r.w) (stage_batch r f d) (omega (arith, batch-length r p f v d h))

  -- a batch that stays as it is
  batch-kept : batch_set r f d (stage_batch r f d) ≡ rest
  unfolding batch
  batch-kept = store-back (batch_cells r.s r.w) rest (r.s - 2 - d) batch-fits

  -- an index block replaced, after m blocks of any levels
  pub index-put : (c : List ℕ) (x : ℕ) (b : List ℕ) → length c ≡ r.m * 2 ^ r.s → x < index_blocks r.s → length b ≡ r.w
      → spliced (index_at r d x) b (c ++ rest) ≡ c ++ batch_set r f d (store r.w (stage_batch r f d) x b)
  unfolding batch
  index-put c x b e l k =
      put-store c rest (batch_cells r.s r.w) r.w (r.s - 2 - d) x (index_at r d x) b (omega arith) k (slot-in r p d h x l) batch-fits

  -- and as it is before that
  index-part : (c : List ℕ) (x : ℕ) → length c ≡ r.m * 2 ^ r.s → x < index_blocks r.s → part (index_at r d x) r.w (c ++ rest) ≡ block r.w (stage_batch r f d) x
  unfolding batch block
  index-part c x e l =
      let n : ℕ = (r.s - 2 - d) * batch_cells r.s r.w in
      let z : index_at r d x ≡ length c + (n + x * r.w) = omega arith in
      ap (λ (y : ℕ). part y r.w (c ++ rest)) z
      ∙ ap (take r.w) (drop-append-add c rest (n + x * r.w))
      ∙ sym (part-part n (batch_cells r.s r.w) (x * r.w) r.w rest (slot-in r p d h x l))

  -- the sheet is its m blocks and the rest
  whole : f ≡ m_blocks r f ++ rest
  whole = sym (take-append-drop (r.m * 2 ^ r.s) f)

  -- ---- a parity block raised

  module _ (j : ℕ) (l : j < parity_count r.s r.m d) where
    -- it lies in the m blocks
    pub block_in : j * parity_length d + parity_length d ≤ length (m_blocks r f)
    block_in = omega (arith, blocks-long, parities, mul-le-mul_right {m = suc j} {n = parity_count r.s r.m d} (parity_length d) l)

    -- what raising it asks for, as the m blocks are lent
    pub raise-asks : (c len : ℕ) → c ≡ r.m * 2 ^ r.s → len ≡ parity_length d → j * len + len ≤ length (take c f)
    raise-asks c len e₁ e₂ = subst₂ (λ (x y : ℕ). j * x + x ≤ length (take y f)) (sym e₂) (sym e₁) block_in

    -- and what it leaves, put back
    pub raise-told : (c len : ℕ) (ys : List ℕ) → c ≡ r.m * 2 ^ r.s → len ≡ parity_length d → ys ≡ store len (take c f) j (raise r.top (block len (take c f) j)) → ys ++ drop c f ≡ parity_raised r f d j
    raise-told c len ys e₁ e₂ q =
        ap (λ (x : List ℕ). x ++ drop c f) q
        ∙ ap₂ (λ (x y : ℕ). store x (take y f) j (raise r.top (block x (take y f) j)) ++ drop y f) e₂ e₁

    -- its cells before
    abbrev old : List ℕ
    old = block (parity_length d) (m_blocks r f) j

    -- as many as a parity block has
    old-long : length old ≡ parity_length d
    old-long = length-block (parity_length d) (m_blocks r f) j block_in

    -- and raised, still as many
    pub new-long : length (raise r.top old) ≡ parity_length d
    new-long = raise-length r.top old ∙ old-long

    -- none of them is above L
    old-low : Low r.top old
    old-low = low-block r.top (parity_length d) (m_blocks r f) j (low-take r.top (r.m * 2 ^ r.s) f v.low)

    -- the m blocks keep their length
    pub raised_long : length (raised_blocks r f d j) ≡ r.m * 2 ^ r.s
    raised_long = length-store (parity_length d) (m_blocks r f) j block_in (raise r.top old) new-long ∙ blocks-long

    -- the sheet is still levelled
    pub raised-levelled : Levelled r (parity_raised r f d j)
    raised-levelled = record {
      long = omega (arith, length-append (raised_blocks r f d j) rest, raised_long, length-drop (r.m * 2 ^ r.s) f, v.long, cells_in r p f v (r.m * 2 ^ r.s) refl);
      low = low-append r.top (raised_blocks r f d j) rest
          (low-store r.top (parity_length d) (m_blocks r f) j (raise r.top old) (low-take r.top (r.m * 2 ^ r.s) f v.low) (raise-low r.top old old-low))
          (low-drop r.top (r.m * 2 ^ r.s) f v.low);
    }

    -- a block that is not full, raised, makes one level more
    pub blocks-raised : sum old ≢ parity_length d * r.top → sum (raised_blocks r f d j) ≡ suc (sum (m_blocks r f))
    blocks-raised n =
        let g : sum (raise r.top old) ≡ suc (sum old) = raise-sum r.top old old-low (λ q. n (q ∙ ap (λ (y : ℕ). y * r.top) old-long)) in
        omega (arith, store-sum (parity_length d) (m_blocks r f) j block_in (raise r.top old) new-long)

-- a full parity block's weight is small
pub full-most : (r : Settings) → StagedFacts r → (d : ℕ) → d < r.s - 1 → (len : ℕ) → len ≡ parity_length d → len * r.top ≤ most_bits * 255
full-most r p d h len e =
    let a : len ≤ most_bits = omega (arith, length_most r p d (omega arith), (staged-bits r p).1) in
    mul-le-mul a p.top-most

-- ---- what a place says

-- the bit's own block, the first free one with its index block all 0, or a later stage with fewer than k blocks that aren't full
abbrev pub PlaceSays : Settings → List ℕ → ℕ → ℕ → StagePlace → Type 0
PlaceSays r f i d (Own p) = StaysAt r f i d p
    (set (parity_blocks r.s r.m d (m_blocks r f)) p.block (raise r.top (block (parity_length d) (m_blocks r f) p.block)))
    (pick (ℕ_discrete (suc p.weight) (parity_length d * r.top)) (set (entries r.top r.w (index_blocks r.s) (stage_batch r f d)) p.slot closed) (entries r.top r.w (index_blocks r.s) (stage_batch r f d)))
    (store (parity_length d) (take (parity_count r.s r.m d * parity_length d) (m_blocks r f)) p.block (raise r.top (block (parity_length d) (m_blocks r f) p.block)))
    (pick (ℕ_discrete (suc p.weight) (parity_length d * r.top)) (store r.w (take (index_blocks r.s * r.w) (stage_batch r f d)) p.slot (replicate r.w r.top)) (take (index_blocks r.s * r.w) (stage_batch r f d)))
PlaceSays r f i d (Free p) = StaysAt r f i d p
    (pick (ℕ_discrete (p.weight % 2) 0) (set (parity_blocks r.s r.m d (m_blocks r f)) p.block (raise r.top (block (parity_length d) (m_blocks r f) p.block))) (parity_blocks r.s r.m d (m_blocks r f)))
    (set (entries r.top r.w (index_blocks r.s) (stage_batch r f d)) p.slot (index (suc i)))
    (pick (ℕ_discrete (p.weight % 2) 0) (store (parity_length d) (take (parity_count r.s r.m d * parity_length d) (m_blocks r f)) p.block (raise r.top (block (parity_length d) (m_blocks r f) p.block))) (take (parity_count r.s r.m d * parity_length d) (m_blocks r f)))
    (store r.w (take (index_blocks r.s * r.w) (stage_batch r f d)) p.slot (digits (suc r.top) r.w (suc i)))
    × (sum (block r.w (stage_batch r f d) p.slot) ≡ 0)
PlaceSays r f i d Beyond =
    (change_within (parity_length d * r.top) r.top i (parity_blocks r.s r.m d (m_blocks r f)) (entries r.top r.w (index_blocks r.s) (stage_batch r f d)) ≡ beyond)
    × (live_count r.s r.m r.top d (m_blocks r f) < 2 ^ r.s)

-- a place means what it says
place-says : (r : Settings) (f : List ℕ) (i d : ℕ) {y : StagePlace} → PlaceAt r f i d y → PlaceSays r f i d y
place-says r f i d (at_own p h) = h
place-says r f i d (at-free p h z) = (h, z)
place-says r f i d (at_none e n) = (e, n)

-- ---- the change

module _ (r : Settings) (p : StagedFacts r) (f : List ℕ) (v : Levelled r f) (i d : ℕ) (a : AtStage r f (at d)) where
  -- the stage is from 1 up
  pub below : d < r.s - 1
  below = stage-below r p f d a.stage

  -- the rules' change goes by the change within the stage
  within-change : {x : Within} → change_within (parity_length d * r.top) r.top i (parity_blocks r.s r.m d (m_blocks r f)) (entries r.top r.w (index_blocks r.s) (stage_batch r f d)) ≡ x
      → change r.s r.m r.top i (decode r.s r.m r.top r.w f)
      ≡ from_staged r.s r.m r.top d (m_blocks r f) (tabulate (2 ^ r.s) (after i (S.read r.s r.m r.top (meaning r f (at d))))) x
  unfolding change
  within-change e = ap (change r.s r.m r.top i) (decode-at r p f (at d) a)
      ∙ ap (from_staged r.s r.m r.top d (m_blocks r f) (tabulate (2 ^ r.s) (after i (S.read r.s r.m r.top (meaning r f (at d)))))) e

  -- one that stays in the stage is written back
  pub stay-change : {bs : List (List ℕ)} {es : List Entry}
      → change_within (parity_length d * r.top) r.top i (parity_blocks r.s r.m d (m_blocks r f)) (entries r.top r.w (index_blocks r.s) (stage_batch r f d)) ≡ stay bs es
      → change_sheet r f i ≡ done (join bs ++ batch_set r f d (join (map (entry_cells r.top r.w) es)))
  unfolding change_cells
  stay-change e = staged-change r p f i ∙ ap (written (write r.s r.m r.top r.w) f) (within-change e)

  -- a change that goes on to a later stage, with the values that the scan's blocks give
  goes_on : {s : Look} → PassedAt r f d s → PlaceAt r f i d Beyond → Stuck r f i d s.bits
  unfolding S.read
  goes_on {s} g h = record {
    left = omega (arith, below);
    few = (place-says r f i d h).1;
    dark = dark-staged r p f d a.stage;
    goes = within-change (place-says r f i d h).0
        ∙ ap (later r.s r.m r.top d (m_blocks r f))
        (tabulate-same (2 ^ r.s) (after i (S.read r.s r.m r.top (meaning r f (at d)))) (after i (value_in s.bits))
        (λ y l. ap (λ (z : ℕ). pick (ℕ_discrete y i) (1 - z) z) (stage-read g y (omega (arith, p.bits, (staged-bits r p).1)))));
  }

  -- a change that stays in the stage
  stays-made : {p : Place} {bs : List (List ℕ)} {es : List Entry} {c b : List ℕ} → StaysAt r f i d p bs es c b → change_sheet r f i ≡ done (c ++ batch_set r f d b)
  stays-made h = stay-change h.stays ∙ ap₂ (λ (y z : List ℕ). done (y ++ batch_set r f d z)) h.cells-after h.batch-after

  -- its index block lies past the m blocks, and in the sheet
  index-fits : (x : ℕ) → x < index_blocks r.s → IndexFits r (index_at r d x)
  index-fits x l = record { past = omega arith; inside = index_in r p d below x l }

  module _ (q : Place) (h : PlaceAt r f i d (Own q)) where
    -- what the bit's own block says
    abbrev own : PlaceSays r f i d (Own q)
    own = place-says r f i d h

    -- it is one of the stage's parity blocks, and isn't full
    own-fits : ParityFits r f d q.block
    own-fits = record { stage = below; inside = own.in_cells; live = λ e. own.live (own.weight ∙ e) }

    -- the m blocks after the change
    own-cells : store (parity_length d) (take (parity_count r.s r.m d * parity_length d) (m_blocks r f)) q.block (raise r.top (block (parity_length d) (m_blocks r f) q.block)) ≡ raised_blocks r f d q.block
    own-cells = ap (λ (c : List ℕ). store (parity_length d) c q.block (raise r.top (block (parity_length d) (m_blocks r f) q.block))) (cells_whole r p f v d below)

    -- the bit's own block raised, and not full then
    own-raised : (bits : List (Option Place)) → q.weight + 1 ≢ parity_length d * r.top → Planned r f i d bits (Raise q.block)
    own-raised bits n =
        let m : ¬ (suc q.weight ≡ parity_length d * r.top) = λ z. n (omega arith) in
        record {
          fits = own-fits;
          made = stays-made own ∙ ap done
              (ap₂ (λ (c b : List ℕ). c ++ batch_set r f d b) own-cells (pick_no (ℕ_discrete (suc q.weight) (parity_length d * r.top)) _ _ m ∙ batch-whole r p f v d below)
              ∙ ap (λ (b : List ℕ). raised_blocks r f d q.block ++ b) (batch-kept r p f v d below));
        }

    -- the bit's own block raised to full, and its index block with it
    own-closed : (bits : List (Option Place)) → q.weight + 1 ≡ parity_length d * r.top → Planned r f i d bits (Close q.block (index_at r d q.slot))
    own-closed bits n =
        let m : suc q.weight ≡ parity_length d * r.top = omega arith in
        record {
          fits = (own-fits, index-fits q.slot own.in-batch);
          made = stays-made own ∙ ap done
              (ap₂ (λ (c b : List ℕ). c ++ batch_set r f d b) own-cells (pick_yes (ℕ_discrete (suc q.weight) (parity_length d * r.top)) _ _ m
              ∙ ap (λ (b : List ℕ). store r.w b q.slot (replicate r.w r.top)) (batch-whole r p f v d below))
              ∙ sym (index-put r p f v d below (raised_blocks r f d q.block) q.slot (replicate r.w r.top) (raised_long r p f v d below q.block own.in_cells) own.in-batch (length-replicate r.w r.top)));
        }

  module _ (q : Place) (h : PlaceAt r f i d (Free q)) where
    -- what the first free block says
    abbrev free : PlaceSays r f i d (Free q)
    free = place-says r f i d h

    -- it is one of the stage's parity blocks, its index block one of the batch's, and all 0
    free-fits : (up : ℕ) → up ≤ 1 → Fits r f i d (Take q.block (index_at r d q.slot) up)
    free-fits up l = (
      record { stage = below; inside = free.0.in_cells; live = λ e. free.0.live (free.0.weight ∙ e) },
      index-fits q.slot free.0.in-batch,
      l,
      ap (λ (g : List ℕ). sum (part (index_at r d q.slot) r.w g)) (whole r p f v d below)
          ∙ ap sum (index-part r p f v d below (m_blocks r f) q.slot (blocks-long r p f v d below) free.0.in-batch) ∙ free.1,
    )

    -- the batch after the change
    free-index : store r.w (take (index_blocks r.s * r.w) (stage_batch r f d)) q.slot (digits (suc r.top) r.w (suc i)) ≡ store r.w (stage_batch r f d) q.slot (digits (suc r.top) r.w (i + 1))
    free-index =
        let t : suc i ≡ i + 1 = omega arith in
        ap₂ (λ (b : List ℕ) (u : ℕ). store r.w b q.slot (digits (suc r.top) r.w u)) (batch-whole r p f v d below) t

    -- a free block of odd weight takes the bit as it is; one of even weight is raised by one
    free-taken : (bits : List (Option Place)) (up : ℕ) → up ≡ 1 - q.weight % 2 → Planned r f i d bits (Take q.block (index_at r d q.slot) up)
    free-taken bits zero e =
        let n : q.weight % 2 ≢ 0 = λ z. omega arith in
        record {
          fits = free-fits 0 (omega arith);
          made = stays-made free.0 ∙ ap done
              (ap₂ (λ (c b : List ℕ). c ++ batch_set r f d b) (pick_no (ℕ_discrete (q.weight % 2) 0) _ _ n ∙ cells_whole r p f v d below) free-index
              ∙ sym (index-put r p f v d below (m_blocks r f) q.slot (digits (suc r.top) r.w (i + 1)) (blocks-long r p f v d below) free.0.in-batch (length_digits (suc r.top) r.w (i + 1)))
              ∙ ap (spliced (index_at r d q.slot) (digits (suc r.top) r.w (i + 1))) (sym (whole r p f v d below)));
        }
    free-taken bits (suc zero) e =
        let n : q.weight % 2 ≡ 0 = omega arith in
        record {
          fits = free-fits 1 (omega arith);
          made = stays-made free.0 ∙ ap done
              (ap₂ (λ (c b : List ℕ). c ++ batch_set r f d b) (pick_yes (ℕ_discrete (q.weight % 2) 0) _ _ n
              ∙ ap (λ (c : List ℕ). store (parity_length d) c q.block (raise r.top (block (parity_length d) (m_blocks r f) q.block))) (cells_whole r p f v d below)) free-index
              ∙ sym (index-put r p f v d below (raised_blocks r f d q.block) q.slot (digits (suc r.top) r.w (i + 1)) (raised_long r p f v d below q.block free.0.in_cells) free.0.in-batch (length_digits (suc r.top) r.w (i + 1))));
        }
    free-taken bits (suc (suc up)) e = absurd (omega arith)

  -- the plan at a place in the stage is one of the change
  place-planned : (bits : List (Option Place)) (y : StagePlace) → PlaceAt r f i d y → plan_at (batch_at r d) r.w (parity_length d * r.top) y ≢ Nowhere → Planned r f i d bits (plan_at (batch_at r d) r.w (parity_length d * r.top) y)
  place-planned bits (Own q) h n =
      pick-elim (Planned r f i d bits) (ℕ_discrete (q.weight + 1) (parity_length d * r.top)) (Close q.block (index_at r d q.slot)) (Raise q.block) (own-closed q h bits) (own-raised q h bits)
  place-planned bits (Free q) h n = free-taken q h bits (1 - q.weight % 2) refl
  place-planned bits Beyond h n = absurd (n refl)

  -- a plan that names a place is at one
  no_place : (y : StagePlace) → plan_at (batch_at r d) r.w (parity_length d * r.top) y ≡ Nowhere → y ≡ Beyond
  no_place (Own q) e = absurd (pick-elim (λ z. z ≢ Nowhere) (ℕ_discrete (q.weight + 1) (parity_length d * r.top)) (Close q.block (index_at r d q.slot)) (Raise q.block)
      (λ _ q. let z : ◌≡◌ {A = ℕ} 0 1 = cc in omega arith) (λ _ q. let z : ◌≡◌ {A = ℕ} 0 1 = cc in omega arith) e)
  no_place (Free q) e = absurd (let z : ◌≡◌ {A = ℕ} 0 1 = cc in omega arith)
  no_place Beyond e = refl

  module _ (s : Look) (g : PassedAt r f d s) (l : i < r.k) (w full : ℕ) (e₂ : w ≡ r.w) (e₃ : full ≡ parity_length d * r.top) where
    -- the plan that the look gives is that of its place
    placed : plan_in s i w full ≡ plan_at (batch_at r d) r.w (parity_length d * r.top) (place_in s i)
    placed = rw (e₂, e₃) (ap (λ (c : ℕ). plan_at c r.w (parity_length d * r.top) (place_in s i)) g.batch)

    place_is : PlaceAt r f i d (place_in s i)
    place_is = stage-place (stage-fits r p f v d below) g i (omega (arith, p.bits))

    -- a plan in the stage is one of the change
    pub within-planned : (bits : List (Option Place)) → plan_in s i w full ≢ Nowhere → Planned r f i d bits (plan_in s i w full)
    within-planned bits n = subst (Planned r f i d bits) (sym placed) (place-planned bits (place_in s i) place_is (λ q. n (placed ∙ q)))

    -- and where there is none, the change goes on to a later stage
    pub within-stuck : plan_in s i w full ≡ Nowhere → Stuck r f i d s.bits
    within-stuck q = goes_on g (subst (PlaceAt r f i d) (no_place (place_in s i) (sym placed ∙ q)) place_is)

    -- what the look tells is small
    pub within-near : Near s w
    within-near = rw e₂ (scan-near (omega (arith, batch-inside r p d below, p.cells-most)) (omega (arith, staged-width r p)) g)
