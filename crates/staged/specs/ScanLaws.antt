-- Laws of a staged sheet at a stage from 1 up, as its parts are lent to the scan. Assumes nothing.
use Rattle.std.specs.Prelude.{◌≡◌, refl, List, ℕ, zero, suc, ◌+◌, ◌-◌, ◌*◌, ◌^◌, ◌≤◌, ◌<◌, length, take, drop}
use Rattle.std.proofs.Common.{sym, ap, ◌∙◌, subst, subst₂, pow-suc, mul-le-mul, arith, pow_pos, length-take-le}
use Rattle.std.proofs.Math.Nat.{pow-zero}
use Rattle.rules.specs.Accept.{most_bits}
use Rattle.rules.specs.Search.{at}
use Rattle.rules.specs.Cells.{Low, chop}
use Rattle.rules.specs.Staged.{parity_length, parity_count, parity_blocks}
use Rattle.rules.specs.Stage.{Entry}
use Rattle.rules.specs.Staged as S
use Rattle.rules.specs.Batches.{batch_cells}
use Rattle.rules.specs.AcceptLaws.{StagedFacts, staged-bits}
use Rattle.rules.specs.declared.Settings.{Settings}
use Rattle.laws.specs.Lists.{low-take, low-drop}
use Rattle.laws.specs.Regions.{low-steady}
use Rattle.cells.specs.declared.blocks.Blocks.{Blocks}
use Rattle.index.specs.Meaning.{BatchFits, whole_region}
use Rattle.index.specs.declared.Region.{Region}
use Rattle.stage.specs.Meaning.{entries, entries_in, ScanFits, StageFits, StageScanned, right, wrong}
use Rattle.stage.specs.PlaceLaws.{entries-whole, stage-ok, stage-read}
use Rattle.plan.specs.declared.Look.{Look}
use Rattle.plan.specs.Meaning.{Levelled, breaks, keeps, m_blocks}
use Rattle.staged.specs.Meaning.{AtStage, batch_at, ParityCut, region_at, seen-later, ScannedAt, stage_batch, StagedLook}
use Rattle.staged.specs.LayoutLaws.{cells-most, length_most, parity-cells}
use Rattle.staged.specs.StageLaws.{stage-sound, sound-stage, read-stage, batch-length, batch-part}
use Rattle.staged.specs.ZeroLaws.{cells_in}

-- ---- an index block's numbers are small

narrow-from : (k L w : ℕ) → k ≤ most_bits → L ≤ 255 → ((v : ℕ) → k + 2 ≤ suc L ^ v → w ≤ v) → suc L ^ w ≤ 16777216
narrow-from k L zero h g l = omega (arith, pow-zero (suc L))
narrow-from k L (suc w) h g l =
    let a : ¬ (k + 2 ≤ suc L ^ w) = λ q. let z : suc w ≤ w = l w q in omega arith in
    let b : suc L ^ w ≤ 65 = omega arith in
    let c : suc L ≤ 256 = omega arith in
    subst (λ (x : ℕ). x ≤ 16777216) (sym (pow-suc (suc L) w)) (omega (arith, mul-le-mul b c))

module _ (r : Settings) (p : StagedFacts r) (f : List ℕ) (v : Levelled r f) where
  pub narrow : suc r.top ^ r.w ≤ 16777216
  narrow = narrow-from r.k r.top r.w (omega (arith, (staged-bits r p).1)) p.top-most p.least

  module _ (d : ℕ) (h : d < r.s - 1) where
    -- no level of the batch is above L
    batch-low : Low r.top (stage_batch r f d)
    batch-low =
        let a : ℕ = r.m * 2 ^ r.s + (r.s - 2 - d) * batch_cells r.s r.w in
        subst (Low r.top) (batch-part r p f d a refl) (low-take r.top (batch_cells r.s r.w) (drop a f) (low-drop r.top a f v.low))

    -- what the scan of the stage asks for, in the rules' numbers
    pub stage-fits : StageFits (parity_length d) (parity_count r.s r.m d) (whole_region (batch_at r d) r.w r.top) (2 ^ r.s) r.top (m_blocks r f) (stage_batch r f d)
    stage-fits =
        let b : (4 ≤ r.k) × (r.k ≤ most_bits) = staged-bits r p in
        let l : length (m_blocks r f) ≡ r.m * 2 ^ r.s = length-take-le (r.m * 2 ^ r.s) f (cells_in r p f v (r.m * 2 ^ r.s) refl) in
        let e : d ≤ r.s - 1 = omega arith in
        record {
          bits = omega (arith, p.bits);
          few = omega (arith, p.bits);
          long = omega (arith, pow_pos d);
          brief = omega (arith, length_most r p d e);
          inside = omega (arith, parity-cells r p d e);
          short = omega (arith, cells-most r p);
          level = p.top_least;
          low = low-take r.top (r.m * 2 ^ r.s) f v.low;
          indexed = record { holds = omega (arith, batch-length r p f v d h); narrow = narrow; steady = low-steady r.top (stage_batch r f d) batch-low };
        }

    -- the same for the parity blocks, the region and its cells as they are lent
    module _ (b : Blocks) (c : ParityCut r f d b) (g : Region) (y : g ≡ region_at r d) (n : ℕ) (e : n ≡ batch_cells r.s r.w) where
      lent : take (g.cell + n - g.cell) (drop g.cell f) ≡ stage_batch r f d
      lent =
          let q : g.cell + n - g.cell ≡ batch_cells r.s r.w = omega arith in
          ap (λ (x : ℕ). take x (drop g.cell f)) q ∙ batch-part r p f d g.cell (ap (λ (z : Region). z.cell) y)

      -- what the scan asks for
      pub scan-asked : ScanFits b g r.k (take (g.cell + n - g.cell) (drop g.cell f))
      scan-asked =
          let k : (4 ≤ r.k) × (r.k ≤ most_bits) = staged-bits r p in
          record {
            bits = omega (arith, k.0);
            few = k.1;
            long = omega (arith, c.len, pow_pos d);
            brief = omega (arith, c.len, length_most r p d (omega arith));
            level = omega (arith, c.top, p.top_least);
            indexed = subst₂ (λ (z : Region) (xs : List ℕ). BatchFits z (2 * (r.k - 1)) xs) (sym y) (sym lent)
                (subst (λ (x : ℕ). BatchFits (region_at r d) (2 * (x - 1)) (stage_batch r f d)) p.bits stage-fits.indexed);
          }

      -- and what it says of the stage
      pub scan-told : (x : ℕ) (s : Look) → x ≡ r.s - 1 - d
          → StageScanned x g.cell r.k (b.len * b.top) (chop b.len b.count b.cells.now) (entries_in g (2 * (r.k - 1)) (take (g.cell + n - g.cell) (drop g.cell f))) s → ScannedAt r f d s
      scan-told x s q t =
          let v : ℕ = r.s - 1 - d in
          let q' : ℕ = 2 * (r.k - 1) in
          subst (λ (k : ℕ). StageScanned v (batch_at r d) k (parity_length d * r.top) (parity_blocks r.s r.m d (m_blocks r f)) (entries r.top r.w (2 * (k - 1)) (stage_batch r f d)) s) (sym p.bits)
          (subst₂ (λ (l m : ℕ). StageScanned v (batch_at r d) r.k (l * r.top) (chop l m (m_blocks r f)) (entries r.top r.w q' (stage_batch r f d)) s) c.len c.count
          (subst₂ (λ (L : ℕ) (xs : List ℕ). StageScanned v (batch_at r d) r.k (b.len * L) (chop b.len b.count xs) (entries r.top r.w q' (stage_batch r f d)) s) c.top c.cells
          (subst (λ (es : List Entry). StageScanned v (batch_at r d) r.k (b.len * b.top) (chop b.len b.count b.cells.now) es s) (entries-whole (batch_at r d) r.w r.top q' (stage_batch r f d))
          (subst (λ (z : Region). StageScanned v z.cell r.k (b.len * b.top) (chop b.len b.count b.cells.now) (entries_in z q' (stage_batch r f d)) s) y
          (subst₂ (λ (u : ℕ) (xs : List ℕ). StageScanned u g.cell r.k (b.len * b.top) (chop b.len b.count b.cells.now) (entries_in g q' xs) s) q lent t)))))

  -- a scan of the stage is a look at the whole sheet
  pub stage-look : (d : ℕ) → AtStage r f (at d) → (s : Look) → ScannedAt r f d s → StagedLook r f s
  unfolding S.read
  stage-look d a s (right h) = keeps (r.s - 1 - d) h.answer (stage-sound r p f (at d) a (stage-ok h))
      (λ i l. read-stage r p f (at d) a i ∙ stage-read h i (omega (arith, (staged-bits r p).1))) (seen-later d (record { stage = a; passed = h }))
  stage-look d a s (wrong e n) = breaks (ap (λ (b : Look). b.answer) e) (λ q. n (sound-stage r p f (at d) a q))
