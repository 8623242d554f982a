-- Laws of where the batches stand, and which of them is the stage's (01, "Staged rules"). Assumes nothing.
use Rattle.std.specs.Prelude.{◌≡◌, ℕ, ◌-◌, ◌*◌, ◌^◌, ◌≤◌, ◌<◌, take, drop}
use Rattle.std.proofs.Common.{sym, ap, ap₂, ◌∙◌, arith, drop-drop}
use Rattle.std.proofs.Math.Path.{subst}
use mathlib.Core.List.{List, map}
use Rattle.std.proofs.Math.Decide.{dec_lt}
use Rattle.rules.specs.Search.{Found, at}
use Rattle.rules.specs.SearchLaws.{First, hit, miss, first-is}
use Rattle.rules.specs.Cells.{sum, block, chop}
use Rattle.rules.specs.Staged.{stage0, staged, index_blocks}
use Rattle.rules.specs.Batches.{batch_cells, entry_of, batch, sheet_at, decode}
use Rattle.rules.specs.Accept.{Genuine, batch_start}
use Rattle.rules.specs.AcceptLaws.{StagedFacts, genuine-staged, genuine-stages}
use Rattle.rules.specs.GuaranteeLaws.{batch-start-is}
use Rattle.rules.specs.declared.Settings.{Settings}
use Rattle.rules.specs.BatchLaws.{batch_from, staged_at, StageIs, at-batch, at-0}

-- batch b of a staged sheet, from 1 to s - 1, begins at the cell that the settings record reports
pub batch-begins : (r : Settings) → Genuine r → (b : ℕ) → 1 ≤ b → b < r.s → (f : List ℕ) → batch r.s r.m r.w f (r.s - 1 - b) ≡ batch_from r f b
unfolding batch block
batch-begins r g b l h f =
    let p : StagedFacts r = genuine-stages r g (omega arith) in
    let c : ℕ = batch_cells r.s r.w in
    let e : r.s - 2 - (r.s - 1 - b) ≡ b - 1 = omega arith in
    let q : drop ((b - 1) * c) (drop (r.m * r.k) f) ≡ drop (batch_start r b) f = drop-drop ((b - 1) * c) (r.m * r.k) f ∙ ap (λ (x : ℕ). drop x f) (sym (batch-start-is r b g l h)) in
    ap₂ (λ (x k : ℕ). take c (drop (x * c) (drop (r.m * k) f))) e p.bits ∙ ap (take c) q

module _ (r : Settings) (g : Genuine r) (p : StagedFacts r) (f : List ℕ) where
  -- the batch of the stage with d stages left
  abbrev batch_left : ℕ → List ℕ
  batch_left d = batch r.s r.m r.w f d

  -- a batch that is not found has no cell above 0
  none_above : (c : ℕ) → 1 ≤ c → c < r.s → ¬ (0 < sum (batch_left (r.s - 1 - c))) → sum (batch_from r f c) ≡ 0
  none_above c l h n = omega (arith, ap sum (batch-begins r g c l h f))

  -- the m blocks, as 2 ^ s or as k cells each
  blocks-same : take (r.m * 2 ^ r.s) f ≡ take (r.m * r.k) f
  blocks-same = ap (λ (k : ℕ). take (r.m * k) f) p.bits

  -- the stage with d stages left, where its batch was the first found
  found_at : (d : ℕ) → d < r.s - 1 → 0 < sum (batch_left d) → ((e : ℕ) → e < d → ¬ (0 < sum (batch_left e))) → StageIs r f (sheet_at r.s r.m r.top r.w f (at d))
  found_at d l h n =
      let b : ℕ = r.s - 1 - d in
      let e : r.s - 1 - b ≡ d = omega arith in
      let low : 1 ≤ b = omega arith in
      let high : b < r.s = omega arith in
      let q : batch_left d ≡ batch_from r f b = ap batch_left (sym e) ∙ batch-begins r g b low high f in
      let is : staged_at r f b ≡ sheet_at r.s r.m r.top r.w f (at d) =
      ap (λ (x : ℕ). staged x (take (r.m * r.k) f) (map (entry_of r.top r.w) (chop r.w (index_blocks r.s) (batch_from r f b)))) e
      ∙ ap₂ (λ (xs ys : List ℕ). staged d xs (map (entry_of r.top r.w) (chop r.w (index_blocks r.s) ys))) (sym blocks-same) (sym q) in
      subst (StageIs r f) is (at-batch b low high (subst (λ (xs : List ℕ). 0 < sum xs) q h) (λ c lc hc. none_above c (omega arith) hc (n (r.s - 1 - c) (omega arith))))

  -- what the cells mean is the sheet of the stage that 01 names
  highest : StageIs r f (decode r.s r.m r.top r.w f)
  unfolding decode
  highest = go (first-is (λ d. dec_lt 0 (sum (batch_left d))) (r.s - 1))
    where
      go : {o : Found} → First (λ d. 0 < sum (batch_left d)) (r.s - 1) o → StageIs r f (sheet_at r.s r.m r.top r.w f o)
      go (hit d l h n) = found_at d l h n
      go (miss n) = subst (λ (xs : List ℕ). StageIs r f (stage0 xs)) (sym blocks-same) (at-0 (λ c l h. none_above c l h (n (r.s - 1 - c) (omega arith))))

-- what the cells of accepted settings that aren't plain mean is the sheet of the stage that 01 names
pub stage-highest : (r : Settings) → Genuine r → ¬ (r.kind ≡ 0) → (f : List ℕ) → StageIs r f (decode r.s r.m r.top r.w f)
stage-highest r g h f = highest r g (genuine-staged r g h) f
