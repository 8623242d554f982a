-- Laws of the stage that a staged sheet is in: its rules and its reading are those of that stage. Assumes nothing.
use Rattle.std.specs.Prelude.{◌≡◌, Bool, true, false, List, ℕ, ◌+◌, ◌-◌, ◌*◌, ◌^◌, ◌≤◌, ◌<◌, length, drop, replicate}
use Rattle.std.proofs.Common.{sym, ◌∙◌, subst, arith, length-drop, drop-drop}
use Rattle.std.proofs.Math.Path.{ap}
use Rattle.std.proofs.Math.Decide.{dec_lt}
use Rattle.std.proofs.Math.ListN.{take}
use Rattle.rules.specs.Search.{pick, Found, at, nowhere}
use Rattle.rules.specs.SearchLaws.{First, hit, miss, first-is}
use Rattle.rules.specs.Cells.{sum, same?, block}
use Rattle.rules.specs.Plain.{Spare}
use Rattle.rules.specs.Staged.{Sheet, SheetOk, read_cells}
use Rattle.rules.specs.Staged as S
use Rattle.rules.specs.Batches.{batch_cells, batch, sheet_at, decode}
use Rattle.rules.specs.AcceptLaws.{StagedFacts, staged-inside}
use Rattle.rules.specs.Calls.{Sound, read_bit}
use Rattle.rules.specs.declared.Settings.{Settings}
use Rattle.plan.specs.Meaning.{Levelled}
use Rattle.staged.specs.Meaning.{AtStage, spare_at, stage_found}
use Rattle.plain.specs.SheetLaws.{part_from, spare-true, spare-false}
use Rattle.staged.specs.LayoutLaws.{batch-inside}
use Rattle.laws.specs.Cut.{length-block}
use Rattle.laws.specs.Kinds.{staged-sound, sound-staged, staged-read}

-- what the cells mean in the stage x
abbrev pub meaning : Settings → List ℕ → Found → Sheet
meaning r f x = sheet_at r.s r.m r.top r.w f x

module _ (r : Settings) (p : StagedFacts r) (f : List ℕ) where
  -- without spare cells at 0 a sheet breaks the rules
  pub staged-unspare : ¬ (Spare (spare_at r) r.n f) → ¬ (Sound r f)
  staged-unspare n h = n (staged-sound r p f h).1

  module _ (x : Found) (a : AtStage r f x) where
    pub decode-at : decode r.s r.m r.top r.w f ≡ meaning r f x
    unfolding decode
    decode-at = ap (meaning r f) a.stage

    -- the sheet keeps the rules exactly if its stage does
    pub stage-sound : SheetOk r.s r.m r.top (meaning r f x) → Sound r f
    stage-sound h = sound-staged r p f (subst (SheetOk r.s r.m r.top) (sym decode-at) h, a.spare)

    -- and conversely
    pub sound-stage : Sound r f → SheetOk r.s r.m r.top (meaning r f x)
    sound-stage h = subst (SheetOk r.s r.m r.top) decode-at (staged-sound r p f h).0

    -- and its reading is the stage's
    pub read-stage : (i : ℕ) → read_bit r f i ≡ S.read r.s r.m r.top (meaning r f x) i
    unfolding read_cells
    read-stage i = staged-read r p f i ∙ ap (λ (y : Sheet). S.read r.s r.m r.top y i) decode-at

  -- what the search for the stage tells
  found_below : {x : Found} → First (λ d. 0 < sum (batch r.s r.m r.w f d)) (r.s - 1) x → (d : ℕ) → x ≡ at d → d < r.s - 1
  found_below (hit j l h b) d e = let z : j ≡ d = cc in omega arith
  found_below (miss b) d e = absurd (let z : ◌≡◌ {A = ℕ} 0 1 = cc in omega arith)

  -- a stage found is from 1 up
  pub stage-below : (d : ℕ) → stage_found r f ≡ at d → d < r.s - 1
  stage-below d e = found_below (first-is (λ d. dec_lt 0 (sum (batch r.s r.m r.w f d))) (r.s - 1)) d e

  -- the batches of later stages are all 0
  abbrev left_at : Found → ℕ
  left_at (at d) = d
  left_at nowhere = r.s - 1

  dark-from : {x : Found} → First (λ d. 0 < sum (batch r.s r.m r.w f d)) (r.s - 1) x → (e : ℕ) → e < left_at x → sum (batch r.s r.m r.w f e) ≡ 0
  dark-from (hit j l h b) e q = let z : ¬ (0 < sum (batch r.s r.m r.w f e)) = b e q in omega arith
  dark-from (miss b) e q = let z : ¬ (0 < sum (batch r.s r.m r.w f e)) = b e q in omega arith

  dark-left : (e : ℕ) → e < left_at (stage_found r f) → sum (batch r.s r.m r.w f e) ≡ 0
  dark-left e q = dark-from (first-is (λ d. dec_lt 0 (sum (batch r.s r.m r.w f d))) (r.s - 1)) e q

  -- at a stage from 1 up
  pub dark-staged : (d : ℕ) → stage_found r f ≡ at d → (e : ℕ) → e < d → sum (batch r.s r.m r.w f e) ≡ 0
  dark-staged d q e l = dark-left e (subst (λ (x : Found). e < left_at x) (sym q) l)

  -- and at stage 0
  pub dark-zero : stage_found r f ≡ nowhere → (e : ℕ) → e < r.s - 1 → sum (batch r.s r.m r.w f e) ≡ 0
  dark-zero q e l = dark-left e (subst (λ (x : Found). e < left_at x) (sym q) l)

  -- the batch of a stage, as it is lent
  pub batch-part : (d a : ℕ) → a ≡ r.m * 2 ^ r.s + (r.s - 2 - d) * batch_cells r.s r.w → take (batch_cells r.s r.w) (drop a f) ≡ batch r.s r.m r.w f d
  unfolding batch block
  batch-part d a e = ap (λ (x : ℕ). take (batch_cells r.s r.w) (drop x f)) e
      ∙ ap (take (batch_cells r.s r.w)) (sym (drop-drop ((r.s - 2 - d) * batch_cells r.s r.w) (r.m * 2 ^ r.s) f))

-- a batch has its cells
pub batch-length : (r : Settings) → StagedFacts r → (f : List ℕ) → Levelled r f → (d : ℕ) → d < r.s - 1 → length (batch r.s r.m r.w f d) ≡ batch_cells r.s r.w
unfolding batch
batch-length r p f v d h = length-block (batch_cells r.s r.w) (drop (r.m * 2 ^ r.s) f) (r.s - 2 - d) (omega (arith, length-drop (r.m * 2 ^ r.s) f, v.long, batch-inside r p d h))

-- ---- the spare cells, as they are lent

module _ (r : Settings) (p : StagedFacts r) (f : List ℕ) (v : Levelled r f) (a : ℕ) (e : a ≡ spare_at r) where
  pub spare-in : a ≤ length f
  spare-in = omega (arith, staged-inside r p, v.long)

module _ (r : Settings) (f : List ℕ) (v : Levelled r f) (a : ℕ) (e : a ≡ spare_at r) {t : Bool} (q : t ≡ pick (same? (part_from a f) (replicate (length (part_from a f)) 0)) true false) where
  pub spare-clear : t ≡ true → Spare (spare_at r) r.n f
  spare-clear h = subst (λ (x : ℕ). Spare x r.n f) e (spare-true a r.n f v.long q h)

  -- or that they are not
  pub spare-taken : t ≡ false → ¬ (Spare (spare_at r) r.n f)
  spare-taken h s = spare-false a r.n f v.long q h (subst (λ (x : ℕ). Spare x r.n f) (sym e) s)
