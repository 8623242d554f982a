-- Laws of a staged sheet at stage 0: the plain rules on the m blocks, as they are lent. Assumes nothing.
use Rattle.std.specs.Prelude.{◌≡◌, refl, List, ℕ, ◌-◌, ◌*◌, ◌^◌, ◌≤◌, ◌<◌, length, take, drop}
use Rattle.std.proofs.Common.{sym, ap, ◌∙◌, subst, subst₂, arith, length-drop, length-take-le, take_all}
use Rattle.std.proofs.Math.Path.{ap₂}
use Rattle.std.proofs.Math.Decide.{dec_lt}
use Rattle.rules.specs.Accept.{most_bits}
use Rattle.rules.specs.Search.{first, nowhere}
use Rattle.rules.specs.SearchLaws.{first-is, first-unique, pick_no, pick_yes}
use Rattle.rules.specs.Cells.{block, sum}
use Rattle.rules.specs.Plain.{BlocksOk, blocks_ok?}
use Rattle.rules.specs.Plain as P
use Rattle.rules.specs.Staged as S
use Rattle.rules.specs.Batches.{batch, batch_cells}
use Rattle.rules.specs.AcceptLaws.{StagedFacts, staged-bits, staged-inside}
use Rattle.rules.specs.Calls.{as_check, read_bit}
use Rattle.rules.specs.declared.Answer.TheVariants.{BadSheet, Done}
use Rattle.cells.specs.declared.blocks.Blocks.{Blocks}
use Rattle.plan.specs.declared.Look.{Look}
use Rattle.rules.specs.declared.Settings.{Settings}
use Rattle.laws.specs.Lists.{low-drop}
use Rattle.index.specs.Meaning.{RegionsFit, stage_left}
use Rattle.index.specs.StageLaws.{batches-fit, stage-one}
use Rattle.plain.specs.Meaning.{Scanned}
use Rattle.plain.specs.Laws.{scanned-read}
use Rattle.plan.specs.Meaning.{Levelled, breaks, keeps, m_blocks}
use Rattle.staged.specs.Meaning.{AtStage, CutInto, StagedLook, seen-zero, stage_found}
use Rattle.plain.specs.SheetLaws.{part_from}
use Rattle.staged.specs.StageLaws.{stage-sound, sound-stage, read-stage}

-- the stage told by the cells from the first batch on is the stage of the rules
stage-rules : (s m w : ℕ) (f : List ℕ) → first (λ d. dec_lt 0 (sum (block (batch_cells s w) (drop (m * 2 ^ s) f) (s - 1 - 1 - d)))) (s - 1) ≡ first (λ d. dec_lt 0 (sum (batch s m w f d))) (s - 1)
unfolding batch
stage-rules s m w f =
    first-unique
    (λ d l h. let e : s - 1 - 1 - d ≡ s - 2 - d = omega arith in subst (λ (x : ℕ). 0 < sum (block (batch_cells s w) (drop (m * 2 ^ s) f) x)) e h)
    (λ d l h. let e : s - 2 - d ≡ s - 1 - 1 - d = omega arith in subst (λ (x : ℕ). 0 < sum (block (batch_cells s w) (drop (m * 2 ^ s) f) x)) e h)
    (first-is (λ d. dec_lt 0 (sum (block (batch_cells s w) (drop (m * 2 ^ s) f) (s - 1 - 1 - d)))) (s - 1))
    (first-is (λ d. dec_lt 0 (sum (batch s m w f d))) (s - 1))

module _ (r : Settings) (p : StagedFacts r) (f : List ℕ) (v : Levelled r f) where
  -- the m blocks lie in the sheet
  pub cells_in : (c : ℕ) → c ≡ r.m * 2 ^ r.s → c ≤ length f
  cells_in c e = omega (arith, staged-inside r p, v.long)

  -- the cells from the first batch on
  from-batches : (c : ℕ) → c ≡ r.m * 2 ^ r.s → part_from c f ≡ drop (r.m * 2 ^ r.s) f
  from-batches c e = take_all (length f - c) (drop c f) (omega (arith, length-drop c f)) ∙ ap (λ (x : ℕ). drop x f) e

  -- they have what the look for the stage asks: a batch for each stage
  pub batches-asked : (c b : ℕ) → c ≡ r.m * 2 ^ r.s → b ≡ batch_cells r.s r.w → RegionsFit b (r.s - 1) (r.s - 1) 1 r.top (part_from c f)
  batches-asked c b e q =
      let n : ℕ = r.m * 2 ^ r.s in
      let h : (r.s - 1) * batch_cells r.s r.w ≤ length (drop n f) = omega (arith, staged-inside r p, v.long, length-drop n f) in
      subst₂ (λ (x : ℕ) (xs : List ℕ). RegionsFit x (r.s - 1) (r.s - 1) 1 r.top xs) (sym q) (sym (from-batches c e))
      (batches-fit (batch_cells r.s r.w) (r.s - 1) r.top (drop n f) h (omega (arith, p.stages-most)) p.top_least (low-drop r.top n f v.low))

  -- the stage is told by the cells from the first batch on
  pub stage-from : (c b : ℕ) → c ≡ r.m * 2 ^ r.s → b ≡ batch_cells r.s r.w → stage_left b (r.s - 1) 1 r.top (part_from c f) ≡ stage_found r f
  stage-from c b e q =
      ap₂ (λ (x : ℕ) (xs : List ℕ). stage_left x (r.s - 1) 1 r.top xs) q (from-batches c e)
      ∙ stage-one (batch_cells r.s r.w) (r.s - 1) r.top (drop (r.m * 2 ^ r.s) f)
      ∙ stage-rules r.s r.m r.w f

  -- as they are lent, they have all their cells
  pub cells-long : (c : ℕ) → c ≡ r.m * 2 ^ r.s → length (take c f) ≡ r.m * 2 ^ r.s
  cells-long c e = length-take-le c f (cells_in c e) ∙ e

  -- what the scan of the m blocks asks for
  pub scan-asks : (b : Blocks) → CutInto r f r.k r.m b → (2 ≤ b.len) × (b.len ≤ most_bits) × (1 ≤ b.top)
  scan-asks b c = (omega (arith, c.len, (staged-bits r p).0), omega (arith, c.len, (staged-bits r p).1), omega (arith, c.top, p.top_least))

  -- the m blocks as they are lent, and as the rules have them
  pub to-rules : (c : ℕ) → c ≡ r.m * 2 ^ r.s → BlocksOk r.k r.top r.m (take c f) → BlocksOk (2 ^ r.s) r.top r.m (take (r.m * 2 ^ r.s) f)
  to-rules c e h = subst₂ (λ (k : ℕ) (x : ℕ). BlocksOk k r.top r.m (take x f)) (sym p.bits) e h

  -- and conversely
  pub from-rules : (c : ℕ) → c ≡ r.m * 2 ^ r.s → BlocksOk (2 ^ r.s) r.top r.m (take (r.m * 2 ^ r.s) f) → BlocksOk r.k r.top r.m (take c f)
  from-rules c e h = subst₂ (λ (k : ℕ) (x : ℕ). BlocksOk k r.top r.m (take x f)) p.bits (sym e) h

  -- the reading at stage 0
  pub zero-read : AtStage r f nowhere → (c : ℕ) → c ≡ r.m * 2 ^ r.s → (i : ℕ) → read_bit r f i ≡ P.read r.k r.top r.m (take c f) i
  unfolding S.read
  zero-read a c e i = read-stage r p f nowhere a i ∙ ap₂ (λ (k : ℕ) (x : ℕ). P.read k r.top r.m (take x f) i) p.bits (sym e)

  -- a scan of the m blocks is a look at the whole sheet
  pub zero-look : AtStage r f nowhere → (x : Blocks) → CutInto r f r.k r.m x → (b : Look) → Scanned x.len x.top x.count x.cells.now b → StagedLook r f b
  zero-look a x c b g = go (blocks_ok? r.k r.top r.m (m_blocks r f))
    where
      h : Scanned r.k r.top r.m (m_blocks r f) b
      h = subst₂ (λ (l m : ℕ). Scanned l r.top m (m_blocks r f) b) c.len c.count
          (subst₂ (λ (L : ℕ) (xs : List ℕ). Scanned x.len L x.count xs b) c.top c.cells g)

      go : Dec (BlocksOk r.k r.top r.m (m_blocks r f)) → StagedLook r f b
      go (yes o) =
          let w : b.answer ≡ Done 0 = h.answer ∙ pick_yes (blocks_ok? r.k r.top r.m (m_blocks r f)) (Done 0) BadSheet o in
          keeps 0 w (stage-sound r p f nowhere a (to-rules (r.m * 2 ^ r.s) refl o))
          (λ i l. zero-read a (r.m * 2 ^ r.s) refl i ∙ scanned-read r.k r.top r.m i (m_blocks r f) b h (ap as_check w) l)
          (seen-zero (record { passed = w; stage = a; blocks = h }))
      go (no n) = breaks (h.answer ∙ pick_no (blocks_ok? r.k r.top r.m (m_blocks r f)) (Done 0) BadSheet n) (λ q. n (from-rules (r.m * 2 ^ r.s) refl (sound-stage r p f nowhere a q)))
