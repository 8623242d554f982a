-- What the calls' maps and sheet rules are for each kind of accepted settings. Assumes nothing.
use Rattle.std.specs.Prelude.{◌≡◌, List, ℕ}
use Rattle.std.proofs.Math.Path.{ap}
use Rattle.std.proofs.Common.{sym, subst}
use Rattle.rules.specs.Plain as P
use Rattle.rules.specs.Staged.{read_cells, change_cells}
use Rattle.rules.specs.Batches as B
use Rattle.rules.specs.AcceptLaws.{PlainFacts, StagedFacts}
use Rattle.rules.specs.Calls.{SoundAt, Sound, read_at, read_bit, change_at, change_sheet}
use Rattle.rules.specs.declared.Settings.{Settings}

-- kind 0
module _ (r : Settings) (p : PlainFacts r) (xs : List ℕ) where
  -- its rules are the plain ones
  pub plain-sound : Sound r xs → P.Sound r.k r.top r.m r.n xs
  plain-sound h = subst (λ (x : ℕ). SoundAt x r xs) p.plain h

  -- and conversely
  pub sound-plain : P.Sound r.k r.top r.m r.n xs → Sound r xs
  sound-plain h = subst (λ (x : ℕ). SoundAt x r xs) (sym p.plain) h

  -- its reading is the plain one
  pub plain-read : (i : ℕ) → read_bit r xs i ≡ P.read r.k r.top r.m xs i
  unfolding read_bit
  plain-read i = ap (λ (x : ℕ). read_at x r xs i) p.plain

  -- and so is its change
  pub plain-change : (i : ℕ) → change_sheet r xs i ≡ P.change r.k r.top r.m i xs
  unfolding change_sheet
  plain-change i = ap (λ (x : ℕ). change_at x r xs i) p.plain

-- kind 1
module _ (r : Settings) (p : StagedFacts r) (xs : List ℕ) where
  -- its rules are the staged ones
  pub staged-sound : Sound r xs → B.Sound r.s r.m r.top r.w r.n xs
  staged-sound h = subst (λ (x : ℕ). SoundAt x r xs) p.staged h

  -- and conversely
  pub sound-staged : B.Sound r.s r.m r.top r.w r.n xs → Sound r xs
  sound-staged h = subst (λ (x : ℕ). SoundAt x r xs) (sym p.staged) h

  -- its reading is the staged one
  pub staged-read : (i : ℕ) → read_bit r xs i ≡ read_cells r.s r.m r.top (B.decode r.s r.m r.top r.w) xs i
  unfolding read_bit
  staged-read i = ap (λ (x : ℕ). read_at x r xs i) p.staged

  -- and so is its change
  pub staged-change : (i : ℕ)
      → change_sheet r xs i ≡ change_cells r.s r.m r.top (B.decode r.s r.m r.top r.w) (B.write r.s r.m r.top r.w) i xs
  unfolding change_sheet
  staged-change i = ap (λ (x : ℕ). change_at x r xs i) p.staged
