-- Staged sheets as n cells: what a way to store the index blocks must keep, and the laws that follow for every such way. Assumes nothing.
use mathlib.Core.List.{List}
use Rattle.std.specs.Prelude.{◌≢◌, ◌≡◌, refl, ◌*◌, ◌+◌, ◌-◌, ◌<◌, ◌^◌, ◌≤◌, suc, ℕ, replicate, take}
use Rattle.std.proofs.Common.{◌∙◌, sym, arith}
use Rattle.std.proofs.Math.Path.{ap, subst}
use Rattle.std.proofs.Math.ListN.{length, length-replicate}
use Rattle.laws.specs.Lists.{low-replicate}
use Rattle.rules.specs.Cells.{Low, Rises}
use Rattle.rules.specs.Search.{Result, done, no_place_left}
use Rattle.rules.specs.Staged.{Sheet, change, change_cells, read, read_cells, stage0, written}
use Rattle.lifetime.specs.Place.{unwritten}
use Rattle.lifetime.specs.Staged as S

-- what n cells mean, how a new state is written back, and what else holds of the cells (Clean: the spare cells are 0)
pub record Storage (s m L n : ℕ) (decode : List ℕ → Sheet) (write : List ℕ → Sheet → List ℕ) (Clean : List ℕ → Type 0) : Type 0 where
  pub blank : decode (replicate n 0) ≡ stage0 (replicate (m * 2 ^ s) 0)
  pub clean : Clean (replicate n 0)
  pub back : (f : List ℕ) → length f ≡ n → Clean f → (y : Sheet) → S.Fits s m L y → S.stages_left s y ≤ S.stages_left s (decode f) → decode (write f y) ≡ y
  pub long : (f : List ℕ) → length f ≡ n → Clean f → (y : Sheet) → S.Fits s m L y → length (write f y) ≡ n
  pub low : (f : List ℕ) → length f ≡ n → Clean f → (y : Sheet) → Low L f → S.Fits s m L y → Low L (write f y)
  pub keeps : (f : List ℕ) → length f ≡ n → Clean f → S.Fits s m L (decode f) → (y : Sheet) → S.Fits s m L y → S.stages_left s y ≤ S.stages_left s (decode f) → Clean (write f y)
  pub cells : (f : List ℕ) → S.block_cells (decode f) ≡ take (m * 2 ^ s) f
  pub rises : (f : List ℕ) → length f ≡ n → Clean f → (y : Sheet) → Low L f → S.Fits s m L (decode f) → S.Fits s m L y → S.Forward s m L (decode f) y
      → Rises (take (m * 2 ^ s) f) (S.block_cells y) → Rises f (write f y)

module _ (s m L : ℕ) (decode : List ℕ → Sheet) (write : List ℕ → Sheet → List ℕ) where
  -- a sheet that checks 2, 5 and 6 accept
  pub record Accepted (n : ℕ) (Clean : List ℕ → Type 0) (f : List ℕ) : Type 0 where
    pub clean : Clean f
    pub long : length f ≡ n
    pub low : Low L f
    pub fits : S.Fits s m L (decode f)

  -- what a change of bit i that is made does
  pub record Changed (n : ℕ) (Clean : List ℕ → Type 0) (i : ℕ) (f h : List ℕ) : Type 0 where
    pub stays : Accepted n Clean h
    pub rises : Rises f h
    pub flips : read_cells s m L decode h i ≡ 1 - read_cells s m L decode f i
    pub keeps : (b : ℕ) → b < 2 ^ s → b ≢ i → read_cells s m L decode h b ≡ read_cells s m L decode f b

  -- f is what c accepted changes make of the erased sheet
  pub data Run (n : ℕ) : ℕ → List ℕ → Type 0 where
    begin : Run n 0 (replicate n 0)
    more : (c i : ℕ) (f h : List ℕ) → Run n c f → i < 2 ^ s → change_cells s m L decode write i f ≡ done h → Run n (suc c) h

module _ (s m L n : ℕ) (decode : List ℕ → Sheet) (write : List ℕ → Sheet → List ℕ) (Clean : List ℕ → Type 0) (𝓢 : Storage s m L n decode write Clean) (g : 0 < L) (pos : 1 < s) (many : 2 ^ s ≤ m) where
  -- a sheet written back was made
  came : (f h : List ℕ) (r : Result Sheet) → written write f r ≡ done h → (y : Sheet) × (r ≡ done y) × (h ≡ write f y)
  came f h (done y) e = (y, refl, (cc))
  came f h no_place_left e = absurd (let z : ◌≡◌ {A = ℕ} 0 1 = cc in omega arith)

  -- what an accepted change does, with what it means
  module _ (i : ℕ) (f h : List ℕ) (a : Accepted s m L decode write n Clean f) (l : i < 2 ^ s) (y : Sheet) (q : change s m L i (decode f) ≡ done y) (e : h ≡ write f y) where
    law : S.Changed s m L i (decode f) y
    law = subst (S.ReplyLaw s m L i (decode f)) q (S.reply-law s m L i l g pos many (decode f) a.fits)

    means : decode h ≡ y
    means = ap decode e ∙ 𝓢.back f a.long a.clean y law.fits law.onward

    changed : Changed s m L decode write n Clean i f h
    unfolding read_cells
    changed = record {
      stays = record {
        clean = subst Clean (sym e) (𝓢.keeps f a.long a.clean a.fits y law.fits law.onward);
        long = ap length e ∙ 𝓢.long f a.long a.clean y law.fits;
        low = subst (Low L) (sym e) (𝓢.low f a.long a.clean y a.low law.fits);
        fits = subst (S.Fits s m L) (sym means) law.fits;
      };
      rises = subst (Rises f) (sym e) (𝓢.rises f a.long a.clean y a.low a.fits law.fits law.forward
          (subst (λ (c : List ℕ). Rises c (S.block_cells y)) (𝓢.cells f) law.rises));
      flips = ap (λ (x : Sheet). read s m L x i) means ∙ law.flips;
      keeps = λ b lb c. ap (λ (x : Sheet). read s m L x b) means ∙ law.keeps b lb c;
    }

  -- demand 2 on cells
  pub change-law : (i : ℕ) (f h : List ℕ) → Accepted s m L decode write n Clean f → i < 2 ^ s → change_cells s m L decode write i f ≡ done h → Changed s m L decode write n Clean i f h
  unfolding change_cells
  change-law i f h a l q =
      let y : (y : Sheet) × (change s m L i (decode f) ≡ done y) × (h ≡ write f y) = came f h (change s m L i (decode f)) q in
      changed i f h a l y.0 y.1 y.2

  -- a run on cells is a run on what they mean
  pub run-law : {c : ℕ} {f : List ℕ} → Run s m L decode write n c f → Accepted s m L decode write n Clean f × S.Run s m L c (decode f)
  unfolding change_cells
  run-law begin =
      let r : S.Run s m L 0 (decode (replicate n 0)) = subst (S.Run s m L 0) (sym 𝓢.blank) S.begin in
      (record { clean = 𝓢.clean; long = length-replicate n 0; low = low-replicate L n 0 (omega arith); fits = (S.run-law s m L g pos many r).0 }, r)
  run-law (more c i f h r l e) =
      let a : Accepted s m L decode write n Clean f × S.Run s m L c (decode f) = run-law r in
      let y : (y : Sheet) × (change s m L i (decode f) ≡ done y) × (h ≡ write f y) = came f h (change s m L i (decode f)) e in (
        (changed i f h a.0 l y.0 y.1 y.2).stays,
        subst (S.Run s m L (suc c)) (sym (means i f h a.0 l y.0 y.1 y.2)) (S.more c i (decode f) y.0 a.1 l y.1),
      )

  -- demand 3, staged, on cells
  pub staged-late : (c i : ℕ) (f : List ℕ) → Run s m L decode write n c f → i < 2 ^ s → change_cells s m L decode write i f ≡ no_place_left → m * 2 ^ s * L - (2 ^ s - 1) * (2 * L + (s - 1)) ≤ c
  unfolding change_cells
  staged-late c i f r l e = S.staged-late s m L g pos many c i (decode f) (run-law r).1 l (unwritten write f (change s m L i (decode f)) e)
