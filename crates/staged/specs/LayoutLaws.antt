-- Where the parts of a staged sheet stand: everything lies inside the n cells. Assumes nothing.
use Rattle.std.specs.Prelude.{◌≡◌, ℕ, suc, ◌+◌, ◌-◌, ◌*◌, ◌^◌, ◌≤◌, ◌<◌}
use Rattle.std.proofs.Common.{sym, ap, ap₂, ◌∙◌, subst, mul-le-mul_right, le-mul_of_pos_right, pow-suc, arith, pow_mono, pow_pos}
use Rattle.rules.specs.AcceptLaws.{StagedFacts, staged-inside}
use Rattle.rules.specs.Batches.{batch_cells}
use Rattle.rules.specs.Staged.{parity_length, parity_count}
use Rattle.rules.specs.declared.Settings.{Settings}
use Rattle.laws.specs.Parity.{count-width}

-- a power of two that fits
pub power-most : (e : ℕ) → e ≤ 16 → 2 ^ e ≤ 65536
power-most e h = pow_mono h

module _ (r : Settings) (f : StagedFacts r) where
  -- the m blocks have m times k cells
  pub cells_are : r.m * r.k ≡ r.m * 2 ^ r.s
  cells_are = ap (λ (k : ℕ). r.m * k) (sym f.bits)

  -- at most 16,384
  pub cells-most : r.m * 2 ^ r.s ≤ 16384
  cells-most = omega (arith, staged-inside r f, f.cells-most)

  -- a batch has 2 (k - 1) index blocks of w cells
  pub batch-are : 2 * (r.k - 1) * r.w ≡ batch_cells r.s r.w
  batch-are = ap (λ (k : ℕ). 2 * (k - 1) * r.w) (sym f.bits)

  -- the batches before and with the one of the stage with d left lie inside
  pub batch-inside : (d : ℕ) → d < r.s - 1 → r.m * 2 ^ r.s + (r.s - 2 - d) * batch_cells r.s r.w + batch_cells r.s r.w ≤ r.n
  batch-inside d h =
      let l : suc (r.s - 2 - d) ≤ r.s - 1 = omega arith in
      omega (arith, staged-inside r f, mul-le-mul_right {m = suc (r.s - 2 - d)} {n = r.s - 1} (batch_cells r.s r.w) l)

  -- a batch has at most 16,384 cells
  pub batch-most : batch_cells r.s r.w ≤ 16384
  batch-most =
      let l : 1 ≤ r.s - 1 = omega (arith, f.stages-least) in
      omega (arith, staged-inside r f, f.cells-most, mul-le-mul_right {m = 1} {n = r.s - 1} (batch_cells r.s r.w) l)

  -- the parity blocks of a stage are the cells of the m blocks
  pub parity-cells : (d : ℕ) → d ≤ r.s - 1 → parity_count r.s r.m d * parity_length d ≡ r.m * 2 ^ r.s
  parity-cells d h = count-width r.s r.m d h (omega (arith, f.stages-least))

  -- each has at most k cells
  pub length_most : (d : ℕ) → d ≤ r.s - 1 → parity_length d ≤ r.k
  length_most d h =
      let l : suc d ≤ r.s = omega (arith, f.stages-least) in
      subst (λ (x : ℕ). parity_length d ≤ x) f.bits (omega (arith, pow-suc 2 d, pow_mono l))

  -- and there are at most 16,384
  pub count_most : (d : ℕ) → d ≤ r.s - 1 → parity_count r.s r.m d ≤ 16384
  count_most d h =
      let p : 0 < parity_length d = omega (arith, pow_pos d) in
      omega (arith, parity-cells d h, cells-most, le-mul_of_pos_right (parity_count r.s r.m d) p)

  -- so the parity blocks of a stage are the m blocks cut anew
  pub parity-cut : (d len count : ℕ) → d ≤ r.s - 1 → len ≡ parity_length d → count ≡ parity_count r.s r.m d → (1 ≤ len) × (len ≤ r.k) × (count * len ≡ r.m * 2 ^ r.s)
  parity-cut d len count h e₁ e₂ = (omega (arith, e₁, pow_pos d), omega (arith, e₁, length_most d h), ap₂ (λ (x y : ℕ). x * y) e₂ e₁ ∙ parity-cells d h)
