-- Laws of a block's state: what its weight says of it, and that a block on no cycle is broken. Assumes nothing.
use Rattle.std.specs.Prelude.{◌≡◌, ℕ, ◌*◌, ◌<◌, ◌≤◌, ◌≢◌, List, [], ◌∷◌, length, replicate, refl}
use Rattle.std.proofs.Common.{◌∙◌, ap, ap₂, sym, arith}
use Rattle.laws.specs.Block.{state-one}
use Rattle.laws.specs.Lists.{sum_low, sum-replicate, sum-zero}
use Rattle.rules.specs.Block.{empty, full, broken, cycle, state_of}
use Rattle.rules.specs.Cells.{Low, sum}

-- ---- a full block

-- cells that are at most L and whose sum is as great as can be are all at L
sum-full : (L : ℕ) (b : List ℕ) → Low L b → sum b ≡ length b * L → b ≡ replicate (length b) L
sum-full L [] h e = refl
sum-full L (x ∷ b) h e =
    let le : sum b ≤ length b * L = sum_low L b h.1 in
    let top : x ≤ L = h.0 in
    ap₂ (λ (y : ℕ) (r : List ℕ). y ∷ r) (omega arith) (sum-full L b h.1 (omega arith))

-- ---- the state of a block of weight v

module _ (L : ℕ) (b : List ℕ) (v : ℕ) (w : v ≡ sum b) (two : 2 ≤ length b) (g : 0 < L) (low : Low L b) where
  -- a block of weight 0 is empty
  pub state-empty : v ≡ 0 → empty ≡ state_of (length b) L b
  state-empty e = sym (state-one (length b) L (omega arith) g empty b (sum-zero b (omega arith)))

  -- a block of the greatest weight is full
  pub state-full : v ≡ length b * L → full ≡ state_of (length b) L b
  state-full e = sym (state-one (length b) L (omega arith) g full b (sum-full L b low (omega arith)))

  module _ (some : v ≢ 0) (part : v ≢ length b * L) where
    -- a weight other than 0 and the greatest is below the greatest
    pub under : v < length b * L
    under = omega (arith, sum_low L b low)

    -- a block on no cycle is broken
    pub off-all : ((j : ℕ) → j < length b → b ≢ cycle (length b) L j v) → broken ≡ state_of (length b) L b
    off-all h =
        sym (state-one (length b) L (omega arith) g broken b (
          (λ e. some (w ∙ ap sum e ∙ sum-replicate (length b) 0 ∙ omega arith)),
          (λ e. part (w ∙ ap sum e ∙ sum-replicate (length b) L)),
          (λ j l. rw (← w) (h j l)),
        ))
