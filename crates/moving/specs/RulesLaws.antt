-- The move is the rules' move: above floor 0 it is that of kind 1, and the sheet after it is the one that the rules write. Assumes nothing.
use mathlib.Core.List.{List, [], ◌∷◌, ◌++◌, map}
use Rattle.std.specs.Prelude.{◌≡◌}
use Rattle.std.proofs.Common.{◌∙◌, drop-drop}
use Rattle.std.proofs.Math.Path.{ap, ap₂, refl, sym}
use Prim.Native.Nat.{ℕ, ◌+◌, ◌-◌, ◌*◌, ◌^◌, ◌<◌}
use native.Mathlib.Omega.{arith}
use Rattle.std.proofs.Math.ListN.{length, take, drop, replicate}
use Rattle.laws.specs.Live.{live}
use Rattle.laws.specs.Parity.{count-width}
use Rattle.laws.specs.Parts.{chop-take}
use Rattle.laws.specs.Regions.{plus-nothing}
use Rattle.laws.specs.Splice.{drop-take}
use Rattle.rules.specs.Batches.{batch_cells, entry_cells, write}
use Rattle.rules.specs.Cells.{chop, join, store}
use Rattle.rules.specs.Stage.{Entry, closed, live_weights, record_all, recorded_entries}
use Rattle.rules.specs.Staged.{live_count, move_to, parity_count, parity_length}
use Rattle.moving.specs.Meaning.{batch_after, moved, moved_above, row_cells}

-- at floor 0, with L levels above it, index blocks have the cells of the rules
row-floor : (L w : ℕ) (es : List Entry) → row_cells 0 L w es ≡ join (map (entry_cells L w) es)
unfolding row_cells
row-floor L w [] = refl
row-floor L w (e ∷ es) = ap₂ (λ (x y : List ℕ). x ++ y) (plus-nothing (entry_cells L w e)) (row-floor L w es)

-- so the move above floor 0 is the move of kind 1
pub moved-floor : (at len count w k L : ℕ) (vs f : List ℕ) → moved_above at len count w 0 L k L vs f ≡ moved at len count w k L vs f
unfolding moved_above moved batch_after
moved-floor at len count w k L vs f =
    ap (λ (r : List ℕ). join (record_all (len * L) L vs (chop len count f)) ++ (drop (count * len) (take at f) ++ (r ++ drop (at + 2 * (k - 1) * w) f)))
    (row-floor L w (recorded_entries (len * L) L 1 vs (chop len count f) ++ replicate (2 * (k - 1) - length (live_weights (len * L) (chop len count f))) closed))

module _ (s m L w d : ℕ) (vs f : List ℕ) (h : d < s - 1) where
  -- the parity blocks are cut from the m blocks' own cells
  own-blocks : chop (parity_length d) (parity_count s m d) (take (m * 2 ^ s) f) ≡ chop (parity_length d) (parity_count s m d) f
  own-blocks = chop-take (parity_length d) (parity_count s m d) (m * 2 ^ s) f (omega (arith, count-width s m d (omega arith) (omega arith)))

  -- as many live blocks as the rules count
  pub live-is : live (parity_length d * L) (chop (parity_length d) (parity_count s m d) f) ≡ live_count s m L d (take (m * 2 ^ s) f)
  unfolding live
  live-is = ap (λ (bs : List (List ℕ)). length (live_weights (parity_length d * L) bs)) (sym own-blocks)

  -- with the batch of the stage that has d left
  moved-is : moved (m * 2 ^ s + (s - 2 - d) * batch_cells s w) (parity_length d) (parity_count s m d) w (2 ^ s) L vs f ≡ write s m L w f (move_to s m L d (take (m * 2 ^ s) f) vs)
  unfolding moved batch_after store
  moved-is =
      let W : ℕ = parity_length d * L in
      let C : ℕ = m * 2 ^ s in
      let B : ℕ = batch_cells s w in
      let j : ℕ = s - 2 - d in
      let between : drop (parity_count s m d * parity_length d) (take (C + j * B) f) ≡ take (j * B) (drop C f) =
      ap (λ (x : ℕ). drop x (take (C + j * B) f)) (count-width s m d (omega arith) (omega arith)) ∙ drop-take C (j * B) (C + j * B) f refl in
      let e : C + (j * B + B) ≡ C + j * B + B = omega arith in
      let past : drop (C + j * B + B) f ≡ drop (j * B + B) (drop C f) = sym (drop-drop (j * B + B) C f ∙ ap (λ (x : ℕ). drop x f) e) in
      let whole : List (List ℕ) → List ℕ → List ℕ → List ℕ =
      λ bs x y. join (record_all W L vs bs) ++ (x ++ (join (map (entry_cells L w) (recorded_entries W L 1 vs bs ++ replicate (2 * (2 ^ s - 1) - length (live_weights W bs)) closed)) ++ y)) in
      ap₂ (λ (x y : List ℕ). whole (chop (parity_length d) (parity_count s m d) f) x y) between past
      ∙ ap (λ (bs : List (List ℕ)). whole bs (take (j * B) (drop C f)) (drop (j * B + B) (drop C f))) (sym own-blocks)

  -- and told by its numbers
  pub move-is : (at len count k : ℕ) → at ≡ m * 2 ^ s + (s - 2 - d) * batch_cells s w → len ≡ parity_length d → count ≡ parity_count s m d → k ≡ 2 ^ s
      → moved at len count w k L vs f ≡ write s m L w f (move_to s m L d (take (m * 2 ^ s) f) vs)
  move-is at len count k e₁ e₂ e₃ e₄ = rw (e₁, e₂, e₃, e₄) moved-is
