-- Halving the blocks at most doubles how many are not full; and after a plain Erase fewer than k are not full. So the index blocks suffice.
-- Assumes nothing.
use Rattle.std.specs.Prelude.{List, [], ◌++◌, ◌∷◌, ◌≡◌, refl, ◌%◌, ◌*◌, ◌+◌, ◌<◌, ◌≤◌, suc, zero, ℕ, drop, length, take}
use Rattle.std.proofs.Common.{◌∙◌, ap, subst, sym, suc-le-suc, le_refl, arith, length-drop, drop-drop, length-take-le, take-add}
use Rattle.std.proofs.Math.Decide.{ℕ_discrete}
use Rattle.std.proofs.Math.Nat.{le_trans}
use Rattle.laws.specs.Lists.{low-drop, low-take, sum-append, sum_low, sum-replicate}
use Rattle.laws.specs.Live.{chop-snoc, live, live-append, live-full, live-le, live_more, live-none}
use Rattle.laws.specs.PlainMaps.{Planned, Proper, active_bits, bits-few, note_bit, out}
use Rattle.laws.specs.PlainSheet.{Accepted, block-cells}
use Rattle.rules.specs.Block.{State, active, broken, cells_of, empty, full}
use Rattle.rules.specs.Cells.{Low, block, chop, sum}
use Rattle.rules.specs.Plain.{IsEmpty, erase, states}
use Rattle.rules.specs.Stage.{live_weights}

-- ---- halves

-- two halves for one block
pair : (W : ℕ) (a b c : List ℕ) (ds cs : List (List ℕ)) → sum c ≡ sum a + sum b → sum a ≤ W → sum b ≤ W → live W ds ≤ 2 * live (W + W) cs
    → live W (a ∷ b ∷ ds) ≤ 2 * live (W + W) (c ∷ cs)
pair W a b c ds cs e p q h = go (ℕ_discrete (sum c) (W + W))
  where
    go : Dec (sum c ≡ W + W) → live W (a ∷ b ∷ ds) ≤ 2 * live (W + W) (c ∷ cs)
    go (yes f) = omega (arith, live-full (W + W) c cs f, live-full W a (b ∷ ds) (omega arith), live-full W b ds (omega arith))
    go (no f) = omega (arith, live_more (W + W) c cs f, live-le W a (b ∷ ds), live-le W b ds)

-- twice n, by counting
abbrev pub twice : ℕ → ℕ
twice zero = zero
twice (suc n) = suc (suc (twice n))

-- it is n * 2
pub twice-is : (n : ℕ) → twice n ≡ n * 2
twice-is zero = refl
twice-is (suc n) = omega (arith, twice-is n)

part_low : (w L : ℕ) (xs : List ℕ) → Low L xs → w ≤ length xs → sum (take w xs) ≤ w * L
part_low w L xs l h = subst (λ (x : ℕ). sum (take w xs) ≤ x * L) (length-take-le w xs h) (sum_low L (take w xs) (low-take L w xs l))

halves : (w L n : ℕ) (xs : List ℕ) → Low L xs → n * (w + w) ≤ length xs → live (w * L) (chop w (twice n) xs) ≤ 2 * live (w * L + w * L) (chop (w + w) n xs)
halves w L zero xs l h = omega (arith, live-none (w * L))
halves w L (suc n) xs l h =
    pair (w * L) (take w xs) (take w (drop w xs)) (take (w + w) xs) (chop w (twice n) (drop w (drop w xs))) (chop (w + w) n (drop (w + w) xs))
    (ap sum (take-add w w xs) ∙ sum-append (take w xs) (take w (drop w xs)))
    (part_low w L xs l (omega arith))
    (part_low w L (drop w xs) (low-drop L w xs l) (omega (arith, length-drop w xs)))
    (subst (λ (r : List ℕ). live (w * L) (chop w (twice n) (drop w (drop w xs))) ≤ 2 * live (w * L + w * L) (chop (w + w) n r)) (drop-drop w w xs)
    (halves w L n (drop w (drop w xs)) (low-drop L w (drop w xs) (low-drop L w xs l)) (omega (arith, length-drop w xs, length-drop w (drop w xs)))))

-- halving the blocks at most doubles how many are not full
pub halves-weights : (w L n : ℕ) (xs : List ℕ) → Low L xs → n * (w + w) ≤ length xs
    → length (live_weights (w * L) (chop w (twice n) xs)) ≤ 2 * length (live_weights (w * L + w * L) (chop (w + w) n xs))
unfolding live
halves-weights = halves

-- ---- after a plain Erase

-- what a state that is not empty adds to the bits
one_more : (k F : ℕ) (s : State) (r : List ℕ) (c : List ℕ) (ds : List (List ℕ)) → Proper k F s → ¬ (IsEmpty s) → (s ≡ full → sum c ≡ F) → live F ds ≤ length r → live F (ds ++ (c ∷ [])) ≤ length (note_bit s r)
one_more k F empty r c ds o h q l = absurd (h tt)
one_more k F full r c ds o h q l = omega (arith, live-append F ds (c ∷ []), live-full F c [] (q refl), live-none F)
one_more k F broken r c ds o h q l = absurd o
one_more k F (active i v) r c ds o h q l = omega (arith, live-append F ds (c ∷ []), live-le F c [], live-none F)

module _ (k L m n : ℕ) (two : 1 < k) (g : 0 < L) (even : k * L % 2 ≡ 0) (room : m * k ≤ n) (i : ℕ) (here : i < k) (xs : List ℕ) (a : Accepted k L m n xs) where
  weigh : (j : ℕ) → j < m → states k L xs j ≡ full → sum (block k xs j) ≡ k * L
  weigh j l e = ap sum (block-cells k L m n two g even room i here xs a j l ∙ ap (λ (s : State). cells_of k L s) e) ∙ sum-replicate k L

  live-bits : (j : ℕ) → j ≤ m → ((x : ℕ) → x < m → ¬ (IsEmpty (states k L xs x))) → live (k * L) (chop k j xs) ≤ length (active_bits (states k L xs) j)
  live-bits zero l h = omega (arith, live-none (k * L))
  live-bits (suc j) l h = subst (λ (r : List (List ℕ)). live (k * L) r ≤ length (note_bit (states k L xs j) (active_bits (states k L xs) j))) (sym (chop-snoc k j xs))
      (one_more k (k * L) (states k L xs j) (active_bits (states k L xs) j) (block k xs j) (chop k j xs) (a.lawful.proper j l) (h j l) (weigh j l) (live-bits j (omega arith) h))

  -- where the plain map finds no place, fewer than k blocks are not full
  pub plain-live : Planned (k * L) m i (states k L xs) erase → length (live_weights (k * L) (chop k m xs)) < k
  unfolding live
  plain-live (out e v) = le_trans (suc-le-suc (live-bits m (le_refl m) v)) (bits-few k (k * L) (states k L xs) m i here a.lawful e)
