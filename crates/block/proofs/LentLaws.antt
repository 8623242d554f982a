-- Laws of the part of a sheet that is lent to raise a block: the cells from the block on. Assumes nothing.
use Rattle.std.proofs.Common.{◌≡◌, ℕ, ◌-◌, ◌*◌, ◌≤◌, List, ◌++◌, length, take, drop, ap, append-nil, arith, length-drop, drop_of_length-le, take_all, drop-drop}
use Rattle.rules.specs.Cells.{block, store}

module _ (k : ℕ) (s : List ℕ) (j : ℕ) where
  -- the part up to the sheet's end is the rest of the sheet
  lent-all : take (length s - j * k) (drop (j * k) s) ≡ drop (j * k) s
  lent-all = take_all (length s - j * k) (drop (j * k) s) (omega (arith, length-drop (j * k) s))

  -- the part's first k cells are block j
  pub lent-block : take k (take (length s - j * k) (drop (j * k) s)) ≡ block k s j
  unfolding block
  lent-block = ap (take k) lent-all

  -- the part with its first k cells set to b, put back, is the sheet with block j set to b
  pub lent_back : (b : List ℕ) → take (j * k) s ++ ((b ++ drop k (take (length s - j * k) (drop (j * k) s))) ++ drop (length s - j * k) (drop (j * k) s)) ≡ store k s j b
  unfolding store
  lent_back b =
      let h : length (drop (j * k) s) ≤ length s - j * k = omega (arith, length-drop (j * k) s) in
      rw (lent-all, drop_of_length-le (drop (j * k) s) h, append-nil (b ++ drop k (drop (j * k) s)), drop-drop k (j * k) s)
