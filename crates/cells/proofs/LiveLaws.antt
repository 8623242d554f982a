-- Laws of blocks that are passed because they are full. Assumes nothing.
use Rattle.std.specs.Prelude.{List, ◌≡◌, ℕ, ◌+◌, ◌*◌, ◌/◌, ◌≤◌, length}
use Rattle.std.proofs.Common.{sym, subst, arith, length-take, length-drop, mul-le-mul_left}
use Rattle.std.proofs.Math.Decide.{ℕ_discrete, dec_lt}
use Rattle.rules.specs.Cells.{block, sum}
use Rattle.cells.specs.Laws.{past-full}
use Rattle.cells.specs.Live.{FullFrom}
use Rattle.cells.specs.Meaning.{RunFrom}
use Rattle.cells.specs.declared.blocks.Blocks.{Blocks}

module _ (b : Blocks) (from : ℕ) where
  -- past a full block
  pub full-more : (j : ℕ) → FullFrom b from j → sum (block b.len b.cells.now j) ≡ b.len * b.top → FullFrom b from (j + 1)
  full-more j f e x h l = elim (ℕ_discrete x j) [ yes q ↦ subst (λ (n : ℕ). sum (block b.len b.cells.now n) ≡ b.len * b.top) (sym q) e | no q ↦ f x h (omega arith) ]

  -- past a run
  pub full-run : (j n : ℕ) → FullFrom b from j → j ≤ n → RunFrom b.len b.top b.cells.now j n → FullFrom b from n
  full-run j n f h r x l m = elim (dec_lt x j) [ yes q ↦ f x l q | no q ↦ past-full b.len b.top j n b.cells.now b.low r x (omega arith) m ]

-- a block has no more cells than its length
pub block-brief : (w j : ℕ) (xs : List ℕ) → length (block w xs j) ≤ w
unfolding block
block-brief w j xs = simp (length-take, length-drop) (omega arith)

-- blocks half as long and twice as many have no more cells
pub halves-inside : (c len n : ℕ) → c * len ≤ n → 2 * c * (len / 2) ≤ n
halves-inside c len n h =
    let e : 2 * c * (len / 2) ≡ c * (2 * (len / 2)) = omega arith in
    omega (arith, mul-le-mul_left {m = 2 * (len / 2)} {n = len} c (omega arith))
