-- An accepted change of a plain sheet is one level of one cell. Assumes nothing.
use Rattle.std.specs.Prelude.{◌≡◌, refl, List, [], ◌∷◌, ◌≢◌, ℕ, zero, suc, ◌≤◌, ◌<◌, length, get_or}
use Rattle.std.proofs.Common.{sym, ap, ◌∙◌, subst, zero-le, suc-le-suc, arith}
use Rattle.std.proofs.Math.Nat.{suc_inj}
use Rattle.std.proofs.Math.Decide.{ℕ_discrete}
use Rattle.rules.specs.Cells.{sum, Rises}
use Rattle.rules.specs.AcceptLaws.{genuine-plain}
use Rattle.rules.specs.Calls.{change_call}
use Rattle.rules.specs.Promises.{ChangePromise}
use Rattle.rules.specs.PromiseLaws.{gives-done}
use Rattle.rules.specs.declared.Settings.{Settings}
use Rattle.rules.specs.declared.Answer.TheVariants.{Done}
use Rattle.laws.specs.Lists.{rises-sum, rises-still}
use Rattle.laws.specs.PlainSheet as P
use Rattle.lifetime.specs.Change.{Made, change-made, plain-law}

-- one cell is raised by one level, and no other moves
pub record OneCell (xs ys : List ℕ) : Type 0 where
  pub cell : ℕ
  pub inside : cell < length xs
  pub raised : get_or ys cell 0 ≡ suc (get_or xs cell 0)
  pub others : (c : ℕ) → c ≢ cell → get_or ys c 0 ≡ get_or xs c 0
  pub long : length ys ≡ length xs

-- the first cell is raised, and the rest is the same
one-here : {x y : ℕ} {xs ys : List ℕ} → y ≡ suc x → ys ≡ xs → OneCell (x ∷ xs) (y ∷ ys)
one-here {x} {y} {xs} {ys} e z = record { cell = 0; inside = suc-le-suc zero-le; raised = e; others = rest; long = ap (λ (l : List ℕ). suc (length l)) z }
  where
    rest : (c : ℕ) → c ≢ 0 → get_or (y ∷ ys) c 0 ≡ get_or (x ∷ xs) c 0
    rest zero d = absurd (d refl)
    rest (suc c) d = ap (λ (l : List ℕ). get_or l c 0) z

-- the first cell is the same, and one of the rest is raised
one_later : {x y : ℕ} {xs ys : List ℕ} → y ≡ x → OneCell xs ys → OneCell (x ∷ xs) (y ∷ ys)
one_later {x} {y} {xs} {ys} e o = record { cell = suc o.cell; inside = suc-le-suc o.inside; raised = o.raised; others = rest; long = ap suc o.long }
  where
    rest : (c : ℕ) → c ≢ suc o.cell → get_or (y ∷ ys) c 0 ≡ get_or (x ∷ xs) c 0
    rest zero d = e
    rest (suc c) d = o.others c (λ q. d (ap suc q))

-- a list that rises by one in sum rises in one cell
one-rises : (xs ys : List ℕ) → length xs ≡ length ys → Rises xs ys → sum ys ≡ suc (sum xs) → OneCell xs ys
one-rises [] [] e h s = absurd (omega arith)
one-rises [] (y ∷ ys) e h s = absurd (omega arith)
one-rises (x ∷ xs) [] e h s = absurd (omega arith)
one-rises (x ∷ xs) (y ∷ ys) e h s = go (ℕ_discrete y x) (one-rises xs ys (suc_inj e) (λ c. h (suc c)))
  where
    go : Dec (y ≡ x) → (sum ys ≡ suc (sum xs) → OneCell xs ys) → OneCell (x ∷ xs) (y ∷ ys)
    go (yes q) f = one_later q (f (omega arith))
    go (no q) f =
        let t : sum xs ≤ sum ys = rises-sum xs ys (suc_inj e) (λ c. h (suc c)) in
        let y-is : y ≡ suc x = omega (arith, h 0) in
        one-here y-is (rises-still xs ys (suc_inj e) (λ c. h (suc c)) (omega arith))

-- an accepted change of a plain sheet raises exactly one cell, by one level, in the sheet handed back
pub plain-one-cell : (r : Settings) → r.kind ≡ 0 → (xs : List ℕ) (i v : ℕ) → (change_call r xs i).answer ≡ Done v → OneCell xs (change_call r xs i).sheet
plain-one-cell r e xs i v d =
    let ys : List ℕ = (change_call r xs i).sheet in
    let h : Made r xs i v ys = change-made r xs i v d in
    let a : P.Changed r.k r.top r.m r.n i xs ys = plain-law r (genuine-plain r h.accepted.genuine e) i xs ys h.accepted h.bit h.maps in
    one-rises xs ys (h.accepted.long ∙ sym a.stays.long) a.rises a.adds

-- the same of whatever meets the promise: number 0 on a plain sheet
pub promised-one-cell : (r : Settings) → r.kind ≡ 0 → (xs : List ℕ) (i v : ℕ) (ys : List ℕ) → ChangePromise r xs i 0 v ys → OneCell xs ys
promised-one-cell r z xs i v ys h = subst (OneCell xs) (sym h.leaves) (plain-one-cell r z xs i v (gives-done (change_call r xs i).answer h))
