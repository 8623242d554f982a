-- Seven numbers written one after the other are a record's. Assumes nothing.
use Rattle.std.specs.Prelude.{◌≡◌, refl, List, [], ◌∷◌, ℕ, length, set}
use Rattle.std.proofs.Common.{arith}
use Rattle.rules.specs.Interface.{numbers_of}
use Rattle.rules.specs.declared.Settings.{Settings}

-- seven numbers written one after the other
pub seven-set : (xs : List ℕ) (r : Settings) → length xs ≡ 7 → set (set (set (set (set (set (set xs 0 r.kind) 1 r.k) 2 r.top) 3 r.n) 4 r.m) 5 r.s) 6 r.w ≡ numbers_of r
seven-set [] r e = absurd (omega arith)
seven-set (a ∷ []) r e = absurd (omega arith)
seven-set (a ∷ b ∷ []) r e = absurd (omega arith)
seven-set (a ∷ b ∷ c ∷ []) r e = absurd (omega arith)
seven-set (a ∷ b ∷ c ∷ d ∷ []) r e = absurd (omega arith)
seven-set (a ∷ b ∷ c ∷ d ∷ f ∷ []) r e = absurd (omega arith)
seven-set (a ∷ b ∷ c ∷ d ∷ f ∷ g ∷ []) r e = absurd (omega arith)
seven-set (a ∷ b ∷ c ∷ d ∷ f ∷ g ∷ h ∷ []) r e = refl
seven-set (a ∷ b ∷ c ∷ d ∷ f ∷ g ∷ h ∷ x ∷ xs) r e = absurd (omega arith)
