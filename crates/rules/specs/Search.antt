-- Choices, and the first place where a test holds. Assumes nothing.
use Rattle.std.proofs.Common.{sym, subst, ⊎_elim, le_refl, le_of_suc-le-suc, not-suc-le-zero, eq-or-lt_of_le, arith}
use Rattle.std.specs.Prelude.{ℕ, zero, suc, ◌<◌, Option, Some, None}

-- x if A holds, else y
abbrev pub pick : {A B : Type 0} → Dec A → B → B → B
pick (yes a) x y = x
pick (no h) x y = y

-- A and B
abbrev pub both? : {A B : Type 0} → Dec A → Dec B → Dec (A × B)
both? (yes a) (yes b) = yes (a, b)
both? (yes a) (no b) = no (λ p. b p.1)
both? (no a) d = no (λ p. a p.0)

-- A, B and C
abbrev pub three? : {A B C : Type 0} → Dec A → Dec B → Dec C → Dec (A × B × C)
three? (yes a) (yes b) (yes c) = yes (a, b, c)
three? (yes a) (yes b) (no c) = no (λ p. c p.2)
three? (yes a) (no b) d = no (λ p. b p.1)
three? (no a) d e = no (λ p. a p.0)

-- not A
abbrev pub not? : {A : Type 0} → Dec A → Dec (¬ A)
not? (yes a) = no (λ f. f a)
not? (no h) = yes h

-- every place below m + 1, from those below m and m itself
abbrev all_more_dec : {P : ℕ → Type 0} (m : ℕ) → Dec ((j : ℕ) → j < m → P j) → Dec (P m) → Dec ((j : ℕ) → j < suc m → P j)
all_more_dec {P} m (yes a) (yes h) = yes (λ j l. ⊎_elim (λ e. subst P (sym e) h) (λ q. a j q) (eq-or-lt_of_le (le_of_suc-le-suc l)))
all_more_dec m (yes a) (no h) = no (λ f. h (f m (le_refl (suc m))))
all_more_dec m (no a) d = no (λ f. a (λ j l. f j (omega arith)))

-- every place below m
unfoldable pub all? : {P : ℕ → Type 0} → ((j : ℕ) → Dec (P j)) → (m : ℕ) → Dec ((j : ℕ) → j < m → P j)
all? p zero = yes (λ j l. absurd (not-suc-le-zero l))
all? p (suc m) = all_more_dec m (all? p m) (p m)

-- some place below m + 1, from one below m or m itself
abbrev some_more : {P : ℕ → Type 0} (m : ℕ) → Dec ((j : ℕ) × (j < m) × P j) → Dec (P m) → Dec ((j : ℕ) × (j < suc m) × P j)
some_more m (yes (j, l, h)) d = yes (j, omega arith, h)
some_more m (no a) (yes h) = yes (m, le_refl (suc m), h)
some_more {P} m (no a) (no h) = no (λ (j, l, q). ⊎_elim (λ e. h (subst P e q)) (λ b. a (j, b, q)) (eq-or-lt_of_le (le_of_suc-le-suc l)))

-- some place below m
unfoldable pub some? : {P : ℕ → Type 0} → ((j : ℕ) → Dec (P j)) → (m : ℕ) → Dec ((j : ℕ) × (j < m) × P j)
some? p zero = no (λ (j, l, h). not-suc-le-zero l)
some? p (suc m) = some_more m (some? p m) (p m)

-- a place, or none
pub data Found : Type 0 where
  at : ℕ → Found
  nowhere : Found

-- the place that code found, or none
abbrev pub as_found : Option ℕ → Found
as_found (Some j) = at j
as_found None = nowhere

-- the first of two places
abbrev pub or_else : Found → Found → Found
or_else (at j) o = at j
or_else nowhere o = o

-- place m where A holds
abbrev pub here : {A : Type 0} → Dec A → ℕ → Found
here (yes a) m = at m
here (no h) m = nowhere

-- the first place below m where a test holds
unfoldable pub first : {P : ℕ → Type 0} → ((j : ℕ) → Dec (P j)) → ℕ → Found
first p zero = nowhere
first p (suc m) = or_else (first p m) (here (p m) m)

-- what a change comes to: its result, or no place for it
pub data Result (A : Type 0) : Type 0 where
  done : A → Result A
  no_place_left : Result A
