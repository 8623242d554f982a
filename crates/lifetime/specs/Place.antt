-- Where the maps find no place for a change, in the words of document 01. Assumes nothing.
use Rattle.std.specs.Prelude.{◌≡◌, refl, ◌↔◌, List, ℕ, zero, suc, ◌-◌, ◌*◌, ◌^◌, ◌≤◌, ◌<◌, length, get_or}
use Rattle.std.proofs.Common.{sym, ◌∙◌, subst, ⊎_elim, not-suc-le-zero, le_refl, lt_of_not-le, eq-or-lt_of_le, le_of_suc-le-suc, arith}
use Rattle.std.proofs.Math.Path.{ap}
use Rattle.std.proofs.Math.Decide.{ℕ_discrete, dec_le}
use Rattle.rules.specs.Search.{Found, nowhere, first, Result, done, no_place_left}
use Rattle.rules.specs.SearchLaws.{pick-elim, pick_no, First, hit, miss, first-is, first-eq}
use Rattle.rules.specs.Plain.{HasBit, has_bit?, IsEmpty, is_empty?, plan_from, plan, states, carry_out}
use Rattle.rules.specs.Plain as R
use Rattle.rules.specs.Cells.{tabulate}
use Rattle.rules.specs.Stage.{Entry, indexes, Absent, Within, stay, beyond, chosen, change_within}
use Rattle.rules.specs.Staged.{Sheet, stage0, staged, parity_length, parity_blocks, live_count, move_to, later, after, read, from_stage0, from_staged, change, written, change_cells}
use Rattle.laws.specs.Stage.{absent-at, at-absent}
use Rattle.laws.specs.PlainMaps.{NoBlock}

-- no block has bit i, and none is empty
abbrev pub NoBlockLeft : ℕ → ℕ → ℕ → ℕ → List ℕ → Type 0
NoBlockLeft k L m i xs = NoBlock m i (states k L xs) × ((j : ℕ) → j < m → ¬ (IsEmpty (states k L xs j)))

-- no stage after the one with d left has k parity blocks that aren't full
abbrev pub NoStageLeft : ℕ → ℕ → ℕ → ℕ → List ℕ → Type 0
NoStageLeft s m L d xs = (e : ℕ) → e < d → live_count s m L e xs < 2 ^ s

-- stage 0: no block and no later stage; stage r: no index is the bit's, none is free, and no later stage
abbrev pub NoPlace : ℕ → ℕ → ℕ → ℕ → Sheet → Type 0
NoPlace s m L i (stage0 xs) = NoBlockLeft (2 ^ s) L m i xs × NoStageLeft s m L (s - 1) xs
NoPlace s m L i (staged d xs es) = (Absent (suc i) (indexes es) × Absent 0 (indexes es)) × NoStageLeft s m L d xs

-- done is not no_place_left
apart : {A : Type 0} {a : A} → ¬ (◌≡◌ {A = Result A} (done a) no_place_left)
apart e = let z : ◌≡◌ {A = ℕ} 0 1 = cc in omega arith

-- ---- the plain map

module _ (k L m i : ℕ) (xs : List ℕ) where
  -- what the searches found, where it comes to no place
  plain-from : {f g : Found} → First (λ j. HasBit i (states k L xs j)) m f → First (λ j. IsEmpty (states k L xs j)) m g
      → carry_out k L xs (plan_from (k * L) (states k L xs) i f g) ≡ no_place_left → NoBlockLeft k L m i xs
  plain-from (hit j l h b) g e = absurd (apart e)
  plain-from (miss b) (hit j l h c) e = absurd (apart e)
  plain-from (miss b) (miss c) e = (b, c)

  -- the plain map finds no place exactly if no block is left
  pub plain-place : R.change k L m i xs ≡ no_place_left ↔ NoBlockLeft k L m i xs
  unfolding R.change plan
  plain-place = (
    plain-from (first-is (λ j. has_bit? i (states k L xs j)) m) (first-is (λ j. is_empty? (states k L xs j)) m),
    λ h. ap (λ (f : Found). carry_out k L xs (plan_from (k * L) (states k L xs) i f (first (λ j. is_empty? (states k L xs j)) m))) (first-eq (λ j. has_bit? i (states k L xs j)) m (miss h.0))
        ∙ ap (λ (f : Found). carry_out k L xs (plan_from (k * L) (states k L xs) i nowhere f)) (first-eq (λ j. is_empty? (states k L xs j)) m (miss h.1)),
  )

-- ---- later stages

-- what holds at d and below it holds below d + 1
below_next : (P : ℕ → Type 0) (d : ℕ) → P d → ((e : ℕ) → e < d → P e) → (e : ℕ) → e < suc d → P e
below_next P d p b e l = ⊎_elim (λ q. subst P (sym q) p) (b e) (eq-or-lt_of_le (le_of_suc-le-suc l))

-- the stage that a change goes on to: the first after the one with d left in which at least k parity blocks aren't full
pub record NextStage (s m L d : ℕ) (xs vs : List ℕ) (y : Sheet) : Type 0 where
  -- the stages left there
  pub left : ℕ
  pub after : left < d
  pub is : y ≡ move_to s m L left xs vs
  pub enough : 2 ^ s ≤ live_count s m L left xs
  pub first : (e : ℕ) → left < e → e < d → live_count s m L e xs < 2 ^ s

-- a later stage found is that one
pub later_first : (s m L d : ℕ) (xs vs : List ℕ) (y : Sheet) → later s m L d xs vs ≡ done y → NextStage s m L d xs vs y
later_first s m L zero xs vs y e = absurd (apart (sym e))
later_first s m L (suc d) xs vs y e = pick-elim (λ (r : Result Sheet). r ≡ done y → NextStage s m L (suc d) xs vs y) (dec_le (2 ^ s) (live_count s m L d xs)) _ _
    (λ q z. record { left = d; after = le_refl (suc d); is = cc; enough = q; first = λ c h l. absurd (omega arith) })
    (λ q z. let n : NextStage s m L d xs vs y = later_first s m L d xs vs y z in
    record {
      left = n.left;
      after = omega (arith, n.after);
      is = n.is;
      enough = n.enough;
      first = λ c h l. below_next (λ x. n.left < x → live_count s m L x xs < 2 ^ s) d (λ _. lt_of_not-le q) (λ x b a. n.first x a b) c l h;
    }) e

module _ (s m L : ℕ) (xs vs : List ℕ) where
  -- no later stage found: none is left
  later-none : (d : ℕ) → later s m L d xs vs ≡ no_place_left → NoStageLeft s m L d xs
  later-none zero e = λ c l. absurd (not-suc-le-zero l)
  later-none (suc d) e = pick-elim (λ r. r ≡ no_place_left → NoStageLeft s m L (suc d) xs) (dec_le (2 ^ s) (live_count s m L d xs)) _ _
      (λ q z. absurd (apart z))
      (λ q z. below_next (λ c. live_count s m L c xs < 2 ^ s) d (lt_of_not-le q) (later-none d z)) e

  -- and conversely
  none-later : (d : ℕ) → NoStageLeft s m L d xs → later s m L d xs vs ≡ no_place_left
  none-later zero h = refl
  none-later (suc d) h =
      pick_no (dec_le (2 ^ s) (live_count s m L d xs)) _ _ (λ q. let z : live_count s m L d xs < 2 ^ s = h d (le_refl (suc d)) in omega arith)
      ∙ none-later d (λ c l. h c (omega arith))

-- ---- a stage from 1 up

module _ (W L i : ℕ) (bs : List (List ℕ)) (es : List Entry) where
  not_beyond : {cs : List (List ℕ)} {fs : List Entry} → ¬ (stay cs fs ≡ beyond)
  not_beyond e = let z : ◌≡◌ {A = ℕ} 0 1 = cc in omega arith

  within-from : {f g : Found} → First (λ t. get_or (indexes es) t 0 ≡ suc i) (length (indexes es)) f → First (λ t. get_or (indexes es) t 0 ≡ 0) (length (indexes es)) g
      → chosen W L i bs es f g ≡ beyond → Absent (suc i) (indexes es) × Absent 0 (indexes es)
  within-from (hit t l h b) g e = absurd (not_beyond e)
  within-from (miss b) (hit t l h c) e = absurd (not_beyond e)
  within-from (miss b) (miss c) e = (at-absent (suc i) (indexes es) b, at-absent 0 (indexes es) c)

  none-at : (u : ℕ) → Absent u (indexes es) → First (λ t. get_or (indexes es) t 0 ≡ u) (length (indexes es)) nowhere
  none-at u h = miss (λ t l e. absent-at u t (indexes es) h l (sym e))

  -- the stage has no block for the bit exactly if no index is the bit's and none is free
  pub within-place : change_within W L i bs es ≡ beyond ↔ (Absent (suc i) (indexes es) × Absent 0 (indexes es))
  unfolding change_within
  within-place = (
    within-from (first-is (λ t. ℕ_discrete (get_or (indexes es) t 0) (suc i)) (length (indexes es))) (first-is (λ t. ℕ_discrete (get_or (indexes es) t 0) 0) (length (indexes es))),
    λ h. ap (λ (f : Found). chosen W L i bs es f (first (λ t. ℕ_discrete (get_or (indexes es) t 0) 0) (length (indexes es)))) (first-eq (λ t. ℕ_discrete (get_or (indexes es) t 0) (suc i)) (length (indexes es)) (none-at (suc i) h.0))
        ∙ ap (chosen W L i bs es nowhere) (first-eq (λ t. ℕ_discrete (get_or (indexes es) t 0) 0) (length (indexes es)) (none-at 0 h.1)),
  )

-- ---- the staged map

module _ (s m L i : ℕ) where
  abbrev values : Sheet → List ℕ
  values x = tabulate (2 ^ s) (after i (read s m L x))

  from-stage0 : (xs vs : List ℕ) (q : Result (List ℕ)) → from_stage0 s m L xs vs q ≡ no_place_left → (q ≡ no_place_left) × NoStageLeft s m L (s - 1) xs
  from-stage0 xs vs (done ys) e = absurd (apart e)
  from-stage0 xs vs no_place_left e = (refl, later-none s m L xs vs (s - 1) e)

  from-staged : (d : ℕ) (xs vs : List ℕ) (q : Within) → from_staged s m L d xs vs q ≡ no_place_left → (q ≡ beyond) × NoStageLeft s m L d xs
  from-staged d xs vs (stay bs es) e = absurd (apart e)
  from-staged d xs vs beyond e = (refl, later-none s m L xs vs d e)

  none-to : (x : Sheet) → change s m L i x ≡ no_place_left → NoPlace s m L i x
  unfolding change
  none-to (stage0 xs) e =
      let q : (R.change (2 ^ s) L m i xs ≡ no_place_left) × NoStageLeft s m L (s - 1) xs = from-stage0 xs (values (stage0 xs)) (R.change (2 ^ s) L m i xs) e in
      ((plain-place (2 ^ s) L m i xs).0 q.0, q.1)
  none-to (staged d xs es) e =
      let q : (change_within (parity_length d * L) L i (parity_blocks s m d xs) es ≡ beyond) × NoStageLeft s m L d xs =
      from-staged d xs (values (staged d xs es)) (change_within (parity_length d * L) L i (parity_blocks s m d xs) es) e in
      ((within-place (parity_length d * L) L i (parity_blocks s m d xs) es).0 q.0, q.1)

  none_from : (x : Sheet) → NoPlace s m L i x → change s m L i x ≡ no_place_left
  unfolding change
  none_from (stage0 xs) h = ap (from_stage0 s m L xs (values (stage0 xs))) ((plain-place (2 ^ s) L m i xs).1 h.0) ∙ none-later s m L xs (values (stage0 xs)) (s - 1) h.1
  none_from (staged d xs es) h = ap (from_staged s m L d xs (values (staged d xs es))) ((within-place (parity_length d * L) L i (parity_blocks s m d xs) es).1 h.0)
      ∙ none-later s m L xs (values (staged d xs es)) d h.1

  -- the staged map finds no place exactly if the stage has none and no later stage is left
  pub staged-place : (x : Sheet) → change s m L i x ≡ no_place_left ↔ NoPlace s m L i x
  staged-place x = (none-to x, none_from x)

-- what is not written back was not made
pub unwritten : (write : List ℕ → Sheet → List ℕ) (f : List ℕ) (q : Result Sheet) → written write f q ≡ no_place_left → q ≡ no_place_left
unwritten write f (done y) e = absurd (apart e)
unwritten write f no_place_left e = refl

-- and so does the map on cells, however the index blocks are stored
pub cells-place : (s m L : ℕ) (decode : List ℕ → Sheet) (write : List ℕ → Sheet → List ℕ) (i : ℕ) (f : List ℕ)
    → change_cells s m L decode write i f ≡ no_place_left ↔ NoPlace s m L i (decode f)
unfolding change_cells
cells-place s m L decode write i f = (λ e. (staged-place s m L i (decode f)).0 (unwritten write f (change s m L i (decode f)) e), λ h. ap (written write f) ((staged-place s m L i (decode f)).1 h))
