-- Demand 2 for the whole call, for every accepted sheet of either kind. Assumes nothing.
use Rattle.std.specs.Prelude.{◌≡◌, refl, ◌≢◌, ◌↔◌, List, ℕ, zero, suc, ◌+◌, ◌-◌, ◌*◌, ◌^◌, ◌≤◌, ◌<◌, replicate}
use Rattle.std.proofs.Common.{sym, ap, ◌∙◌, subst, ⊎_elim, arith}
use Rattle.rules.specs.Search.{Result, done, no_place_left}
use Rattle.rules.specs.Cells.{sum, Rises}
use Rattle.rules.specs.Plain.{Spare}
use Rattle.rules.specs.Plain as R
use Rattle.rules.specs.Staged.{Sheet}
use Rattle.rules.specs.Batches.{decode, write, index_cells}
use Rattle.rules.specs.Batches as B
use Rattle.rules.specs.Accept.{Genuine}
use Rattle.rules.specs.AcceptLaws.{PlainFacts, StagedFacts, genuine-facts, staged-inside}
use Rattle.rules.specs.Calls.{Check, read_bit, change_at, change_sheet, Outcome, changed, changing, change_call}
use Rattle.rules.specs.Answer.{number_of, value_of}
use Rattle.rules.specs.declared.Settings.{Settings}
use Rattle.rules.specs.declared.Answer.TheVariants.{Done, Erase}
use Rattle.laws.specs.Kinds.{plain-sound, sound-plain, plain-read, plain-change, staged-sound, sound-staged, staged-read, staged-change}
use Rattle.laws.specs.Lists.{rises-sum}
use Rattle.lifetime.specs.Place.{NoBlockLeft, NoPlace, plain-place, cells-place}
use Rattle.laws.specs.PlainSheet as P
use Rattle.lifetime.specs.Storage as T
use Rattle.lifetime.specs.Storage.{Storage}
use Rattle.lifetime.specs.Batches.{kind_1, sound-fits, fits-sound}
use Rattle.laws.specs.Calls.{Accepted, Refusal, Making, refuses, erases, makes, change-is, change-passes}

-- what a change of bit i that is made does to a sheet
pub record Changed (r : Settings) (i : ℕ) (xs ys : List ℕ) : Type 0 where
  pub stays : Accepted r ys
  pub flips : read_bit r ys i ≡ 1 - read_bit r xs i
  pub keeps : (b : ℕ) → b < r.k → b ≢ i → read_bit r ys b ≡ read_bit r xs b
  pub rises : Rises xs ys

-- ---- kind 0

module _ (r : Settings) (p : PlainFacts r) where
  -- an accepted sheet, as the laws of plain sheets have it
  pub plain-is : (xs : List ℕ) → Accepted r xs → P.Accepted r.k r.top r.m r.n xs
  plain-is xs a =
      let q : R.Sound r.k r.top r.m r.n xs = plain-sound r p xs a.sound in
      record { long = a.long; low = a.low; lawful = P.blocks-lawful r.k r.top r.m xs (omega (arith, p.bits-least)) p.top_least q.0; packed = q.0.2; spare = q.1 }

  -- a sheet that the laws of plain sheets accept is accepted
  pub is_plain : (xs : List ℕ) → Genuine r → P.Accepted r.k r.top r.m r.n xs → Accepted r xs
  is_plain xs g a = record {
    genuine = g;
    long = a.long;
    low = a.low;
    sound = sound-plain r p xs (P.lawful-blocks r.k r.top r.m xs a.lawful a.packed, a.spare);
  }

  -- what the encoding map of kind 0 makes of it
  pub plain-law : (i : ℕ) (xs ys : List ℕ) → Accepted r xs → i < r.k → change_sheet r xs i ≡ done ys → P.Changed r.k r.top r.m r.n i xs ys
  plain-law i xs ys a l e =
      P.change-law r.k r.top r.m r.n p.bits-least p.top_least p.even p.inside i l xs (plain-is xs a) ys (sym (plain-change r p xs i) ∙ e)

  plain-changed : (i : ℕ) (xs ys : List ℕ) → Accepted r xs → i < r.k → change_sheet r xs i ≡ done ys → Changed r i xs ys
  plain-changed i xs ys a l e =
      let h : P.Changed r.k r.top r.m r.n i xs ys = plain-law i xs ys a l e in
      record {
        stays = is_plain ys a.genuine h.stays;
        flips = plain-read r p ys i ∙ h.flips ∙ ap (λ (x : ℕ). 1 - x) (sym (plain-read r p xs i));
        keeps = λ b _ d. plain-read r p ys b ∙ h.keeps b d ∙ sym (plain-read r p xs b);
        rises = h.rises;
      }

-- ---- kind 1

module _ (r : Settings) (p : StagedFacts r) where
  -- what the cells mean
  abbrev pub means : List ℕ → Sheet
  means = decode r.s r.m r.top r.w

  -- and how a sheet is written back
  abbrev pub back : List ℕ → Sheet → List ℕ
  back = write r.s r.m r.top r.w

  -- the spare cells are 0
  abbrev pub Clean : List ℕ → Type 0
  Clean = Spare (r.m * 2 ^ r.s + index_cells r.s r.w) r.n

  enough : 2 ^ r.s + 2 ≤ suc r.top ^ r.w
  enough = subst (λ (k : ℕ). k + 2 ≤ suc r.top ^ r.w) (sym p.bits) p.enough

  -- k is at most m
  pub many : 2 ^ r.s ≤ r.m
  many = subst (λ (k : ℕ). k ≤ r.m) (sym p.bits) p.room

  -- a bit below k
  pub below : {i : ℕ} → i < r.k → i < 2 ^ r.s
  below {i} l = subst (λ (k : ℕ). i < k) (sym p.bits) l

  -- the batches store the index blocks as the stages need
  pub stored : Storage r.s r.m r.top r.n means back Clean
  stored = kind_1 r.s r.m r.top r.w r.n p.top_least p.stages-least enough (staged-inside r p)

  -- an accepted sheet, as the laws of the stages have it
  pub staged-is : (xs : List ℕ) → Accepted r xs → T.Accepted r.s r.m r.top means back r.n Clean xs
  staged-is xs a =
      let q : B.Sound r.s r.m r.top r.w r.n xs = staged-sound r p xs a.sound in
      record {
        clean = q.1;
        long = a.long;
        low = a.low;
        fits = sound-fits r.s r.m r.top r.w r.n p.top_least p.stages-least enough (staged-inside r p) xs a.long a.low q.0;
      }

  is-staged : (xs : List ℕ) → Genuine r → T.Accepted r.s r.m r.top means back r.n Clean xs → Accepted r xs
  is-staged xs g a = record {
    genuine = g;
    long = a.long;
    low = a.low;
    sound = sound-staged r p xs (fits-sound r.s r.m r.top (means xs) a.fits, a.clean);
  }

  staged-changed : (i : ℕ) (xs ys : List ℕ) → Accepted r xs → i < r.k → change_sheet r xs i ≡ done ys → Changed r i xs ys
  staged-changed i xs ys a l e =
      let h : T.Changed r.s r.m r.top means back r.n Clean i xs ys =
      T.change-law r.s r.m r.top r.n means back Clean stored p.top_least p.stages-least many i xs ys (staged-is xs a) (below l) (sym (staged-change r p xs i) ∙ e) in
      record {
        stays = is-staged ys a.genuine h.stays;
        flips = staged-read r p ys i ∙ h.flips ∙ ap (λ (x : ℕ). 1 - x) (sym (staged-read r p xs i));
        keeps = λ b lb d. staged-read r p ys b ∙ h.keeps b (below lb) d ∙ sym (staged-read r p xs b);
        rises = h.rises;
      }

-- ---- both kinds

-- the encoding map keeps the sheet accepted, flips the named bit, moves no other, and lowers no level
pub sheet-changed : (r : Settings) (i : ℕ) (xs ys : List ℕ) → Accepted r xs → i < r.k → change_sheet r xs i ≡ done ys → Changed r i xs ys
sheet-changed r i xs ys a l e = ⊎_elim (λ p. plain-changed r p i xs ys a l e) (λ p. staged-changed r p i xs ys a l e) (genuine-facts r a.genuine)

-- an erased sheet is accepted
pub erased-accepted : (r : Settings) → Genuine r → Accepted r (replicate r.n 0)
erased-accepted r g = ⊎_elim (λ p. is_plain r p (replicate r.n 0) g (P.start r.k r.top r.m r.n p.bits-least p.top_least p.even p.inside))
    (λ p. is-staged r p (replicate r.n 0) g (T.run-law r.s r.m r.top r.n (means r p) (back r p) (Clean r p) (stored r p) p.top_least p.stages-least (many r p) T.begin).0)
    (genuine-facts r g)

-- what an answer Done of a change says
pub record Made (r : Settings) (xs : List ℕ) (i v : ℕ) (ys : List ℕ) : Type 0 where
  pub accepted : Accepted r xs
  pub bit : i < r.k
  pub maps : change_sheet r xs i ≡ done ys
  pub changed : Changed r i xs ys
  -- v is the sum after less the sum before
  pub raised : v + sum xs ≡ sum ys

made-sum : (r : Settings) (xs ys : List ℕ) (i : ℕ) → Accepted r xs → Changed r i xs ys → sum ys - sum xs + sum xs ≡ sum ys
made-sum r xs ys i a c = let h : sum xs ≤ sum ys = rises-sum xs ys (a.long ∙ sym c.stays.long) c.rises in omega arith

-- demand 2: an answer Done comes with the sheet of the encoding map, and that sheet is so
pub change-made : (r : Settings) (xs : List ℕ) (i v : ℕ) → (change_call r xs i).answer ≡ Done v → Made r xs i v (change_call r xs i).sheet
change-made r xs i v e = go (change-is r xs i) e
  where
    go : {o : Outcome} → Making r xs i o → o.answer ≡ Done v → Made r xs i v o.sheet
    go (refuses a q) e = absurd (subst Refusal e q)
    go (erases a l n) e = absurd (omega (arith, ap number_of e))
    go (makes ys a l n) e =
        let c : Changed r i xs ys = sheet-changed r i xs ys a l n in
        record { accepted = a; bit = l; maps = n; changed = c; raised = ap (λ (x : ℕ). x + sum xs) (sym (ap value_of e)) ∙ made-sum r xs ys i a c }

-- what an answer Erase says
pub record NoRoom (r : Settings) (xs : List ℕ) (i : ℕ) (ys : List ℕ) : Type 0 where
  pub accepted : Accepted r xs
  pub bit : i < r.k
  pub maps : change_sheet r xs i ≡ no_place_left
  pub same : ys ≡ xs

-- demand 2: Erase is answered exactly where the checks pass and the maps find no place, and it changes nothing
pub erase-tells : (r : Settings) (xs : List ℕ) (i : ℕ) → (change_call r xs i).answer ≡ Erase → NoRoom r xs i (change_call r xs i).sheet
erase-tells r xs i e = go (change-is r xs i) e
  where
    go : {o : Outcome} → Making r xs i o → o.answer ≡ Erase → NoRoom r xs i o.sheet
    go (refuses a q) e = absurd (subst Refusal e q)
    go (erases a l n) e = record { accepted = a; bit = l; maps = n; same = refl }
    go (makes ys a l n) e = absurd (omega (arith, ap number_of e))

-- no place is answered Erase
pub erase-answered : (r : Settings) (xs : List ℕ) (i : ℕ) → Accepted r xs → i < r.k → change_sheet r xs i ≡ no_place_left → (change_call r xs i).answer ≡ Erase
unfolding change_call
erase-answered r xs i a l n = ap (λ (c : Check). (changing r xs i c).answer) (change-passes r xs i a l) ∙ ap (λ (q : Result (List ℕ)). (changed xs q).answer) n

-- a sheet made is answered Done, with the levels raised
pub done-answered : (r : Settings) (xs ys : List ℕ) (i : ℕ) → Accepted r xs → i < r.k → change_sheet r xs i ≡ done ys → change_call r xs i ≡ record { answer = Done (sum ys - sum xs); sheet = ys }
unfolding change_call
done-answered r xs ys i a l n = ap (changing r xs i) (change-passes r xs i a l) ∙ ap (changed xs) n

-- ---- Erase, in the words of document 01

-- by the kind
abbrev pub NoPlaceAt : ℕ → Settings → List ℕ → ℕ → Type 0
NoPlaceAt zero r xs i = NoBlockLeft r.k r.top r.m i xs
NoPlaceAt (suc kind) r xs i = NoPlace r.s r.m r.top i (decode r.s r.m r.top r.w xs)

-- plain: no block is the bit's and none is empty; staged: nor is there a place in the stage or in a later one
abbrev pub NoPlaceLeft : Settings → List ℕ → ℕ → Type 0
NoPlaceLeft r xs i = NoPlaceAt r.kind r xs i

place_at : (kind : ℕ) (r : Settings) (xs : List ℕ) (i : ℕ) → change_at kind r xs i ≡ no_place_left ↔ NoPlaceAt kind r xs i
place_at zero r xs i = plain-place r.k r.top r.m i xs
place_at (suc kind) r xs i = cells-place r.s r.m r.top (decode r.s r.m r.top r.w) (write r.s r.m r.top r.w) i xs

-- the maps find no place exactly then
pub sheet-place : (r : Settings) (xs : List ℕ) (i : ℕ) → change_sheet r xs i ≡ no_place_left ↔ NoPlaceLeft r xs i
unfolding change_sheet
sheet-place r xs i = place_at r.kind r xs i

-- demand 2: Erase exactly on an accepted sheet with no place for an existing bit
pub erase-exactly : (r : Settings) (xs : List ℕ) (i : ℕ) → (change_call r xs i).answer ≡ Erase ↔ (Accepted r xs × (i < r.k) × NoPlaceLeft r xs i)
erase-exactly r xs i = (
  λ e. let h : NoRoom r xs i (change_call r xs i).sheet = erase-tells r xs i e in (h.accepted, h.bit, (sheet-place r xs i).0 h.maps),
  λ h. erase-answered r xs i h.0 h.1 ((sheet-place r xs i).1 h.2),
)
