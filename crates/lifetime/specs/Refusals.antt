-- Demand 1: for every call and every input, which answer is given exactly when, and that a refusal changes nothing. Assumes nothing.
use Rattle.std.specs.Prelude.{◌≡◌, refl, ◌≢◌, ◌↔◌, ◌⊎◌, List, ◌++◌, ℕ, zero, suc, ◌+◌, ◌-◌, ◌*◌, ◌/◌, ◌%◌, ◌^◌, ◌≤◌, ◌<◌, drop, replicate}
use Rattle.std.proofs.Common.{sym, ◌∙◌, subst, inl, inr, ⊎_elim, not-suc-le-zero, arith, length-append, length-drop, get_or-drop}
use Rattle.std.proofs.Math.Path.{ap}
use Rattle.std.proofs.Math.Decide.{ℕ_discrete, dec_le, dec_lt}
use Rattle.std.proofs.Math.ListN.{length, get_or, get_or-append}
use Rattle.rules.specs.Search.{Found, Result, done, no_place_left}
use Rattle.rules.specs.SearchLaws.{pick_yes, pick_no, pick-elim, First, hit, miss, first-is, first-eq}
use Rattle.rules.specs.Cells.{sum, Low, first_above}
use Rattle.rules.specs.Batches.{index_cells, decode}
use Rattle.rules.specs.Accept.{stages_of, index_width, refused, accept, Genuine, genuine?, guarantee}
use Rattle.rules.specs.StagesLaws.{stages-is, stages-bits, stages-only, width-enough, width-least, width-only}
use Rattle.rules.specs.AcceptLaws.{PlainRules, StagedRules, Ruled, kept, broken, plain-ruled, staged-ruled}
use Rattle.rules.specs.Calls.{Check, Pass, Refuse, Sound, sound?, read_at, read_bit, bits_of, change_sheet, ask, and_then, level_check, check_bit, check_length, check_levels, check_output, check_sheet, erase_checks, read_checks, change_checks, settings_call, Outcome, erasing, erase_call, changed, changing, change_call, Reading, reading, read_call, outcome, read_out}
use Rattle.rules.specs.Answer.{number_of, value_of}
use Rattle.rules.specs.declared.Settings.{Settings}
use Rattle.rules.specs.declared.Answer.{Answer}
use Rattle.rules.specs.declared.Answer.TheVariants.{Done, BadShape, BadLength, ShortOutput, BadBit, BadLevel, BadSheet, Erase}
use Rattle.laws.specs.Lists.{get_or-past, get_or-tabulate, length-tabulate, low-all}
use Rattle.laws.specs.PlainSheet as P
use Rattle.laws.specs.Calls.{Accepted, ask-fails, ask-passes, then-ends, then-goes, level-passes, read-passes, erase-passes, rest_checks, erase-first, change-first, read_first}
use Rattle.lifetime.specs.Change.{erase-answered, done-answered}
use Rattle.lifetime.specs.Staged.{read-two}
use Rattle.rules.specs.Staged.{read_cells}

-- ---- which answer, exactly when

-- the table of 01 for kind 0
pub record PlainTable (k L n : ℕ) : Type 0 where
  pub bits-least : 2 ≤ k
  pub bits_most : k ≤ 64
  pub top_least : 1 ≤ L
  pub top-most : L ≤ 255
  pub even : k * L % 2 ≡ 0
  pub cells-most : n ≤ 16384
  -- m = n / k is at least k
  pub room : k ≤ n / k

-- the table of 01 for kind 1
pub record StagedTable (k L n : ℕ) : Type 0 where
  pub s : ℕ
  pub w : ℕ
  -- k is 2 ^ s, with s from 2 to 6: 4, 8, 16, 32 or 64
  pub bits : 2 ^ s ≡ k
  pub stages-least : 2 ≤ s
  pub stages-most : s ≤ 6
  pub top_least : 1 ≤ L
  pub top-most : L ≤ 255
  pub cells-most : n ≤ 16384
  -- the width w is the least with (L + 1) ^ w at least k + 2
  pub enough : k + 2 ≤ suc L ^ w
  pub least : (v : ℕ) → k + 2 ≤ suc L ^ v → w ≤ v
  -- I = 2(k - 1)(s - 1)w is at most n, and m = (n - I) / k at least k
  pub index-room : 2 * (k - 1) * (s - 1) * w ≤ n
  pub room : k ≤ (n - 2 * (k - 1) * (s - 1) * w) / k

-- settings within the table of 01
abbrev pub Allowed : ℕ → ℕ → ℕ → ℕ → Type 0
Allowed zero k L n = PlainTable k L n
Allowed (suc zero) k L n = StagedTable k L n
Allowed (suc (suc kind)) k L n = ⊥

-- settings: BadShape outside the table, else Done with the guarantee
pub data SettingsAnswer (kind k L n : ℕ) : Answer → Type 0 where
  settings-shape : ¬ (Allowed kind k L n) → SettingsAnswer kind k L n BadShape
  settings-done : Allowed kind k L n → SettingsAnswer kind k L n (Done (guarantee (accept kind k L n)))

-- erase: checks 1 and 2, then Done with the guarantee
pub data EraseAnswer (r : Settings) (xs : List ℕ) : Answer → Type 0 where
  erase-shape : ¬ (Genuine r) → EraseAnswer r xs BadShape
  erase-length : Genuine r → length xs ≢ r.n → EraseAnswer r xs BadLength
  erase-done : Genuine r → length xs ≡ r.n → EraseAnswer r xs (Done (guarantee r))

-- read: checks 1, 2, 3, 5 and 6, then Done with the number of bits that are 1
pub data ReadAnswer (r : Settings) (xs out : List ℕ) : Answer → Type 0 where
  read-shape : ¬ (Genuine r) → ReadAnswer r xs out BadShape
  read_length : Genuine r → length xs ≢ r.n → ReadAnswer r xs out BadLength
  read-output : Genuine r → length xs ≡ r.n → ¬ (r.k ≤ length out) → ReadAnswer r xs out ShortOutput
  read-level : Genuine r → length xs ≡ r.n → r.k ≤ length out → (c : ℕ) → c < length xs → r.top < get_or xs c 0 → ((b : ℕ) → b < c → get_or xs b 0 ≤ r.top) → ReadAnswer r xs out (BadLevel c)
  read-sheet : Genuine r → length xs ≡ r.n → r.k ≤ length out → Low r.top xs → ¬ (Sound r xs) → ReadAnswer r xs out BadSheet
  read_done : Accepted r xs → r.k ≤ length out → ReadAnswer r xs out (Done (sum (bits_of r xs)))

-- change: checks 1, 2, 4, 5 and 6, then Erase where the maps find no place, else Done with the levels raised
pub data ChangeAnswer (r : Settings) (xs : List ℕ) (i : ℕ) : Answer → Type 0 where
  change-shape : ¬ (Genuine r) → ChangeAnswer r xs i BadShape
  change-length : Genuine r → length xs ≢ r.n → ChangeAnswer r xs i BadLength
  change-bit : Genuine r → length xs ≡ r.n → ¬ (i < r.k) → ChangeAnswer r xs i BadBit
  change-level : Genuine r → length xs ≡ r.n → i < r.k → (c : ℕ) → c < length xs → r.top < get_or xs c 0 → ((b : ℕ) → b < c → get_or xs b 0 ≤ r.top) → ChangeAnswer r xs i (BadLevel c)
  change-sheet : Genuine r → length xs ≡ r.n → i < r.k → Low r.top xs → ¬ (Sound r xs) → ChangeAnswer r xs i BadSheet
  change-erase : Accepted r xs → i < r.k → change_sheet r xs i ≡ no_place_left → ChangeAnswer r xs i Erase
  change-done : Accepted r xs → i < r.k → (ys : List ℕ) → change_sheet r xs i ≡ done ys → ChangeAnswer r xs i (Done (sum ys - sum xs))

-- ---- settings

-- the rules of kind 0 are its table
plain-table : (k L n : ℕ) → PlainRules k L n ↔ PlainTable k L n
plain-table k L n = (
  λ a. record { bits-least = a.bits-least; bits_most = a.bits_most; top_least = a.top_least; top-most = a.top-most; even = a.even; cells-most = a.cells-most; room = a.room },
  λ t. record { bits-least = t.bits-least; bits_most = t.bits_most; top_least = t.top_least; top-most = t.top-most; cells-most = t.cells-most; even = t.even; room = t.room },
)

-- the cells of all batches are I
index_is : (k s w : ℕ) → 2 ^ s ≡ k → index_cells s w ≡ 2 * (k - 1) * (s - 1) * w
index_is k s w e = rw (sym e) (omega arith)

-- the rules of kind 1 give its table
rules-table : (k L n : ℕ) → StagedRules k L n (stages_of k) (index_cells (stages_of k) (index_width L k)) → StagedTable k L n
rules-table k L n a =
    let f : (stages_of k ≤ 6) × (2 ^ stages_of k ≡ k) = stages-is k (omega (arith, a.stages-least)) in
    let e = index_is k (stages_of k) (index_width L k) f.1 in
    record {
      s = stages_of k;
      w = index_width L k;
      bits = f.1;
      stages-least = a.stages-least;
      stages-most = f.0;
      top_least = a.top_least;
      top-most = a.top-most;
      cells-most = a.cells-most;
      enough = width-enough L k a.top_least;
      least = width-least L k a.top_least;
      index-room = subst (λ (I : ℕ). I ≤ n) e a.index-room;
      room = subst (λ (I : ℕ). k ≤ (n - I) / k) e a.room;
    }

-- and the table gives them
table-rules : (k L n : ℕ) → StagedTable k L n → StagedRules k L n (stages_of k) (index_cells (stages_of k) (index_width L k))
table-rules k L n t =
    let e = sym (index_is k t.s t.w t.bits) in
    rw (stages-only k t.s t.stages-most t.bits, width-only L k t.w t.top_least t.enough t.least) (record {
      stages-least = t.stages-least;
      top_least = t.top_least;
      top-most = t.top-most;
      cells-most = t.cells-most;
      index-room = subst (λ (I : ℕ). I ≤ n) e t.index-room;
      room = subst (λ (I : ℕ). k ≤ (n - I) / k) e t.room;
    })

-- so they are its table
staged-table : (k L n : ℕ) → StagedRules k L n (stages_of k) (index_cells (stages_of k) (index_width L k)) ↔ StagedTable k L n
staged-table k L n = (rules-table k L n, table-rules k L n)

-- where rules are a table, those that keep it get a record with bits, and the others the record of zeros
ruled-or : {A B : Type 0} {x r : Settings} → Ruled A x r → A ↔ B → (A → 0 < x.k) → (B × (0 < r.k)) ⊎ (¬ B × (r ≡ refused))
ruled-or (kept a) q p = inl (q.0 a, p a)
ruled-or (broken h) q p = inr (λ b. h (q.1 b), refl)

-- acceptance goes by the table
allowed-or : (kind k L n : ℕ) → (Allowed kind k L n × (0 < (accept kind k L n).k)) ⊎ (¬ (Allowed kind k L n) × (accept kind k L n ≡ refused))
allowed-or zero k L n = ruled-or (plain-ruled k L n) (plain-table k L n) (λ a. omega (arith, a.bits-least))
allowed-or (suc zero) k L n = ruled-or (staged-ruled k L n _ _ _ refl refl refl) (staged-table k L n) (λ a. omega (arith, (stages-bits k (stages_of k) refl a.stages-least).1))
allowed-or (suc (suc kind)) k L n = inr (λ h. h, refl)

-- the answer of settings is the one listed
pub settings-answer : (kind k L n : ℕ) → SettingsAnswer kind k L n (settings_call kind k L n).answer
unfolding settings_call
settings-answer kind k L n = pick-elim (SettingsAnswer kind k L n) (dec_lt 0 (accept kind k L n).k) _ _
    (λ p. ⊎_elim (λ a. settings-done a.0) (λ b. absurd (not-suc-le-zero (subst (λ (x : Settings). 0 < x.k) b.1 p))) (allowed-or kind k L n))
    (λ q. ⊎_elim (λ a. absurd (q a.1)) (λ b. settings-shape b.0) (allowed-or kind k L n))

-- the one listed is its answer
settings-given : (kind k L n : ℕ) {a : Answer} → SettingsAnswer kind k L n a → (settings_call kind k L n).answer ≡ a
unfolding settings_call
settings-given kind k L n (settings-shape h) = pick_no (dec_lt 0 (accept kind k L n).k) _ _ (⊎_elim (λ a. absurd (h a.0)) (λ b p. not-suc-le-zero (subst (λ (x : Settings). 0 < x.k) b.1 p)) (allowed-or kind k L n))
settings-given kind k L n (settings-done g) = pick_yes (dec_lt 0 (accept kind k L n).k) _ _ (⊎_elim (λ a. a.1) (λ b. absurd (b.0 g)) (allowed-or kind k L n))

-- settings answer so, exactly then
pub settings-answers : (kind k L n : ℕ) (a : Answer) → SettingsAnswer kind k L n a ↔ ((settings_call kind k L n).answer ≡ a)
settings-answers kind k L n a = (settings-given kind k L n, λ e. subst (SettingsAnswer kind k L n) e (settings-answer kind k L n))

-- settings give the record of acceptance, which is of zeros where they are refused
pub settings-record : (kind k L n : ℕ) → ((settings_call kind k L n).settings ≡ accept kind k L n) × ((settings_call kind k L n).answer ≡ BadShape → (settings_call kind k L n).settings ≡ refused)
unfolding settings_call
settings-record kind k L n = (refl, λ e. ⊎_elim (λ a. absurd (let z = sym (pick_yes (dec_lt 0 (accept kind k L n).k) _ _ a.1) ∙ e in omega (arith, ap number_of z))) (λ b. b.1) (allowed-or kind k L n))

-- ---- the checks

module _ (r : Settings) (xs : List ℕ) where
  -- a first cell above L is refused
  levels-refuse : (c : ℕ) → c < length xs → r.top < get_or xs c 0 → ((b : ℕ) → b < c → get_or xs b 0 ≤ r.top) → check_levels r xs ≡ Refuse (BadLevel c)
  unfolding first_above
  levels-refuse c l h b = ap level_check (first-eq (λ c. dec_lt r.top (get_or xs c 0)) (length xs) (hit c l h (λ i q z. let y : get_or xs i 0 ≤ r.top = b i q in omega arith)))

  -- where no cell is above L the levels are low
  no-level : ((c : ℕ) → c < length xs → ¬ (r.top < get_or xs c 0)) → Low r.top xs
  no-level b = low-all r.top xs (λ c l. let q : ¬ (r.top < get_or xs c 0) = b c l in omega arith)

  -- the cells before the first one above L are not above L
  low-before : (c : ℕ) → ((i : ℕ) → i < c → ¬ (r.top < get_or xs i 0)) → (b : ℕ) → b < c → get_or xs b 0 ≤ r.top
  low-before c h b l = let q : ¬ (r.top < get_or xs b 0) = h b l in omega arith

  -- check 1 fails
  shape-ends : ¬ (Genuine r) → erase_checks r xs ≡ Refuse BadShape
  shape-ends h = then-ends (check_length r xs) (ask-fails (genuine? r) BadShape h)

  -- check 1 passes and check 2 fails
  length-ends : Genuine r → length xs ≢ r.n → erase_checks r xs ≡ Refuse BadLength
  length-ends g h = then-goes (check_length r xs) (ask-passes (genuine? r) BadShape g) ∙ ask-fails (ℕ_discrete (length xs) r.n) BadLength h

  -- checks 5 and 6
  abbrev last_checks : Check
  last_checks = and_then (check_levels r xs) (check_sheet r xs)

  -- the first cell above L
  level-ends : (c : ℕ) → c < length xs → r.top < get_or xs c 0 → ((b : ℕ) → b < c → get_or xs b 0 ≤ r.top) → last_checks ≡ Refuse (BadLevel c)
  level-ends c l h b = then-ends (check_sheet r xs) (levels-refuse c l h b)

  -- no cell above L, and the sheet rules broken
  sheet-ends : Low r.top xs → ¬ (Sound r xs) → last_checks ≡ Refuse BadSheet
  sheet-ends w h = then-goes (check_sheet r xs) (level-passes r.top xs w) ∙ ask-fails (sound? r xs) BadSheet h

-- ---- erase

module _ (r : Settings) (xs : List ℕ) where
  -- the answer of erase is the one listed
  pub erase-answer : EraseAnswer r xs (erase_call r xs).answer
  unfolding erase_call
  erase-answer = shape (genuine? r)
    where
      size : Genuine r → (d : Dec (length xs ≡ r.n)) → EraseAnswer r xs (erasing r xs (ask d BadLength)).answer
      size g (yes e) = erase-done g e
      size g (no h) = erase-length g h

      shape : (d : Dec (Genuine r)) → EraseAnswer r xs (erasing r xs (and_then (ask d BadShape) (check_length r xs))).answer
      shape (yes g) = size g (ℕ_discrete (length xs) r.n)
      shape (no h) = erase-shape h

  -- the one listed is its answer
  erase-given : {a : Answer} → EraseAnswer r xs a → (erase_call r xs).answer ≡ a
  erase-given (erase-shape h) = ap (λ (o : Outcome). o.answer) (erase-first r xs (shape-ends r xs h))
  erase-given (erase-length g h) = ap (λ (o : Outcome). o.answer) (erase-first r xs (length-ends r xs g h))
  erase-given (erase-done g e) = ap (λ (o : Outcome). o.answer) (erase-first r xs (erase-passes r xs g e))

  -- erase answers so, exactly then
  pub erase-answers : (a : Answer) → EraseAnswer r xs a ↔ ((erase_call r xs).answer ≡ a)
  erase-answers a = (erase-given, λ e. subst (EraseAnswer r xs) e erase-answer)

  -- erase: on a sheet of n cells every cell is set to 0
  pub erase-gives : Genuine r → length xs ≡ r.n → erase_call r xs ≡ outcome (Done (guarantee r)) (replicate r.n 0)
  erase-gives g e = erase-first r xs (erase-passes r xs g e)

-- ---- read

module _ (r : Settings) (xs out : List ℕ) where
  -- what a reading answers once its checks come to c
  abbrev answer_of_read : Check → Answer
  answer_of_read c = (reading r xs out c).answer

  -- the answer of a reading is the one listed
  pub read_answer : ReadAnswer r xs out (read_call r xs out).answer
  unfolding read_call first_above
  read_answer = shape (genuine? r)
    where
      sheet : Genuine r → length xs ≡ r.n → r.k ≤ length out → Low r.top xs → (d : Dec (Sound r xs)) → ReadAnswer r xs out (answer_of_read (ask d BadSheet))
      sheet g e l w (yes s) = read_done (record { genuine = g; long = e; low = w; sound = s }) l
      sheet g e l w (no h) = read-sheet g e l w h

      level : Genuine r → length xs ≡ r.n → r.k ≤ length out → {f : Found} → First (λ c. r.top < get_or xs c 0) (length xs) f → ReadAnswer r xs out (answer_of_read (and_then (level_check f) (check_sheet r xs)))
      level g e l (hit c q h b) = read-level g e l c q h (low-before r xs c b)
      level g e l (miss b) = sheet g e l (no-level r xs b) (sound? r xs)

      room : Genuine r → length xs ≡ r.n → (d : Dec (r.k ≤ length out)) → ReadAnswer r xs out (answer_of_read (and_then (ask d ShortOutput) (last_checks r xs)))
      room g e (yes l) = level g e l (first-is (λ c. dec_lt r.top (get_or xs c 0)) (length xs))
      room g e (no h) = read-output g e h

      size : Genuine r → (d : Dec (length xs ≡ r.n)) → ReadAnswer r xs out (answer_of_read (and_then (ask d BadLength) (rest_checks r xs (check_output r out))))
      size g (yes e) = room g e (dec_le r.k (length out))
      size g (no h) = read_length g h

      shape : (d : Dec (Genuine r)) → ReadAnswer r xs out (answer_of_read (and_then (ask d BadShape) (and_then (check_length r xs) (rest_checks r xs (check_output r out)))))
      shape (yes g) = size g (ℕ_discrete (length xs) r.n)
      shape (no h) = read-shape h

  -- where checks 1 and 2 pass a reading goes by the rest
  read-rest : {c : Check} → Genuine r → length xs ≡ r.n → rest_checks r xs (check_output r out) ≡ c → read_call r xs out ≡ reading r xs out c
  read-rest g e q = read_first r xs out (erase-passes r xs g e) ∙ ap (reading r xs out) q

  -- check 3 passes
  output-goes : {c : Check} → r.k ≤ length out → last_checks r xs ≡ c → rest_checks r xs (check_output r out) ≡ c
  output-goes l q = then-goes (last_checks r xs) (ask-passes (dec_le r.k (length out)) ShortOutput l) ∙ q

  -- demand 2 for a reading: on an accepted sheet with k places lent, the bits and how many are 1
  pub read-gives : Accepted r xs → r.k ≤ length out → read_call r xs out ≡ read_out (Done (sum (bits_of r xs))) (bits_of r xs ++ drop r.k out)
  unfolding read_call
  read-gives a l = ap (reading r xs out) (read-passes r xs out a l)

  -- the one listed is its answer
  read-given : {a : Answer} → ReadAnswer r xs out a → (read_call r xs out).answer ≡ a
  read-given (read-shape h) = ap (λ (o : Reading). o.answer) (read_first r xs out (shape-ends r xs h))
  read-given (read_length g h) = ap (λ (o : Reading). o.answer) (read_first r xs out (length-ends r xs g h))
  read-given (read-output g e h) = ap (λ (o : Reading). o.answer) (read-rest g e (then-ends (last_checks r xs) (ask-fails (dec_le r.k (length out)) ShortOutput h)))
  read-given (read-level g e l c q h b) = ap (λ (o : Reading). o.answer) (read-rest g e (output-goes l (level-ends r xs c q h b)))
  read-given (read-sheet g e l w h) = ap (λ (o : Reading). o.answer) (read-rest g e (output-goes l (sheet-ends r xs w h)))
  read-given (read_done a l) = ap (λ (o : Reading). o.answer) (read-gives a l)

  -- a reading answers so, exactly then
  pub read-answers : (a : Answer) → ReadAnswer r xs out a ↔ ((read_call r xs out).answer ≡ a)
  read-answers a = (read-given, λ e. subst (ReadAnswer r xs out) e read_answer)

-- ---- change

module _ (r : Settings) (xs : List ℕ) (i : ℕ) where
  -- what a change answers once its checks come to c
  abbrev answer_of_change : Check → Answer
  answer_of_change c = (changing r xs i c).answer

  -- the answer of a change is the one listed
  pub change-answer : ChangeAnswer r xs i (change_call r xs i).answer
  unfolding change_call first_above
  change-answer = shape (genuine? r)
    where
      maps : Accepted r xs → i < r.k → (q : Result (List ℕ)) → change_sheet r xs i ≡ q → ChangeAnswer r xs i (changed xs q).answer
      maps a l (done ys) e = change-done a l ys e
      maps a l no_place_left e = change-erase a l e

      sheet : Genuine r → length xs ≡ r.n → i < r.k → Low r.top xs → (d : Dec (Sound r xs)) → ChangeAnswer r xs i (answer_of_change (ask d BadSheet))
      sheet g e l w (yes s) = maps (record { genuine = g; long = e; low = w; sound = s }) l (change_sheet r xs i) refl
      sheet g e l w (no h) = change-sheet g e l w h

      level : Genuine r → length xs ≡ r.n → i < r.k → {f : Found} → First (λ c. r.top < get_or xs c 0) (length xs) f → ChangeAnswer r xs i (answer_of_change (and_then (level_check f) (check_sheet r xs)))
      level g e l (hit c q h b) = change-level g e l c q h (low-before r xs c b)
      level g e l (miss b) = sheet g e l (no-level r xs b) (sound? r xs)

      named : Genuine r → length xs ≡ r.n → (d : Dec (i < r.k)) → ChangeAnswer r xs i (answer_of_change (and_then (ask d BadBit) (last_checks r xs)))
      named g e (yes l) = level g e l (first-is (λ c. dec_lt r.top (get_or xs c 0)) (length xs))
      named g e (no h) = change-bit g e h

      size : Genuine r → (d : Dec (length xs ≡ r.n)) → ChangeAnswer r xs i (answer_of_change (and_then (ask d BadLength) (rest_checks r xs (check_bit r i))))
      size g (yes e) = named g e (dec_lt i r.k)
      size g (no h) = change-length g h

      shape : (d : Dec (Genuine r)) → ChangeAnswer r xs i (answer_of_change (and_then (ask d BadShape) (and_then (check_length r xs) (rest_checks r xs (check_bit r i)))))
      shape (yes g) = size g (ℕ_discrete (length xs) r.n)
      shape (no h) = change-shape h

  -- where checks 1 and 2 pass a change goes by the rest
  change-rest : {c : Check} → Genuine r → length xs ≡ r.n → rest_checks r xs (check_bit r i) ≡ c → change_call r xs i ≡ changing r xs i c
  change-rest g e q = change-first r xs i (erase-passes r xs g e) ∙ ap (changing r xs i) q

  -- check 4 passes
  bit-goes : {c : Check} → i < r.k → last_checks r xs ≡ c → rest_checks r xs (check_bit r i) ≡ c
  bit-goes l q = then-goes (last_checks r xs) (ask-passes (dec_lt i r.k) BadBit l) ∙ q

  -- the one listed is its answer
  change-given : {a : Answer} → ChangeAnswer r xs i a → (change_call r xs i).answer ≡ a
  change-given (change-shape h) = ap (λ (o : Outcome). o.answer) (change-first r xs i (shape-ends r xs h))
  change-given (change-length g h) = ap (λ (o : Outcome). o.answer) (change-first r xs i (length-ends r xs g h))
  change-given (change-bit g e h) = ap (λ (o : Outcome). o.answer) (change-rest g e (then-ends (last_checks r xs) (ask-fails (dec_lt i r.k) BadBit h)))
  change-given (change-level g e l c q h b) = ap (λ (o : Outcome). o.answer) (change-rest g e (bit-goes l (level-ends r xs c q h b)))
  change-given (change-sheet g e l w h) = ap (λ (o : Outcome). o.answer) (change-rest g e (bit-goes l (sheet-ends r xs w h)))
  change-given (change-erase a l n) = erase-answered r xs i a l n
  change-given (change-done a l ys n) = ap (λ (o : Outcome). o.answer) (done-answered r xs ys i a l n)

  -- a change answers so, exactly then
  pub change-answers : (a : Answer) → ChangeAnswer r xs i a ↔ ((change_call r xs i).answer ≡ a)
  change-answers a = (change-given, λ e. subst (ChangeAnswer r xs i) e change-answer)

-- ---- a refusal changes nothing lent

-- the same list, place by place and in length
pub record Untouched (before after : List ℕ) : Type 0 where
  pub same : after ≡ before
  pub long : length after ≡ length before
  pub each : (c : ℕ) → get_or after c 0 ≡ get_or before c 0

-- equal lists are so
untouched : {before after : List ℕ} → after ≡ before → Untouched before after
untouched e = record { same = e; long = ap length e; each = λ c. ap (λ (l : List ℕ). get_or l c 0) e }

-- the answer is not Done
abbrev pub NotDone : Answer → Type 0
NotDone a = (v : ℕ) → a ≢ Done v

-- erase: any answer but Done leaves the sheet as it was
pub erase-refused-same : (r : Settings) (xs : List ℕ) → NotDone (erase_call r xs).answer → Untouched xs (erase_call r xs).sheet
unfolding erase_call
erase-refused-same r xs = go (erase_checks r xs)
  where
    go : (c : Check) → NotDone (erasing r xs c).answer → Untouched xs (erasing r xs c).sheet
    go Pass h = absurd (h (guarantee r) refl)
    go (Refuse a) h = untouched refl

-- change: any answer but Done leaves the sheet as it was, Erase too
pub change-refused-same : (r : Settings) (xs : List ℕ) (i : ℕ) → NotDone (change_call r xs i).answer → Untouched xs (change_call r xs i).sheet
unfolding change_call
change-refused-same r xs i = go (change_checks r xs i)
  where
    maps : (q : Result (List ℕ)) → NotDone (changed xs q).answer → Untouched xs (changed xs q).sheet
    maps (done ys) h = absurd (h (sum ys - sum xs) refl)
    maps no_place_left h = untouched refl

    go : (c : Check) → NotDone (changing r xs i c).answer → Untouched xs (changing r xs i c).sheet
    go Pass h = maps (change_sheet r xs i) h
    go (Refuse a) h = untouched refl

-- read: any answer but Done leaves every place of the output as it was
pub read-refused-same : (r : Settings) (xs out : List ℕ) → NotDone (read_call r xs out).answer → Untouched out (read_call r xs out).places
unfolding read_call
read-refused-same r xs out = go (read_checks r xs out)
  where
    go : (c : Check) → NotDone (reading r xs out c).answer → Untouched out (reading r xs out c).places
    go Pass h = absurd (h (sum (bits_of r xs)) refl)
    go (Refuse a) h = untouched refl

-- ---- an accepted reading, place by place

-- a bit reads 0 or 1
pub bit-two : (r : Settings) (xs : List ℕ) (i : ℕ) → read_bit r xs i < 2
unfolding read_bit read_cells
bit-two r xs i = go r.kind
  where
    go : (kind : ℕ) → read_at kind r xs i < 2
    go zero = P.read-two r.k r.top r.m xs i
    go (suc kind) = read-two r.s r.m r.top (decode r.s r.m r.top r.w xs) i

-- what an answer Done of a reading says
pub record ReadDone (r : Settings) (xs out : List ℕ) (v : ℕ) (places : List ℕ) : Type 0 where
  pub accepted : Accepted r xs
  pub room : r.k ≤ length out
  -- v is the number of bits that are 1
  pub ones : v ≡ sum (bits_of r xs)
  -- bit i at place i, 0 or 1
  pub bits : (i : ℕ) → i < r.k → (get_or places i 0 ≡ read_bit r xs i) × (get_or places i 0 < 2)
  -- every place from k on as it was
  pub rest : (c : ℕ) → r.k ≤ c → get_or places c 0 ≡ get_or out c 0
  pub long : length places ≡ length out

-- what a reading writes is so
read-written : (r : Settings) (xs out : List ℕ) → Accepted r xs → r.k ≤ length out → ReadDone r xs out (sum (bits_of r xs)) (bits_of r xs ++ drop r.k out)
read-written r xs out a l =
    let n : length (bits_of r xs) ≡ r.k = length-tabulate r.k (read_bit r xs) in
    let at-bit : (i : ℕ) → i < r.k → get_or (bits_of r xs ++ drop r.k out) i 0 ≡ read_bit r xs i = λ i h.
    get_or-append (bits_of r xs) (drop r.k out) 0 i (subst (λ (x : ℕ). i < x) (sym n) h) ∙ get_or-tabulate r.k i (read_bit r xs) h in
    record {
      accepted = a;
      room = l;
      ones = refl;
      bits = λ i h. (at-bit i h, subst (λ (x : ℕ). x < 2) (sym (at-bit i h)) (bit-two r xs i));
      rest = λ c h. past c h n;
      long = length-append (bits_of r xs) (drop r.k out) ∙ omega (arith, n, length-drop r.k out);
    }
  where
    past : (c : ℕ) → r.k ≤ c → length (bits_of r xs) ≡ r.k → get_or (bits_of r xs ++ drop r.k out) c 0 ≡ get_or out c 0
    past c h n =
        let e : r.k + (c - length (bits_of r xs)) ≡ c = omega arith in
        get_or-past (bits_of r xs) (drop r.k out) c 0 (omega arith) ∙ get_or-drop r.k out (c - length (bits_of r xs)) 0 ∙ ap (λ (x : ℕ). get_or out x 0) e

-- read: an answer Done writes bit i at place i, 0 or 1, and touches no place after the first k
pub read-done-places : (r : Settings) (xs out : List ℕ) (v : ℕ) → (read_call r xs out).answer ≡ Done v → ReadDone r xs out v (read_call r xs out).places
read-done-places r xs out v e = go ((read-answers r xs out (Done v)).1 e) refl
  where
    go : {a : Answer} → ReadAnswer r xs out a → a ≡ Done v → ReadDone r xs out v (read_call r xs out).places
    go (read-shape h) q = absurd (omega (arith, ap number_of q))
    go (read_length g h) q = absurd (omega (arith, ap number_of q))
    go (read-output g m h) q = absurd (omega (arith, ap number_of q))
    go (read-level g m l c b h p) q = absurd (omega (arith, ap number_of q))
    go (read-sheet g m l w h) q = absurd (omega (arith, ap number_of q))
    go (read_done a l) q = subst (λ (x : Answer). ReadDone r xs out (value_of x) (read_call r xs out).places) q
        (subst (ReadDone r xs out (sum (bits_of r xs))) (sym (ap (λ (o : Reading). o.places) (read-gives r xs out a l))) (read-written r xs out a l))
