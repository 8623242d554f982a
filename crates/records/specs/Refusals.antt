-- Demand 1 for a record: a refused one leaves the sheet held as it is, and BadRecord is answered exactly for the causes that 01 lists. Assumes nothing.
use Rattle.std.specs.Prelude.{◌≡◌, refl, ◌≢◌, ◌↔◌, ◌⊎◌, List, ◌++◌, ℕ, zero, suc, ◌≤◌, ◌<◌, length, get_or, take, drop}
use Rattle.std.proofs.Common.{sym, ap, ◌∙◌, subst, inl, inr, ⊎_elim, arith, take-append-drop}
use Rattle.std.proofs.Math.Decide.{ℕ_discrete, dec_lt}
use Rattle.rules.specs.Calls.{Check, Pass, Refuse, and_then, Outcome}
use Rattle.rules.specs.Records.{operation, kind_asked, bits_asked, top_asked, cells_asked, bit_named, Step, held_after, erase_step, change_step, passed, record_step}
use Rattle.rules.specs.declared.Settings.{Settings}
use Rattle.rules.specs.declared.Answer.TheVariants.{BadRecord}
use Rattle.laws.specs.Calls.{Erasing, refusing, clears, erase-is}
use Rattle.lifetime.specs.Refusals.{EraseAnswer, erase-answers, ReadAnswer, read-answers, ChangeAnswer, change-answers, NotDone, change-refused-same}
use Rattle.records.specs.Meaning.{Form, HeldFacts, check_use, check_record, asked, work}
use Rattle.records.specs.Laws.{Tested, kept, broken, form-tested, unused-tested, held-tested, record-first}
use Rattle.records.specs.HeldLaws.{erase-keeps}

-- ---- a refused record leaves the sheet held as it is

-- a step that isn't Done has left the settings and every cell
abbrev Left : Settings → List ℕ → Step → Type 0
Left r xs s = NotDone s.answer → (s.settings ≡ r) × (s.cells ≡ xs)

-- operation 1
erase-left : (new r : Settings) (xs : List ℕ) → Left r xs (erase_step new r xs)
erase-left new r xs = go (erase-is new (take new.n xs))
  where
    go : {o : Outcome} → Erasing new (take new.n xs) o → NotDone o.answer → (held_after new r o.answer ≡ r) × (o.sheet ++ drop new.n xs ≡ xs)
    go (refusing a q) h = (erase-keeps new r a q, take-append-drop new.n xs)
    go (clears g e) h = absurd (h _ refl)

-- operation 2
change-left : (r : Settings) (xs : List ℕ) (i : ℕ) → Left r xs (change_step r xs i)
change-left r xs i h = (refl, ap (λ (ys : List ℕ). ys ++ drop r.n xs) (change-refused-same r (take r.n xs) i h).same ∙ take-append-drop r.n xs)

-- each operation's work
work-left : (op : ℕ) (rec : List ℕ) (r : Settings) (xs : List ℕ) → Left r xs (work op rec r xs)
work-left zero rec r xs h = (refl, refl)
work-left (suc zero) rec r xs h = erase-left (asked rec) r xs h
work-left (suc (suc zero)) rec r xs h = change-left r xs (bit_named rec) h
work-left (suc (suc (suc op))) rec r xs h = (refl, refl)

-- a test that refuses leaves all as it is
passed-left : (c : Check) (r : Settings) (xs : List ℕ) (s : Step) → Left r xs s → Left r xs (passed c r xs s)
passed-left Pass r xs s g = g
passed-left (Refuse a) r xs s g = λ h. (refl, refl)

-- a refused record leaves the sheet held as it is: the settings and every cell
pub record-refused-same : (rec : List ℕ) (r : Settings) (xs : List ℕ) → NotDone (record_step rec r xs).answer → ((record_step rec r xs).settings ≡ r) × ((record_step rec r xs).cells ≡ xs)
record-refused-same rec r xs =
    subst (Left r xs) (sym (record-first rec r xs refl)) (passed-left (check_record rec r) r xs (work (operation rec) rec r xs) (work-left (operation rec) rec r xs))

-- ---- why a record is BadRecord

-- operation 2 or 3: one on the sheet held
abbrev pub OnHeld : List ℕ → Type 0
OnHeld rec = (operation rec ≡ 2) ⊎ (operation rec ≡ 3)

-- the settings of the record are those of the sheet held
pub record SameSettings (rec : List ℕ) (r : Settings) : Type 0 where
  pub kind : kind_asked rec ≡ r.kind
  pub bits : bits_asked rec ≡ r.k
  pub top : top_asked rec ≡ r.top
  pub cells : cells_asked rec ≡ r.n

-- each cause that 01 names, enough by itself
pub data BadCause (rec : List ℕ) (r : Settings) : Type 0 where
  -- a cut last record: any length but 8
  cut : length rec ≢ 8 → BadCause rec r
  -- an unknown operation
  unknown : operation rec ≢ 1 → operation rec ≢ 2 → operation rec ≢ 3 → BadCause rec r
  -- a last byte not 0
  last : get_or rec 7 0 ≢ 0 → BadCause rec r
  -- an unused bit byte not 0
  unused : operation rec ≢ 2 → bit_named rec ≢ 0 → BadCause rec r
  -- operation 2 or 3 with no sheet held
  no-sheet : OnHeld rec → r.k ≡ 0 → BadCause rec r
  -- operation 2 or 3 with settings other than those of the sheet held
  other : OnHeld rec → ¬ (SameSettings rec r) → BadCause rec r

-- ---- the tests find a cause where there is one

-- what tests for causes A come to: they pass where there is none and answer BadRecord where there is one
data Caused (A : Type 0) : Check → Type 0 where
  none : ¬ A → Caused A Pass
  some : A → Caused A (Refuse BadRecord)

module _ (rec : List ℕ) (r : Settings) where
  -- a record without its form is cut, or its last byte isn't 0, or its operation is unknown
  form-cause : ¬ (Form rec) → BadCause rec r
  form-cause f = go (ℕ_discrete (length rec) 8) (ℕ_discrete (get_or rec 7 0) 0)
    where
      isnt : length rec ≡ 8 → get_or rec 7 0 ≡ 0 → (op : ℕ) → 1 ≤ op → op ≤ 3 → operation rec ≢ op
      isnt w l op a b e = f (record { whole = w; least = omega arith; most = omega arith; last = l })

      go : Dec (length rec ≡ 8) → Dec (get_or rec 7 0 ≡ 0) → BadCause rec r
      go (no h) d = cut h
      go (yes w) (no h) = last h
      go (yes w) (yes l) = unknown (isnt w l 1 (omega arith) (omega arith)) (isnt w l 2 (omega arith) (omega arith)) (isnt w l 3 (omega arith) (omega arith))

  -- where the tests of the sheet held fail there is none, or one of other settings
  held-cause : OnHeld rec → ¬ (HeldFacts rec r) → BadCause rec r
  held-cause o f = go (dec_lt 0 r.k)
    where
      go : Dec (0 < r.k) → BadCause rec r
      go (no h) = no-sheet o (omega arith)
      go (yes l) = other o (λ s. f (record { held = l; kind = s.kind; bits = s.bits; top = s.top; cells = s.cells }))

  -- where every test passes there is no cause
  no-cause : Form rec → (operation rec ≢ 2 → bit_named rec ≡ 0) → (OnHeld rec → HeldFacts rec r) → ¬ (BadCause rec r)
  no-cause f u s (cut h) = h f.whole
  no-cause f u s (unknown a b c) = omega (arith, f.least, f.most)
  no-cause f u s (last h) = h f.last
  no-cause f u s (unused a h) = h (u a)
  no-cause f u s (no-sheet o h) = omega (arith, (s o).held)
  no-cause f u s (other o h) = h (record { kind = (s o).kind; bits = (s o).bits; top = (s o).top; cells = (s o).cells })

  -- the tests that an operation adds
  use-caused : (op : ℕ) → operation rec ≡ op → Form rec → Caused (BadCause rec r) (check_use op rec r)
  use-caused zero e f = absurd (omega (arith, f.least))
  use-caused (suc zero) e f = go (unused-tested rec)
    where
      go : {c : Check} → Tested (bit_named rec ≡ 0) c → Caused (BadCause rec r) c
      go (kept z) = none (no-cause f (λ h. z) (⊎_elim (λ q. absurd (omega arith)) (λ q. absurd (omega arith))))
      go (broken h) = some (unused (λ q. omega arith) h)
  use-caused (suc (suc zero)) e f = go (held-tested rec r)
    where
      go : {c : Check} → Tested (HeldFacts rec r) c → Caused (BadCause rec r) c
      go (kept s) = none (no-cause f (λ h. absurd (h e)) (λ o. s))
      go (broken h) = some (held-cause (inl e) h)
  use-caused (suc (suc (suc op))) e f = go (unused-tested rec) (held-tested rec r)
    where
      go : {c d : Check} → Tested (bit_named rec ≡ 0) c → Tested (HeldFacts rec r) d → Caused (BadCause rec r) (and_then c d)
      go (kept z) (kept s) = none (no-cause f (λ h. z) (λ o. s))
      go (kept z) (broken h) = some (held-cause (inr (omega (arith, f.most))) h)
      go (broken h) t = some (unused (λ q. omega arith) h)

  -- every test
  record-caused : Caused (BadCause rec r) (check_record rec r)
  record-caused = go (form-tested rec)
    where
      go : {c : Check} → Tested (Form rec) c → Caused (BadCause rec r) (and_then c (check_use (operation rec) rec r))
      go (kept f) = use-caused (operation rec) refl f
      go (broken h) = some (form-cause h)

-- ---- no call answers BadRecord

-- it is none of the answers listed for an erase
erase-never : (r : Settings) (xs : List ℕ) → ¬ (EraseAnswer r xs BadRecord)
erase-never r xs h = elim h [ ]

-- nor for a change
change-never : (r : Settings) (xs : List ℕ) (i : ℕ) → ¬ (ChangeAnswer r xs i BadRecord)
change-never r xs i h = elim h [ ]

-- nor for a reading
read-never : (r : Settings) (xs out : List ℕ) → ¬ (ReadAnswer r xs out BadRecord)
read-never r xs out h = elim h [ ]

-- so no operation's work answers it
work-never : (op : ℕ) (rec : List ℕ) (r : Settings) (xs : List ℕ) → op ≢ 0 → (work op rec r xs).answer ≢ BadRecord
work-never zero rec r xs n e = n refl
work-never (suc zero) rec r xs n e = erase-never (asked rec) _ ((erase-answers (asked rec) _ BadRecord).1 e)
work-never (suc (suc zero)) rec r xs n e = change-never r _ _ ((change-answers r _ _ BadRecord).1 e)
work-never (suc (suc (suc op))) rec r xs n e = read-never r _ _ ((read-answers r _ _ BadRecord).1 e)

-- ---- BadRecord, exactly when

-- BadRecord is answered exactly where one of the causes is
pub bad-record-exactly : (rec : List ℕ) (r : Settings) (xs : List ℕ) → (record_step rec r xs).answer ≡ BadRecord ↔ BadCause rec r
bad-record-exactly rec r xs = subst (λ (s : Step). s.answer ≡ BadRecord ↔ BadCause rec r) (sym (record-first rec r xs refl)) (go (record-caused rec r))
  where
    known : ¬ (BadCause rec r) → operation rec ≢ 0
    known h z = h (unknown (λ e. omega arith) (λ e. omega arith) (λ e. omega arith))

    go : {c : Check} → Caused (BadCause rec r) c → (passed c r xs (work (operation rec) rec r xs)).answer ≡ BadRecord ↔ BadCause rec r
    go (none h) = (λ e. absurd (work-never (operation rec) rec r xs (known h) e), λ b. absurd (h b))
    go (some b) = (λ e. b, λ e. refl)
