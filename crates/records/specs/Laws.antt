-- Laws of a record's tests and of its work. Assumes nothing.
use Rattle.std.specs.Prelude.{◌≡◌, refl, ◌↔◌, List, ◌++◌, ℕ, zero, suc, ◌≤◌, length, get_or, take, drop}
use Rattle.std.proofs.Common.{sym, ap, ap₂, ◌∙◌, le_refl, not-suc-le-zero, arith, drop_of_length-le, take_all, length-take-le}
use Rattle.std.proofs.Math.Decide.{ℕ_discrete, dec_le, dec_lt}
use Rattle.std.proofs.Math.Seq.{take-length, drop-length}
use Rattle.rules.specs.SearchLaws.{pick-elim}
use Rattle.rules.specs.Answer.{number_of, value_of}
use Rattle.rules.specs.Calls.{Check, Pass, Refuse, ask, and_then, Outcome, erase_call, change_call}
use Rattle.rules.specs.Promises.{Gives, ErasePromise, ChangePromise}
use Rattle.rules.specs.PromiseLaws.{gives, outcome-is}
use Rattle.rules.specs.Records.{operation, kind_asked, bits_asked, top_asked, cells_asked, bit_named, check_form, check_unused, check_held, Step, keep, passed, by_operation, record_step, held_after, erase_step, change_step, read_step}
use Rattle.rules.specs.declared.Settings.{Settings}
use Rattle.rules.specs.declared.Answer.{Answer}
use Rattle.rules.specs.declared.Answer.TheVariants.{BadRecord}
use Rattle.records.specs.Meaning.{step_of, Form, HeldFacts, SameAsked, check_use, check_record, asked, work, Front}

-- ---- tests that answer BadRecord

-- what comes of a test for A: it passes where A holds and answers BadRecord where it does not
pub data Tested (A : Type 0) : Check → Type 0 where
  kept : A → Tested A Pass
  broken : ¬ A → Tested A (Refuse BadRecord)

-- where A holds it passes
pub tested-kept : {A : Type 0} {c : Check} → Tested A c → A → c ≡ Pass
tested-kept (kept a) h = refl
tested-kept (broken f) h = absurd (f h)

-- where A does not hold it answers BadRecord
pub tested-broken : {A : Type 0} {c : Check} → Tested A c → ¬ A → c ≡ Refuse BadRecord
tested-broken (kept a) h = absurd (h a)
tested-broken (broken f) h = refl

-- where it passes A holds
pub tested-passed : {A : Type 0} {c : Check} → Tested A c → c ≡ Pass → A
tested-passed (kept a) e = a
tested-passed (broken f) e = absurd (let z : ◌≡◌ {A = ℕ} 0 1 = cc in omega arith)

-- the last part of A tested
ends : {A B : Type 0} (d : Dec B) → (A → B) → (B → A) → Tested A (ask d BadRecord)
ends {A} d part f = pick-elim (Tested A) d Pass (Refuse BadRecord) (λ b. kept (f b)) (λ h. broken (λ a. h (part a)))

-- one part of A tested, and then the rest
goes : {A B : Type 0} {c : Check} (d : Dec B) → (A → B) → (B → Tested A c) → Tested A (and_then (ask d BadRecord) c)
goes {A} {c = c} d part f = pick-elim (λ x. Tested A (and_then x c)) d Pass (Refuse BadRecord) f (λ h. broken (λ a. h (part a)))

-- the record's form is tested
pub form-tested : (rec : List ℕ) → Tested (Form rec) (check_form rec)
unfolding check_form
form-tested rec =
    goes (ℕ_discrete (length rec) 8) (λ a. a.whole) λ h₁.
    goes (dec_le 1 (operation rec)) (λ a. a.least) λ h₂.
    goes (dec_le (operation rec) 3) (λ a. a.most) λ h₃.
    ends (ℕ_discrete (get_or rec 7 0) 0) (λ a. a.last) λ h₄.
    record { whole = h₁; least = h₂; most = h₃; last = h₄ }

-- an unused bit byte is tested
pub unused-tested : (rec : List ℕ) → Tested (bit_named rec ≡ 0) (check_unused rec)
unfolding check_unused
unused-tested rec = ends (ℕ_discrete (bit_named rec) 0) (λ a. a) (λ h. h)

-- the sheet held is tested
pub held-tested : (rec : List ℕ) (r : Settings) → Tested (HeldFacts rec r) (check_held rec r)
unfolding check_held
held-tested rec r =
    goes (dec_lt 0 r.k) (λ a. a.held) λ h₁.
    goes (ℕ_discrete (kind_asked rec) r.kind) (λ a. a.kind) λ h₂.
    goes (ℕ_discrete (bits_asked rec) r.k) (λ a. a.bits) λ h₃.
    goes (ℕ_discrete (top_asked rec) r.top) (λ a. a.top) λ h₄.
    ends (ℕ_discrete (cells_asked rec) r.n) (λ a. a.cells) λ h₅.
    record { held = h₁; kind = h₂; bits = h₃; top = h₄; cells = h₅ }

-- ---- all tests before any work

-- two tests in a row
twice : (c d : Check) (r : Settings) (xs : List ℕ) (s : Step) → passed c r xs (passed d r xs s) ≡ passed (and_then c d) r xs s
twice Pass d r xs s = refl
twice (Refuse a) d r xs s = refl

-- an operation's tests come before its work
use-first : (op : ℕ) (rec : List ℕ) (r : Settings) (xs : List ℕ) → by_operation op rec r xs ≡ passed (check_use op rec r) r xs (work op rec r xs)
use-first zero rec r xs = refl
use-first (suc zero) rec r xs = refl
use-first (suc (suc zero)) rec r xs = refl
use-first (suc (suc (suc op))) rec r xs = refl

-- the tests of each operation
pub use-one : {op : ℕ} (rec : List ℕ) (r : Settings) → op ≡ 1 → check_use op rec r ≡ check_unused rec
use-one rec r e = ap (λ (op : ℕ). check_use op rec r) e

pub use-two : {op : ℕ} (rec : List ℕ) (r : Settings) → op ≡ 2 → check_use op rec r ≡ check_held rec r
use-two rec r e = ap (λ (op : ℕ). check_use op rec r) e

pub use-three : (op : ℕ) (rec : List ℕ) (r : Settings) → 1 ≤ op → ¬ (op ≡ 1) → ¬ (op ≡ 2) → check_use op rec r ≡ and_then (check_unused rec) (check_held rec r)
use-three zero rec r l h g = absurd (not-suc-le-zero l)
use-three (suc zero) rec r l h g = absurd (h refl)
use-three (suc (suc zero)) rec r l h g = absurd (g refl)
use-three (suc (suc (suc op))) rec r l h g = refl

-- every test comes before the work, and what they find decides
pub record-first : (rec : List ℕ) (r : Settings) (xs : List ℕ) {c : Check} → check_record rec r ≡ c → record_step rec r xs ≡ passed c r xs (work (operation rec) rec r xs)
unfolding record_step
record-first rec r xs e =
    ap (passed (check_form rec) r xs) (use-first (operation rec) rec r xs) ∙ twice (check_form rec) (check_use (operation rec) rec r) r xs _
    ∙ ap (λ (c : Check). passed c r xs (work (operation rec) rec r xs)) e

-- the work of each operation
pub work-one : {op : ℕ} (rec : List ℕ) (r : Settings) (xs : List ℕ) → op ≡ 1 → work op rec r xs ≡ erase_step (asked rec) r xs
work-one rec r xs e = ap (λ (op : ℕ). work op rec r xs) e

pub work-two : {op : ℕ} (rec : List ℕ) (r : Settings) (xs : List ℕ) → op ≡ 2 → work op rec r xs ≡ change_step r xs (bit_named rec)
work-two rec r xs e = ap (λ (op : ℕ). work op rec r xs) e

pub work-three : (op : ℕ) (rec : List ℕ) (r : Settings) (xs : List ℕ) → 1 ≤ op → ¬ (op ≡ 1) → ¬ (op ≡ 2) → work op rec r xs ≡ read_step r xs
work-three zero rec r xs l h g = absurd (not-suc-le-zero l)
work-three (suc zero) rec r xs l h g = absurd (h refl)
work-three (suc (suc zero)) rec r xs l h g = absurd (g refl)
work-three (suc (suc (suc op))) rec r xs l h g = refl

-- where two checks pass, the first does
then-first : (c d : Check) → and_then c d ≡ Pass → c ≡ Pass
then-first Pass d e = refl
then-first (Refuse a) d e = e

-- a record that passes every test has its form
pub record-form : (rec : List ℕ) (r : Settings) → check_record rec r ≡ Pass → Form rec
record-form rec r e = tested-passed (form-tested rec) (then-first (check_form rec) (check_use (operation rec) rec r) e)

-- ---- what a record asks for

-- the settings that a record names, its cells however they were worked out, are those of the sheet held
pub held-asked : (rec : List ℕ) (r : Settings) {n : ℕ} → n ≡ cells_asked rec → SameAsked (kind_asked rec) (bits_asked rec) (top_asked rec) n r ↔ HeldFacts rec r
held-asked rec r e = (λ h. record { held = h.0; kind = h.1; bits = h.2; top = h.3; cells = sym e ∙ h.4 }, λ h. (h.held, h.kind, h.bits, h.top, e ∙ h.cells))

module _ (rec : List ℕ) (r : Settings) where
  -- a record that breaks its form is refused
  pub not-formed : ¬ (Form rec) → (xs : List ℕ) → record_step rec r xs ≡ keep r xs BadRecord
  not-formed h xs = record-first rec r xs (ap (λ (c : Check). and_then c (check_use (operation rec) rec r)) (tested-broken (form-tested rec) h))

  -- eight bytes of a known operation, the last of them 0, keep it, and then the operation's own tests decide
  formed : {op : ℕ} → length rec ≡ 8 → get_or rec 7 0 ≡ 0 → operation rec ≡ op → 1 ≤ op → op ≤ 3 → (xs : List ℕ) → record_step rec r xs ≡ passed (check_use op rec r) r xs (work op rec r xs)
  formed w l e a b xs =
      let f : Form rec = record { whole = w; least = omega arith; most = omega arith; last = l } in
      record-first rec r xs (ap (λ (c : Check). and_then c (check_use (operation rec) rec r)) (tested-kept (form-tested rec) f))
      ∙ ap (λ (op : ℕ). passed (check_use op rec r) r xs (work op rec r xs)) e

  -- operation 1 with no bit
  pub erases : length rec ≡ 8 → get_or rec 7 0 ≡ 0 → operation rec ≡ 1 → bit_named rec ≡ 0 → (xs : List ℕ) → record_step rec r xs ≡ erase_step (asked rec) r xs
  erases w l e z xs =
      formed w l e (omega arith) (omega arith) xs ∙ ap (λ (c : Check). passed c r xs (erase_step (asked rec) r xs)) (tested-kept (unused-tested rec) z)

  -- and with one
  pub erase-refused : length rec ≡ 8 → get_or rec 7 0 ≡ 0 → operation rec ≡ 1 → ¬ (bit_named rec ≡ 0) → (xs : List ℕ) → record_step rec r xs ≡ keep r xs BadRecord
  erase-refused w l e z xs =
      formed w l e (omega arith) (omega arith) xs ∙ ap (λ (c : Check). passed c r xs (erase_step (asked rec) r xs)) (tested-broken (unused-tested rec) z)

  -- operation 2 on the sheet held
  pub changes : length rec ≡ 8 → get_or rec 7 0 ≡ 0 → operation rec ≡ 2 → HeldFacts rec r → (xs : List ℕ) → record_step rec r xs ≡ change_step r xs (bit_named rec)
  changes w l e h xs =
      formed w l e (omega arith) (omega arith) xs ∙ ap (λ (c : Check). passed c r xs (change_step r xs (bit_named rec))) (tested-kept (held-tested rec r) h)

  -- and on another
  pub change-refused : length rec ≡ 8 → get_or rec 7 0 ≡ 0 → operation rec ≡ 2 → ¬ (HeldFacts rec r) → (xs : List ℕ) → record_step rec r xs ≡ keep r xs BadRecord
  change-refused w l e h xs =
      formed w l e (omega arith) (omega arith) xs ∙ ap (λ (c : Check). passed c r xs (change_step r xs (bit_named rec))) (tested-broken (held-tested rec r) h)

  -- operation 3 with no bit, on the sheet held
  pub reads : length rec ≡ 8 → get_or rec 7 0 ≡ 0 → operation rec ≡ 3 → bit_named rec ≡ 0 → HeldFacts rec r → (xs : List ℕ) → record_step rec r xs ≡ read_step r xs
  reads w l e z h xs =
      formed w l e (omega arith) (omega arith) xs
      ∙ ap₂ (λ (c d : Check). passed (and_then c d) r xs (read_step r xs)) (tested-kept (unused-tested rec) z) (tested-kept (held-tested rec r) h)

  -- with a bit
  pub read-refused : length rec ≡ 8 → get_or rec 7 0 ≡ 0 → operation rec ≡ 3 → ¬ (bit_named rec ≡ 0) → (xs : List ℕ) → record_step rec r xs ≡ keep r xs BadRecord
  read-refused w l e z xs =
      formed w l e (omega arith) (omega arith) xs ∙ ap (λ (c : Check). passed (and_then c (check_held rec r)) r xs (read_step r xs)) (tested-broken (unused-tested rec) z)

  -- and on another
  pub read-other-refused : length rec ≡ 8 → get_or rec 7 0 ≡ 0 → operation rec ≡ 3 → bit_named rec ≡ 0 → ¬ (HeldFacts rec r) → (xs : List ℕ) → record_step rec r xs ≡ keep r xs BadRecord
  read-other-refused w l e z h xs =
      formed w l e (omega arith) (omega arith) xs
      ∙ ap₂ (λ (c d : Check). passed (and_then c d) r xs (read_step r xs)) (tested-kept (unused-tested rec) z) (tested-broken (held-tested rec r) h)

-- ---- the cells of a sheet

-- n where there are that many cells
pub front-part : (n : ℕ) (xs : List ℕ) → n ≤ length xs → Front n xs n
front-part n xs h = record { inside = h; most = le_refl n; counted = sym (length-take-le n xs h); part = refl; rest = refl }

-- all of them where there are fewer
pub front-all : (n : ℕ) (xs : List ℕ) → length xs ≤ n → Front n xs (length xs)
front-all n xs h = record {
  inside = le_refl (length xs);
  most = h;
  counted = sym (ap length (take-length xs));
  part = take-length xs ∙ sym (take_all n xs h);
  rest = drop-length xs ∙ sym (drop_of_length-le xs h);
}

-- ---- the work

-- an erase of the front is the work of operation 1
pub erase-step : (new r : Settings) (xs : List ℕ) (n : ℕ) (a : Answer) (ys : List ℕ) {s : Settings} → Front new.n xs n → ErasePromise new (take n xs) (number_of a) (value_of a) ys → s ≡ held_after new r a →
    step_of (record { answer = a; settings = s }) (ys ++ drop n xs) ≡ erase_step new r xs
erase-step new r xs n a ys f e h =
    ap (λ (s : Settings). step_of (record { answer = a; settings = s }) (ys ++ drop n xs)) h
    ∙ ap (λ (zs : List ℕ). step_of (record { answer = a; settings = held_after new r a }) (ys ++ zs)) f.rest
    ∙ ap (λ (o : Outcome). step_of (record { answer = o.answer; settings = held_after new r o.answer }) (o.sheet ++ drop new.n xs)) (outcome-is {a = a} e ∙ ap (erase_call new) f.part)

-- a change of the front is the work of operation 2
pub change-step : (r : Settings) (xs : List ℕ) (i n : ℕ) (a : Answer) (ys : List ℕ) → Front r.n xs n → ChangePromise r (take n xs) i (number_of a) (value_of a) ys →
    step_of (record { answer = a; settings = r }) (ys ++ drop n xs) ≡ change_step r xs i
change-step r xs i n a ys f e =
    ap (λ (zs : List ℕ). step_of (record { answer = a; settings = r }) (ys ++ zs)) f.rest
    ∙ ap (λ (o : Outcome). step_of (record { answer = o.answer; settings = r }) (o.sheet ++ drop r.n xs)) (outcome-is {a = a} e ∙ ap (λ (zs : List ℕ). change_call r zs i) f.part)

-- ---- the promise

-- a record's answer, the settings then held and the cells, as number and value
pub step-told : {a : Answer} {r : Settings} {ys : List ℕ} {s : Step} → step_of (record { answer = a; settings = r }) ys ≡ s →
    Gives {A = Settings × List ℕ} s.answer (s.settings, s.cells) (number_of a) (value_of a) (r, ys)
step-told e = gives (ap (λ (s : Step). s.answer) e) (ap {B = Settings × List ℕ} (λ (s : Step). (s.settings, s.cells)) e)
