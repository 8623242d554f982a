-- Laws of promises: from an equation of outcomes to number, value and what is left, and back. Assumes nothing.
use Rattle.std.specs.Prelude.{◌≡◌, List, ℕ}
use Rattle.std.proofs.Common.{sym, ap, ap₂, ◌∙◌, subst}
use Rattle.rules.specs.Answer.{number_of, value_of}
use Rattle.rules.specs.AnswerLaws.{answer-one, zero-done, seven-erase}
use Rattle.rules.specs.Calls.{Outcome, outcome, Reading, read_out}
use Rattle.rules.specs.Promises.{Gives}
use Rattle.rules.specs.declared.Settings.{Settings}
use Rattle.rules.specs.declared.Setup.{Setup}
use Rattle.rules.specs.declared.Answer.{Answer}
use Rattle.rules.specs.declared.Answer.TheVariants.{Done, Erase}

-- ---- from equations to number and value

-- from the same answer and the same thing left
pub gives : {A : Type 0} {a b : Answer} {x y : A} → a ≡ b → x ≡ y → Gives b y (number_of a) (value_of a) x
gives e q = record { number = ap number_of e; value = ap value_of e; leaves = q }

-- erase and change
pub told : {a : Answer} {ys : List ℕ} {o : Outcome} → outcome a ys ≡ o → Gives o.answer o.sheet (number_of a) (value_of a) ys
told e = gives (ap (λ (o : Outcome). o.answer) e) (ap (λ (o : Outcome). o.sheet) e)

-- read
pub told-read : {a : Answer} {ps : List ℕ} {o : Reading} → read_out a ps ≡ o → Gives o.answer o.places (number_of a) (value_of a) ps
told-read e = gives (ap (λ (o : Reading). o.answer) e) (ap (λ (o : Reading). o.places) e)

-- settings
pub told-settings : {x y : Setup} → x ≡ y → Gives y.answer y.settings (number_of x.answer) (value_of x.answer) x.settings
told-settings e = gives (ap (λ (z : Setup). z.answer) e) (ap (λ (z : Setup). z.settings) e)

-- ---- and back

-- number and value tell the answer
pub answer-is : {A : Type 0} {a b : Answer} {x y : A} → Gives b y (number_of a) (value_of a) x → a ≡ b
answer-is g = answer-one g.number g.value

-- erase and change
pub outcome-is : {a : Answer} {ys : List ℕ} {o : Outcome} → Gives o.answer o.sheet (number_of a) (value_of a) ys → outcome a ys ≡ o
outcome-is g = ap₂ outcome (answer-is g) g.leaves

-- read
pub reading-is : {a : Answer} {ps : List ℕ} {o : Reading} → Gives o.answer o.places (number_of a) (value_of a) ps → read_out a ps ≡ o
reading-is g = ap₂ read_out (answer-is g) g.leaves

-- number 0 is Done, with the value
pub gives-done : {A : Type 0} (a : Answer) {x y : A} {v : ℕ} → Gives a y 0 v x → a ≡ Done v
gives-done a g = zero-done a (sym g.number) ∙ ap Done (sym g.value)

-- number 7 is Erase
pub gives-erase : {A : Type 0} (a : Answer) {x y : A} {v : ℕ} → Gives a y 7 v x → a ≡ Erase
gives-erase a g = seven-erase a (sym g.number)

-- ---- what equals what is promised

-- the promise at the number that was given
pub by_number : {A : Type 0} {a : Answer} {x y : A} {num n v : ℕ} → num ≡ n → Gives a y num v x → Gives a y n v x
by_number e g = record { number = sym e ∙ g.number; value = g.value; leaves = g.leaves }

-- what is promised of a record, a number and a value holds of their equals
pub across : (P : Settings → ℕ → ℕ → Type 0) {r t : Settings} {num n v w : ℕ} → r ≡ t → num ≡ n → v ≡ w → P r n w → P t num v
across P {r} {t} {num} {n} {v} {w} e f g p = subst (λ (x : ℕ). P t num x) (sym g) (subst (λ (x : ℕ). P t x w) (sym f) (subst (λ (x : Settings). P x n w) e p))
