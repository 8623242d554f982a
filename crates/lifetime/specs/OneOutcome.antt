-- No second outcome: whatever meets a public call's promise for one input is one and the same. Assumes nothing.
use Rattle.std.specs.Prelude.{◌≡◌, refl, Bool, List, ℕ, Result, Ok, Err}
use Rattle.std.proofs.Common.{sym, ap, ◌∙◌, arith}
use Rattle.rules.specs.Answer.{number_of, value_of}
use Rattle.rules.specs.AnswerLaws.{answer-one}
use Rattle.rules.specs.Asked.{number_of_kind}
use Rattle.rules.specs.Promises.{Gives, SettingsPromise, ErasePromise, ReadPromise, ChangePromise, WorkOutPromise, GenuinePromise, GuaranteePromise, BlocksPromise, WidthPromise, BatchStartPromise, NumberPromise, ValuePromise, KindPromise, RecordPromise, SumPromise, BitsPromise, SettingsIntoPromise, EraseByPromise, ReadByPromise, ChangeByPromise, VersionPromise}
use Rattle.rules.specs.declared.Settings.{Settings}
use Rattle.rules.specs.declared.Answer.{Answer}
use Rattle.rules.specs.declared.Kind.{Kind}
use Rattle.rules.specs.declared.Kind.TheVariants.{Plain, Staged}
use Rattle.rules.specs.declared.NoKind.{NoKind}

-- two things equal to a third are equal
pub both_equal : {A : Type 0} {x y z : A} → x ≡ z → y ≡ z → x ≡ y
both_equal p q = p ∙ sym q

-- two outcomes are one: the same number, the same value, and the same thing left
pub record One {A : Type 0} (n m v w : ℕ) (x y : A) : Type 0 where
  pub number : n ≡ m
  pub value : v ≡ w
  pub leaves : x ≡ y

-- what gives the same answer and leaves the same is one
gives_one : {A : Type 0} {a : Answer} {left : A} {n m v w : ℕ} {x y : A} → Gives a left n v x → Gives a left m w y → One n m v w x y
gives_one p q = record { number = both_equal p.number q.number; value = both_equal p.value q.value; leaves = both_equal p.leaves q.leaves }

-- and so is the answer itself, where the call hands one back
pub one_answer : {A : Type 0} (a b : Answer) {x y : A} → One (number_of a) (number_of b) (value_of a) (value_of b) x y → a ≡ b
one_answer a b o = answer-one o.number o.value

-- ---- the sheet library

-- settings: one number, value and record
pub settings-one : (kind k L n : ℕ) (c d v w : ℕ) (r t : Settings) → SettingsPromise kind k L n c v r → SettingsPromise kind k L n d w t → One c d v w r t
settings-one kind k L n c d v w r t p q = gives_one p q

-- erase: one number, value and sheet after
pub erase-one : (r : Settings) (xs : List ℕ) (c d v w : ℕ) (ys zs : List ℕ) → ErasePromise r xs c v ys → ErasePromise r xs d w zs → One c d v w ys zs
erase-one r xs c d v w ys zs p q = gives_one p q

-- read: one number, value and output after
pub read_one : (r : Settings) (xs out : List ℕ) (c d v w : ℕ) (ps qs : List ℕ) → ReadPromise r xs out c v ps → ReadPromise r xs out d w qs → One c d v w ps qs
read_one r xs out c d v w ps qs p q = gives_one p q

-- change: one number, value and sheet after
pub change-one : (r : Settings) (xs : List ℕ) (i : ℕ) (c d v w : ℕ) (ys zs : List ℕ) → ChangePromise r xs i c v ys → ChangePromise r xs i d w zs → One c d v w ys zs
change-one r xs i c d v w ys zs p q = gives_one p q

-- ---- the methods of a settings record

-- the record worked out for any four numbers
pub work-out-one : (kind k L n : ℕ) (a b : Settings) → WorkOutPromise kind k L n a → WorkOutPromise kind k L n b → a ≡ b
work-out-one kind k L n a b p q = both_equal p q

-- whether acceptance gives the record
pub genuine-one : (r : Settings) (a b : Bool) → GenuinePromise r a → GenuinePromise r b → a ≡ b
genuine-one r a b p q = both_equal p q

-- the guarantee
pub guarantee-one : (r : Settings) (a b : ℕ) → GuaranteePromise r a → GuaranteePromise r b → a ≡ b
guarantee-one r a b p q = both_equal p q

-- the number of blocks
pub blocks-one : (r : Settings) (a b : ℕ) → BlocksPromise r a → BlocksPromise r b → a ≡ b
blocks-one r a b p q = both_equal p q

-- the cells of an index block
pub width_one : (r : Settings) (a b : ℕ) → WidthPromise r a → WidthPromise r b → a ≡ b
width_one r a b p q = both_equal p q

-- the first cell of a batch
pub batch-start-one : (r : Settings) (batch a b : ℕ) → BatchStartPromise r batch a → BatchStartPromise r batch b → a ≡ b
batch-start-one r batch a b p q = both_equal p q

-- ---- the methods of an answer

-- its number
pub number-one : (x : Answer) (a b : ℕ) → NumberPromise x a → NumberPromise x b → a ≡ b
number-one x a b p q = both_equal p q

-- its value
pub value-one : (x : Answer) (a b : ℕ) → ValuePromise x a → ValuePromise x b → a ≡ b
value-one x a b p q = both_equal p q

-- ---- a kind of sheet

-- kinds with one number are one
kinds-one : (a b : Kind) → number_of_kind a ≡ number_of_kind b → a ≡ b
kinds-one Plain Plain e = refl
kinds-one Plain Staged e = absurd (omega (arith, e))
kinds-one Staged Plain e = absurd (omega (arith, e))
kinds-one Staged Staged e = refl

-- the kind that a number names
pub kind-one : (n : ℕ) (a b : Result Kind NoKind) → KindPromise n a → KindPromise n b → a ≡ b
kind-one n (Ok a) (Ok b) p q = ap Ok (kinds-one a b (sym p ∙ q))
kind-one n (Ok a) (Err e) p q = absurd (q a p)
kind-one n (Err e) (Ok b) p q = absurd (p b q)
kind-one n (Err e) (Err f) p q = refl

-- ---- a record of the program

-- one record: one number, value, settings held and cells after
pub record-one : (rec : List ℕ) (r : Settings) (xs : List ℕ) (c d v w : ℕ) (s t : Settings) (ys zs : List ℕ) → RecordPromise rec r xs c v s ys → RecordPromise rec r xs d w t zs → One {A = Settings × List ℕ} c d v w (s, ys) (t, zs)
record-one rec r xs c d v w s t ys zs p q = gives_one p q

-- the sum of the levels of the sheet held
pub sum_one : (r : Settings) (xs : List ℕ) (a b : ℕ) → SumPromise r xs a → SumPromise r xs b → a ≡ b
sum_one r xs a b p q = both_equal p q

-- its bits: how many, and the places after
pub bits-one : (r : Settings) (xs out : List ℕ) (a b : ℕ) (ps qs : List ℕ) → BitsPromise r xs out a ps → BitsPromise r xs out b qs → (a ≡ b) × (ps ≡ qs)
bits-one r xs out a b ps qs p q = (both_equal p.0 q.0, both_equal p.1 q.1)

-- ---- the C functions

-- settings: one number, value and numbers after
pub settings-into-one : (kind k L n : ℕ) (numbers : List ℕ) (c d v w : ℕ) (xs ys : List ℕ) → SettingsIntoPromise kind k L n numbers c v xs → SettingsIntoPromise kind k L n numbers d w ys → One c d v w xs ys
settings-into-one kind k L n numbers c d v w xs ys p q = gives_one p q

-- erase: one number, value and sheet after
pub erase-by-one : (numbers xs : List ℕ) (c d v w : ℕ) (ys zs : List ℕ) → EraseByPromise numbers xs c v ys → EraseByPromise numbers xs d w zs → One c d v w ys zs
erase-by-one numbers xs c d v w ys zs p q = gives_one p q

-- read: one number, value and output after
pub read-by-one : (numbers xs out : List ℕ) (c d v w : ℕ) (ps qs : List ℕ) → ReadByPromise numbers xs out c v ps → ReadByPromise numbers xs out d w qs → One c d v w ps qs
read-by-one numbers xs out c d v w ps qs p q = gives_one p q

-- change: one number, value and sheet after
pub change-by-one : (numbers xs : List ℕ) (i : ℕ) (c d v w : ℕ) (ys zs : List ℕ) → ChangeByPromise numbers xs i c v ys → ChangeByPromise numbers xs i d w zs → One c d v w ys zs
change-by-one numbers xs i c d v w ys zs p q = gives_one p q

-- the version of the interface
pub version-one : (a b : ℕ) → VersionPromise a → VersionPromise b → a ≡ b
version-one a b p q = both_equal p q
