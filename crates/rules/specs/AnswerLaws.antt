-- Laws of answers: number and value tell an answer, and only Done is made. Assumes nothing.
use Rattle.std.specs.Prelude.{◌≡◌, refl, List, [], ◌∷◌, ◌≢◌, ℕ, get_or}
use Rattle.std.proofs.Common.{sym, ap, ap₂, ◌∙◌, subst}
use Rattle.rules.specs.Answer.{number_of, value_of, Sort, made, stuck, refusal, sort_of, if_made}
use Rattle.rules.specs.declared.Answer.{Answer}
use Rattle.rules.specs.declared.Answer.TheVariants.{Done, BadShape, BadLength, ShortOutput, BadBit, BadLevel, BadSheet, Erase, BadRecord}

-- ---- number and value

-- the answers in the order of their numbers, with this value where they have one
abbrev answers : ℕ → List Answer
answers v = Done v ∷ BadShape ∷ BadLength ∷ ShortOutput ∷ BadBit ∷ BadLevel v ∷ BadSheet ∷ Erase ∷ BadRecord ∷ []

-- the answer of a number and a value
abbrev answer_of : ℕ → ℕ → Answer
answer_of num v = get_or (answers v) num BadRecord

-- an answer is that of its number and value
answer_back : (a : Answer) → answer_of (number_of a) (value_of a) ≡ a
answer_back (Done v) = refl
answer_back BadShape = refl
answer_back BadLength = refl
answer_back ShortOutput = refl
answer_back BadBit = refl
answer_back (BadLevel c) = refl
answer_back BadSheet = refl
answer_back Erase = refl
answer_back BadRecord = refl

-- so two answers with one number and one value are one
pub answer-one : {a b : Answer} → number_of a ≡ number_of b → value_of a ≡ value_of b → a ≡ b
answer-one {a} {b} n v = sym (answer_back a) ∙ ap₂ answer_of n v ∙ answer_back b

-- number 0 is Done, with the value
pub zero-done : (a : Answer) → number_of a ≡ 0 → a ≡ Done (value_of a)
zero-done a e = sym (answer_back a) ∙ ap (λ (num : ℕ). answer_of num (value_of a)) e

-- number 7 is Erase
pub seven-erase : (a : Answer) → number_of a ≡ 7 → a ≡ Erase
seven-erase a e = sym (answer_back a) ∙ ap (λ (num : ℕ). answer_of num (value_of a)) e

-- ---- the sort

-- it is not made
abbrev pub NotMade : Sort → Type 0
NotMade made = ⊥
NotMade stuck = Unit {0}
NotMade refusal = Unit {0}

-- it is a refusal
abbrev pub IsRefusal : Sort → Type 0
IsRefusal made = ⊥
IsRefusal stuck = ⊥
IsRefusal refusal = Unit {0}

-- what is not made is the second
pub not_made : {A : Type 0} (s : Sort) (x y : A) → NotMade s → if_made s x y ≡ y
not_made made x y h = absurd h
not_made stuck x y h = refl
not_made refusal x y h = refl

-- a refusal is not made
pub refusal-not : (s : Sort) → IsRefusal s → NotMade s
refusal-not made h = absurd h
refusal-not stuck h = absurd h
refusal-not refusal h = tt

-- an answer that isn't Done is not made
pub not-done-made : (a : Answer) → ((v : ℕ) → a ≢ Done v) → NotMade (sort_of a)
not-done-made (Done v) n = absurd (n v refl)
not-done-made BadShape n = tt
not-done-made BadLength n = tt
not-done-made ShortOutput n = tt
not-done-made BadBit n = tt
not-done-made (BadLevel c) n = tt
not-done-made BadSheet n = tt
not-done-made Erase n = tt
not-done-made BadRecord n = tt

-- a refusal has not the number of Done
pub refusal-number : (a : Answer) → IsRefusal (sort_of a) → number_of a ≢ 0
refusal-number a q e = absurd (subst (λ (x : Answer). IsRefusal (sort_of x)) (zero-done a e) q)
