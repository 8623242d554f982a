-- What a call's answer tells: which checks passed, and what the maps gave. Assumes nothing.
use Rattle.std.specs.Prelude.{◌≡◌, refl, List, [], ◌∷◌, ◌≢◌, ℕ, ◌-◌, ◌≤◌, ◌<◌, length, get_or, replicate}
use Rattle.std.proofs.Common.{sym, ap, ◌∙◌, subst, arith}
use Rattle.std.proofs.Math.Decide.{ℕ_discrete, dec_le, dec_lt}
use Rattle.laws.specs.Lists.{low-all, low-at}
use types.Run.{OneOf, miss as no_key}
use denote.Enum.Declared.{tag_of}
use Rattle.rules.specs.contracts.Answer.{the_type}
use Rattle.rules.specs.Search.{Found, Result, done, no_place_left}
use Rattle.rules.specs.SearchLaws.{pick_yes, pick_no, First, hit, miss, first-is, first-eq}
use Rattle.rules.specs.Cells.{sum, Low, first_above}
use Rattle.rules.specs.Accept.{Genuine, genuine?, guarantee}
use Rattle.rules.specs.Answer.{sort_of}
use Rattle.rules.specs.AnswerLaws.{IsRefusal, not_made, not-done-made}
use Rattle.rules.specs.Calls.{Check, Pass, Refuse, Sound, sound?, change_sheet, ask, as_check, and_then, level_check, check_shape, check_length, check_output, check_bit, check_levels, check_sheet, erase_checks, sheet_checks, read_checks, change_checks, Outcome, erasing, erase_call, changed, changing, change_call, reading, read_call}
use Rattle.rules.specs.declared.Settings.{Settings}
use Rattle.rules.specs.declared.Answer.{Answer}
use Rattle.rules.specs.declared.Answer.TheVariants.{Done, BadShape, BadLength, ShortOutput, BadBit, BadLevel, BadSheet, Erase}

-- a sheet that every call accepts
pub record Accepted (r : Settings) (xs : List ℕ) : Type 0 where
  pub genuine : Genuine r
  pub long : length xs ≡ r.n
  pub low : Low r.top xs
  pub sound : Sound r xs

-- ---- checks

-- the answer of a check that refuses: neither Done nor Erase
abbrev pub Refusal : Answer → Type 0
Refusal a = IsRefusal (sort_of a)

-- what a check found: it passed, and what it asks for holds; or it refused with a refusal's answer
pub data Checked (A : Type 0) : Check → Type 0 where
  passed : A → Checked A Pass
  refused : (a : Answer) → Refusal a → Checked A (Refuse a)

-- a test passes where it holds
pub ask-is : {A : Type 0} (d : Dec A) (a : Answer) → Refusal a → Checked A (ask d a)
ask-is (yes h) a q = passed h
ask-is (no h) a q = refused a q

-- one check after another
then_is : {A B : Type 0} {c d : Check} → Checked A c → Checked B d → Checked (A × B) (and_then c d)
then_is (passed a) (passed b) = passed (a, b)
then_is (passed a) (refused x q) = refused x q
then_is (refused x q) h = refused x q

-- and so do levels of which none is above L
pub level-is : (L : ℕ) (xs : List ℕ) → Checked (Low L xs) (level_check (first_above L xs))
unfolding first_above
level-is L xs = go (first-is (λ c. dec_lt L (get_or xs c 0)) (length xs))
  where
    go : {f : Found} → First (λ c. L < get_or xs c 0) (length xs) f → Checked (Low L xs) (level_check f)
    go (hit j l h b) = refused (BadLevel j) tt
    go (miss b) = passed (low-all L xs (λ c l. let q : ¬ (L < get_or xs c 0) = b c l in omega arith))

accepted-from : (r : Settings) (xs : List ℕ) → Genuine r → length xs ≡ r.n → Low r.top xs → Sound r xs → Accepted r xs
accepted-from r xs g e l s = record { genuine = g; long = e; low = l; sound = s }

-- what follows from what a check asks for
weaker : {A B : Type 0} {c : Check} → (A → B) → Checked A c → Checked B c
weaker f (passed a) = passed (f a)
weaker f (refused x q) = refused x q

-- the checks of each call ask for these
pub erase-checks : (r : Settings) (xs : List ℕ) → Checked (Genuine r × (length xs ≡ r.n)) (erase_checks r xs)
erase-checks r xs = then_is (ask-is (genuine? r) BadShape tt) (ask-is (ℕ_discrete (length xs) r.n) BadLength tt)

pub sheet-checks : {A : Type 0} (r : Settings) (xs : List ℕ) {own : Check} → Checked A own → Checked (Accepted r xs × A) (sheet_checks r xs own)
sheet-checks r xs h = weaker (λ p. (accepted-from r xs p.0 p.1.0 p.1.1.1.0 p.1.1.1.1, p.1.1.0))
    (then_is (ask-is (genuine? r) BadShape tt) (then_is (ask-is (ℕ_discrete (length xs) r.n) BadLength tt)
    (then_is h (then_is (level-is r.top xs) (ask-is (sound? r xs) BadSheet tt)))))

pub read-checks : (r : Settings) (xs out : List ℕ) → Checked (Accepted r xs × (r.k ≤ length out)) (read_checks r xs out)
read-checks r xs out = sheet-checks r xs (ask-is (dec_le r.k (length out)) ShortOutput tt)

pub change-checks : (r : Settings) (xs : List ℕ) (i : ℕ) → Checked (Accepted r xs × (i < r.k)) (change_checks r xs i)
change-checks r xs i = sheet-checks r xs (ask-is (dec_lt i r.k) BadBit tt)

-- what a check that passed asks for
pub checked-holds : {A : Type 0} {c : Check} → Checked A c → c ≡ Pass → A
checked-holds (passed h) e = h
checked-holds (refused a q) e = absurd (let z : ◌≡◌ {A = ℕ} 0 1 = cc in omega arith)

-- a check answers by whether what it asks for holds
pub ask-fails : {A : Type 0} (d : Dec A) (a : Answer) → ¬ A → ask d a ≡ Refuse a
ask-fails d a h = pick_no d Pass (Refuse a) h

-- a check that holds passes
pub ask-passes : {A : Type 0} (d : Dec A) (a : Answer) → A → ask d a ≡ Pass
ask-passes d a h = pick_yes d Pass (Refuse a) h

-- a check that refuses ends the call, one that passes goes on
pub then-ends : {c : Check} {a : Answer} (d : Check) → c ≡ Refuse a → and_then c d ≡ Refuse a
then-ends d e = ap (λ (x : Check). and_then x d) e

pub then-goes : {c : Check} (d : Check) → c ≡ Pass → and_then c d ≡ d
then-goes d e = ap (λ (x : Check). and_then x d) e

-- ---- a check as a call answers it

-- the tags of every answer but Done
abbrev pub other_tags : List ℕ
other_tags = 1 ∷ 2 ∷ 3 ∷ 4 ∷ 5 ∷ 6 ∷ 7 ∷ 8 ∷ []

-- an answer that is told by its tag to be one of these isn't Done
pub not_done : (a : Answer) → OneOf other_tags (tag_of the_type a) → (v : ℕ) → a ≢ Done v
not_done a o v e = no_key other_tags 0 tt (subst (λ (x : Answer). OneOf other_tags (tag_of the_type x)) e o)

-- an answer that isn't Done is its own refusal
pub refusal-told : (a : Answer) → ((v : ℕ) → a ≢ Done v) → as_check a ≡ Refuse a
refusal-told a n = not_made (sort_of a) Pass (Refuse a) (not-done-made a n)

-- a check that refuses ends the call there
pub ends_there : (a : Answer) {c : Check} (d : Check) → as_check a ≡ c → ((v : ℕ) → a ≢ Done v) → as_check a ≡ and_then c d
ends_there a d e n = refusal-told a n ∙ sym (then-ends d (sym e ∙ refusal-told a n))

-- ---- checks that all pass

-- from what they ask for
then-passes : {c d : Check} → c ≡ Pass → d ≡ Pass → and_then c d ≡ Pass
then-passes {c} {d} p q = ap (λ (x : Check). and_then x d) p ∙ q

-- no cell above L passes check 5
pub level-passes : (L : ℕ) (xs : List ℕ) → Low L xs → level_check (first_above L xs) ≡ Pass
unfolding first_above
level-passes L xs h = ap level_check (first-eq (λ c. dec_lt L (get_or xs c 0)) (length xs) (miss (λ c l q. let z : get_or xs c 0 ≤ L = low-at L xs h c in omega arith)))

-- every check of a call on an accepted sheet passes if its own does
pub sheet-passes : (r : Settings) (xs : List ℕ) {own : Check} → Accepted r xs → own ≡ Pass → sheet_checks r xs own ≡ Pass
sheet-passes r xs a h =
    then-passes (ask-passes (genuine? r) BadShape a.genuine) (then-passes (ask-passes (ℕ_discrete (length xs) r.n) BadLength a.long)
    (then-passes h (then-passes (level-passes r.top xs a.low) (ask-passes (sound? r xs) BadSheet a.sound))))

pub change-passes : (r : Settings) (xs : List ℕ) (i : ℕ) → Accepted r xs → i < r.k → change_checks r xs i ≡ Pass
change-passes r xs i a l = sheet-passes r xs a (ask-passes (dec_lt i r.k) BadBit l)

pub read-passes : (r : Settings) (xs out : List ℕ) → Accepted r xs → r.k ≤ length out → read_checks r xs out ≡ Pass
read-passes r xs out a l = sheet-passes r xs a (ask-passes (dec_le r.k (length out)) ShortOutput l)

pub erase-passes : (r : Settings) (xs : List ℕ) → Genuine r → length xs ≡ r.n → erase_checks r xs ≡ Pass
erase-passes r xs g e = then-passes (ask-passes (genuine? r) BadShape g) (ask-passes (ℕ_discrete (length xs) r.n) BadLength e)

-- ---- checks 1 and 2 first, and then the rest

-- what is left of a call on a sheet once checks 1 and 2 have passed
abbrev pub rest_checks : Settings → List ℕ → Check → Check
rest_checks r xs own = and_then own (and_then (check_levels r xs) (check_sheet r xs))

-- checks 1 and 2 may be grouped before the rest
sheet-first : (r : Settings) (xs : List ℕ) (own : Check) {c : Check} → erase_checks r xs ≡ c → sheet_checks r xs own ≡ and_then c (rest_checks r xs own)
sheet-first r xs own e = go (check_shape r) (check_length r xs) (rest_checks r xs own) ∙ ap (λ (x : Check). and_then x (rest_checks r xs own)) e
  where
    go : (a b c : Check) → and_then a (and_then b c) ≡ and_then (and_then a b) c
    go Pass b c = refl
    go (Refuse x) b c = refl

-- and so each call goes by what they answer
pub erase-first : (r : Settings) (xs : List ℕ) {c : Check} → erase_checks r xs ≡ c → erase_call r xs ≡ erasing r xs c
unfolding erase_call
erase-first r xs e = ap (erasing r xs) e

pub change-first : (r : Settings) (xs : List ℕ) (i : ℕ) {c : Check} → erase_checks r xs ≡ c → change_call r xs i ≡ changing r xs i (and_then c (rest_checks r xs (check_bit r i)))
unfolding change_call
change-first r xs i e = ap (changing r xs i) (sheet-first r xs (check_bit r i) e)

pub read_first : (r : Settings) (xs out : List ℕ) {c : Check} → erase_checks r xs ≡ c → read_call r xs out ≡ reading r xs out (and_then c (rest_checks r xs (check_output r out)))
unfolding read_call
read_first r xs out e = ap (reading r xs out) (sheet-first r xs (check_output r out) e)

-- ---- checks in two steps

-- checks 1 to 5 may be grouped before check 6
pub then-group : (a b c d e : Check) → and_then a (and_then b (and_then c (and_then d e))) ≡ and_then (and_then (and_then a b) (and_then c d)) e
then-group Pass Pass Pass d e = refl
then-group Pass Pass (Refuse x) d e = refl
then-group Pass (Refuse x) c d e = refl
then-group (Refuse x) b c d e = refl

-- two checks that pass
pub then-both : (c d : Check) → and_then c d ≡ Pass → (c ≡ Pass) × (d ≡ Pass)
then-both Pass d e = (refl, e)
then-both (Refuse x) d e = absurd (let z : ◌≡◌ {A = ℕ} 0 1 = cc in omega arith)

-- on a sheet that keeps the rules, a change is what the encoding map makes
pub sheet-maps : (r : Settings) (xs : List ℕ) (i : ℕ) {q : Result (List ℕ)} → Sound r xs → change_sheet r xs i ≡ q → changing r xs i (check_sheet r xs) ≡ changed xs q
sheet-maps r xs i h e = ap (changing r xs i) (ask-passes (sound? r xs) BadSheet h) ∙ ap (changed xs) e

-- ---- calls

-- what a change comes to
pub data Making (r : Settings) (xs : List ℕ) (i : ℕ) : Outcome → Type 0 where
  refuses : (a : Answer) → Refusal a → Making r xs i (record { answer = a; sheet = xs })
  erases : Accepted r xs → i < r.k → change_sheet r xs i ≡ no_place_left → Making r xs i (record { answer = Erase; sheet = xs })
  makes : (ys : List ℕ) → Accepted r xs → i < r.k → change_sheet r xs i ≡ done ys → Making r xs i (record { answer = Done (sum ys - sum xs); sheet = ys })

pub change-is : (r : Settings) (xs : List ℕ) (i : ℕ) → Making r xs i (change_call r xs i)
unfolding change_call
change-is r xs i = go (change-checks r xs i)
  where
    what : Accepted r xs → i < r.k → (q : Result (List ℕ)) → change_sheet r xs i ≡ q → Making r xs i (changed xs q)
    what a l (done ys) e = makes ys a l e
    what a l no_place_left e = erases a l e

    go : {c : Check} → Checked (Accepted r xs × (i < r.k)) c → Making r xs i (changing r xs i c)
    go (passed p) = what p.0 p.1 (change_sheet r xs i) refl
    go (refused a q) = refuses a q

-- what erasing comes to
pub data Erasing (r : Settings) (xs : List ℕ) : Outcome → Type 0 where
  refusing : (a : Answer) → Refusal a → Erasing r xs (record { answer = a; sheet = xs })
  clears : Genuine r → length xs ≡ r.n → Erasing r xs (record { answer = Done (guarantee r); sheet = replicate r.n 0 })

pub erase-is : (r : Settings) (xs : List ℕ) → Erasing r xs (erase_call r xs)
unfolding erase_call
erase-is r xs = go (erase-checks r xs)
  where
    go : {c : Check} → Checked (Genuine r × (length xs ≡ r.n)) c → Erasing r xs (erasing r xs c)
    go (passed p) = clears p.0 p.1
    go (refused a q) = refusing a q
