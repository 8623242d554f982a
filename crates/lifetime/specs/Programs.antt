-- Programs that keep the promises for all that a machine can hand them: bytes and machine words. Assumes nothing.
use Rattle.std.specs.Prelude.{◌≡◌, refl, List, ℕ, zero, suc, ◌-◌, ◌*◌, ◌≤◌, ◌<◌, length, replicate}
use Rattle.std.proofs.Common.{sym, ap, ◌∙◌, subst, ⊎_elim, le_trans, le-mul_of_pos_right, arith}
use Rattle.std.proofs.lemmas.List.{length-replicate}
use Rattle.rules.specs.Search.{done}
use Rattle.rules.specs.Cells.{sum, Low}
use Rattle.rules.specs.Accept.{Genuine, guarantee}
use Rattle.rules.specs.AcceptLaws.{CommonFacts, genuine-facts, genuine-common, staged-width}
use Rattle.rules.specs.Answer.{number_of, value_of, sort_of}
use Rattle.rules.specs.AnswerLaws.{zero-done, not_made, not-done-made}
use Rattle.rules.specs.Calls.{change_sheet, Outcome, erase_call, change_call, read_call}
use Rattle.rules.specs.Promises.{ErasePromise, ReadPromise, ChangePromise}
use Rattle.rules.specs.PromiseLaws.{gives, gives-done, by_number}
use Rattle.rules.specs.declared.Settings.{Settings}
use Rattle.rules.specs.declared.Answer.{Answer}
use Rattle.rules.specs.declared.Answer.TheVariants.{Done}
use Rattle.laws.specs.Lists.{low-all, low-at}
use Rattle.laws.specs.Calls.{Accepted}
use Rattle.lifetime.specs.Change.{erased-accepted, done-answered}
use Rattle.lifetime.specs.Refusals.{erase-gives}
use Rattle.lifetime.specs.Run.{counted, Run, begin, call, runs, run-accepted}

-- ---- what a machine can hand over

-- how many machine words there are: 2 ^ 64
abbrev pub words : ℕ
words = 18446744073709551616

-- a machine word
abbrev pub Word : ℕ → Type 0
Word n = n < words

-- bytes that are lent: each at most 255, and as many as a machine word can count
abbrev pub Bytes : List ℕ → Type 0
Bytes xs = Low 255 xs × Word (length xs)

-- a settings record of machine words, genuine or not
pub record Words (r : Settings) : Type 0 where
  pub kind : Word r.kind
  pub k : Word r.k
  pub top : Word r.top
  pub n : Word r.n
  pub m : Word r.m
  pub s : Word r.s
  pub w : Word r.w

-- a record that acceptance gives is one
pub genuine-words : (r : Settings) → Genuine r → Words r
genuine-words r g =
    let c : CommonFacts r = genuine-common r g in
    let m : r.m ≤ r.m * r.k = le-mul_of_pos_right r.m (omega (arith, c.bits-least)) in
    record {
      kind = ⊎_elim (λ p. omega (arith, p.plain)) (λ p. omega (arith, p.staged)) (genuine-facts r g);
      k = omega (arith, c.bits_most);
      top = omega (arith, c.top-most);
      n = omega (arith, c.cells-most);
      m = omega (arith, c.inside, c.cells-most);
      s = ⊎_elim (λ p. omega (arith, p.no-stages)) (λ p. omega (arith, p.stages-most)) (genuine-facts r g);
      w = ⊎_elim (λ p. omega (arith, p.no-width)) (λ p. omega (arith, staged-width r p)) (genuine-facts r g);
    }

-- an accepted sheet is bytes
pub accepted-bytes : (r : Settings) (xs : List ℕ) → Accepted r xs → Bytes xs
accepted-bytes r xs a =
    let c : CommonFacts r = genuine-common r a.genuine in
    (low-all 255 xs (λ i l. le_trans (low-at r.top xs a.low i) c.top-most), omega (arith, a.long, c.cells-most))

-- a bit of an accepted record is a machine word
pub bit_word : (r : Settings) → Genuine r → {i : ℕ} → i < r.k → Word i
bit_word r g l = omega (arith, (genuine-common r g).bits_most)

-- ---- programs

-- what a call of a program gives: a number, a value, and the sheet or the output after it
pub record Reply : Type 0 where
  pub number : ℕ
  pub value : ℕ
  pub leaves : List ℕ

-- a program for erasing
abbrev pub EraseProgram : Type 0
EraseProgram = Settings → List ℕ → Reply

-- a program for a change
abbrev pub ChangeProgram : Type 0
ChangeProgram = Settings → List ℕ → ℕ → Reply

-- a program for a reading
abbrev pub ReadProgram : Type 0
ReadProgram = Settings → List ℕ → List ℕ → Reply

-- it keeps the promise of erase at this input
abbrev pub EraseKept : EraseProgram → Settings → List ℕ → Type 0
EraseKept e r xs = ErasePromise r xs (e r xs).number (e r xs).value (e r xs).leaves

-- it keeps the promise of change at this input
abbrev pub ChangeKept : ChangeProgram → Settings → List ℕ → ℕ → Type 0
ChangeKept p r xs i = ChangePromise r xs i (p r xs i).number (p r xs i).value (p r xs i).leaves

-- it keeps the promise of read at this input
abbrev pub ReadKept : ReadProgram → Settings → List ℕ → List ℕ → Type 0
ReadKept q r xs out = ReadPromise r xs out (q r xs out).number (q r xs out).value (q r xs out).leaves

-- it keeps the promise of erase for all that a machine can hand it
abbrev pub KeepsErase : EraseProgram → Type 0
KeepsErase e = (r : Settings) (xs : List ℕ) → Words r → Bytes xs → EraseKept e r xs

-- it keeps the promise of change for all that a machine can hand it
abbrev pub KeepsChange : ChangeProgram → Type 0
KeepsChange p = (r : Settings) (xs : List ℕ) (i : ℕ) → Words r → Bytes xs → Word i → ChangeKept p r xs i

-- it keeps the promise of read for all that a machine can hand it
abbrev pub KeepsRead : ReadProgram → Type 0
KeepsRead q = (r : Settings) (xs out : List ℕ) → Words r → Bytes xs → Bytes out → ReadKept q r xs out

-- on an accepted sheet, for any bit number a machine has
pub kept_on : (p : ChangeProgram) → KeepsChange p → (r : Settings) (xs : List ℕ) (i : ℕ) → Accepted r xs → Word i → ChangeKept p r xs i
kept_on p kp r xs i a w = kp r xs i (genuine-words r a.genuine) (accepted-bytes r xs a) w

-- ---- the calls themselves are such programs

-- erase as a program
abbrev pub erase_itself : EraseProgram
erase_itself r xs = record { number = number_of (erase_call r xs).answer; value = value_of (erase_call r xs).answer; leaves = (erase_call r xs).sheet }

-- change as a program
abbrev pub change_itself : ChangeProgram
change_itself r xs i = record { number = number_of (change_call r xs i).answer; value = value_of (change_call r xs i).answer; leaves = (change_call r xs i).sheet }

-- read as a program
abbrev pub read_itself : ReadProgram
read_itself r xs out = record { number = number_of (read_call r xs out).answer; value = value_of (read_call r xs out).answer; leaves = (read_call r xs out).places }

-- the calls as programs keep the promises, so there are programs that do
pub kept-by-calls : KeepsErase erase_itself × KeepsChange change_itself × KeepsRead read_itself
kept-by-calls = (λ r xs wr b. gives refl refl, λ r xs i wr b w. gives refl refl, λ r xs out wr b c. gives refl refl)

-- ---- runs in which every outcome meets its promise

-- one more for an answer of number 0
abbrev pub counted_by : ℕ → ℕ → ℕ
counted_by zero c = suc c
counted_by (suc num) c = c

-- c changes were accepted since an erase, each outcome meeting the promise at its own input, whatever gave it, and the sheet is now xs
pub data RunBy (r : Settings) : ℕ → List ℕ → Type 0 where
  erased : (v : ℕ) (xs ys : List ℕ) → ErasePromise r xs 0 v ys → RunBy r 0 ys
  called : (c i num v : ℕ) (xs ys : List ℕ) → RunBy r c xs → ChangePromise r xs i num v ys → RunBy r (counted_by num c) ys

-- counted by the answer or by its number, it is the same
counted-number : (a : Answer) (c : ℕ) → counted a c ≡ counted_by (number_of a) c
counted-number a c = go (number_of a) refl
  where
    go : (num : ℕ) → number_of a ≡ num → counted a c ≡ counted_by num c
    go zero e = ap (λ (x : Answer). counted x c) (zero-done a e)
    go (suc num) e = not_made (sort_of a) (suc c) c (not-done-made a (λ v q. let z : suc num ≡ 0 = sym e ∙ ap number_of q in omega arith))

-- such a run is a run of the calls
pub run_by : (r : Settings) {c : ℕ} {xs : List ℕ} → RunBy r c xs → Run r c xs
run_by r (erased v xs ys h) = subst (Run r 0) (sym h.leaves) (begin v xs (gives-done (erase_call r xs).answer h))
run_by r (called c i num v xs ys q h) =
    let n : counted (change_call r xs i).answer c ≡ counted_by num c = counted-number (change_call r xs i).answer c ∙ ap (λ (x : ℕ). counted_by x c) (sym h.number) in
    subst (λ (x : ℕ). Run r x ys) n (subst (Run r (counted (change_call r xs i).answer c)) (sym h.leaves) (call c i xs (run_by r q)))

-- ---- a program's own runs

-- c changes were accepted by these very programs since the sheet was erased, in any run of theirs, and it is now xs
pub data RunOf (e : EraseProgram) (p : ChangeProgram) (r : Settings) : ℕ → List ℕ → Type 0 where
  begins : (xs : List ℕ) → Bytes xs → (e r xs).number ≡ 0 → RunOf e p r 0 (e r xs).leaves
  calls : (c i : ℕ) (xs : List ℕ) → RunOf e p r c xs → Word i → RunOf e p r (counted_by (p r xs i).number c) (p r xs i).leaves

module _ (e : EraseProgram) (p : ChangeProgram) (ke : KeepsErase e) (kp : KeepsChange p) (r : Settings) (wr : Words r) where
  -- in a run of programs that keep the promises every outcome meets its promise, since every sheet on the way is bytes
  pub run_of : {c : ℕ} {xs : List ℕ} → RunOf e p r c xs → RunBy r c xs
  run_of (begins xs b z) = erased (e r xs).value xs (e r xs).leaves (by_number z (ke r xs wr b))
  run_of (calls c i xs q w) =
      let t : RunBy r c xs = run_of q in
      called c i (p r xs i).number (p r xs i).value xs (p r xs i).leaves t (kept_on p kp r xs i (run-accepted r (run_by r t)) w)

  -- the erased sheet begins a run of such programs
  own-blank : Genuine r → RunOf e p r 0 (replicate r.n 0)
  own-blank g =
      let n : length (replicate {A = ℕ} r.n 0) ≡ r.n = length-replicate r.n 0 in
      let b : Bytes (replicate r.n 0) = accepted-bytes r (replicate r.n 0) (erased-accepted r g) in
      let k : EraseKept e r (replicate r.n 0) = ke r (replicate r.n 0) wr b in
      let o : erase_call r (replicate r.n 0) ≡ record { answer = Done (guarantee r); sheet = replicate r.n 0 } = erase-gives r (replicate r.n 0) g n in
      subst (RunOf e p r 0) (k.leaves ∙ ap (λ (x : Outcome). x.sheet) o) (begins (replicate r.n 0) b (k.number ∙ ap (λ (x : Outcome). number_of x.answer) o))

  -- a change that the maps make is one that such programs make
  own-step : (c i : ℕ) (xs ys : List ℕ) → RunOf e p r c xs → Accepted r xs → i < r.k → change_sheet r xs i ≡ done ys → RunOf e p r (suc c) ys
  own-step c i xs ys q a l h =
      let w : Word i = bit_word r a.genuine l in
      let k : ChangeKept p r xs i = kept_on p kp r xs i a w in
      let o : change_call r xs i ≡ record { answer = Done (sum ys - sum xs); sheet = ys } = done-answered r xs ys i a l h in
      subst (λ (x : ℕ). RunOf e p r x ys) (ap (λ (x : ℕ). counted_by x c) (k.number ∙ ap (λ (x : Outcome). number_of x.answer) o))
      (subst (RunOf e p r (counted_by (p r xs i).number c)) (k.leaves ∙ ap (λ (x : Outcome). x.sheet) o) (calls c i xs q w))

  -- every run of the calls is one of such programs: they get to every sheet that the calls get to
  pub own-run : {c : ℕ} {xs : List ℕ} → Run r c xs → RunOf e p r c xs
  own-run = runs r (RunOf e p r) own-blank own-step
