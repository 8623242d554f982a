-- The impostors of 01's last section: no program that keeps the promises answers Erase every time, reads all zeros, raises nothing or invents the count. Assumes nothing.
-- A law promised-.. is about one outcome that meets the promise at its input, or about a run of such outcomes, whatever program gave them; number 0 is Done and number 7 is Erase.
use Rattle.std.specs.Prelude.{◌≡◌, refl, ◌≢◌, List, ℕ, suc, ◌-◌, ◌*◌, ◌^◌, ◌%◌, ◌≤◌, ◌<◌, length, get_or, replicate}
use Rattle.std.proofs.Common.{sym, ◌∙◌, subst, ⊎_elim, le_refl, pow-suc, arith}
use Rattle.std.proofs.Math.Path.{ap}
use Rattle.std.proofs.lemmas.List.{length-replicate}
use Rattle.rules.specs.Search.{Result, done, no_place_left}
use Rattle.rules.specs.Cells.{sum}
use Rattle.rules.specs.Plain.{HasBit, states}
use Rattle.rules.specs.Plain as R
use Rattle.rules.specs.Staged.{Sheet, read_cells}
use Rattle.rules.specs.Staged as S
use Rattle.rules.specs.Accept.{accept, Genuine, guarantee}
use Rattle.rules.specs.AcceptLaws.{StagedFacts, genuine-facts, genuine-common, genuine-plain, staged-bits, accept-genuine}
use Rattle.rules.specs.GuaranteeLaws.{guarantee-pos}
use Rattle.rules.specs.Calls.{read_bit, bits_of, change_sheet, settings_call, Outcome, change_call, Reading, read_call}
use Rattle.rules.specs.Promises.{ChangePromise, ReadPromise}
use Rattle.rules.specs.Answer.{number_of}
use Rattle.rules.specs.PromiseLaws.{gives-done, gives-erase, by_number}
use Rattle.rules.specs.Numbers.{marked}
use Rattle.rules.specs.declared.Settings.{Settings}
use Rattle.rules.specs.declared.Setup.{Setup}
use Rattle.rules.specs.declared.Answer.TheVariants.{Erase}
use Rattle.laws.specs.Lists.{low-replicate, rises-still}
use Rattle.laws.specs.PlainMaps.{Reads, from, none, bit_is}
use Rattle.laws.specs.PlainSheet as P
use Rattle.laws.specs.Calls.{Accepted}
use Rattle.laws.specs.Kinds.{plain-read, staged-read}
use Rattle.lifetime.specs.Change.{Changed, Made, change-made, sheet-changed, erased-accepted, erase-answered, erase-tells, erase-exactly, NoRoom, NoPlaceLeft, done-answered, plain-law, stored}
use Rattle.lifetime.specs.Run.{counted, Run, call, blank-run, Met, run-accepted, levels-sum, erase-late, guarantee-met}
use Rattle.lifetime.specs.Programs.{Word, Bytes, Words, genuine-words, accepted-bytes, EraseProgram, ChangeProgram, ReadProgram, KeepsErase, KeepsChange, KeepsRead, kept_on, counted_by, RunBy, run_by, RunOf, calls, run_of, own-run}
use Rattle.lifetime.specs.Refusals.{bit-two, ReadDone, read-gives, read-done-places}

-- ---- what an erased sheet reads

-- plain: every bit reads 0
plain-blank : (k L m n i : ℕ) → 1 < k → 0 < L → k * L % 2 ≡ 0 → m * k ≤ n → R.read k L m (replicate n 0) i ≡ 0
unfolding R.read
plain-blank k L m n i two g even room = go (bit_is (k * L) m i (states k L (replicate n 0)))
  where
    go : {v : ℕ} → Reads m i (states k L (replicate n 0)) v → v ≡ 0
    go (from j v l e) = absurd (subst (HasBit i) (sym e ∙ P.blank k L m n two g even room j l) refl)
    go (none b) = refl

module _ (r : Settings) (p : StagedFacts r) where
  -- a staged sheet has more than one bit
  pub two : 1 < 2 ^ r.s
  two = omega (arith, (staged-bits r p).0, p.bits)

  -- and kL is even
  pub even : 2 ^ r.s * r.top % 2 ≡ 0
  even =
      let e : suc (r.s - 1) ≡ r.s = omega (arith, p.stages-least) in
      ap (λ (x : ℕ). x * r.top % 2) (ap (λ (x : ℕ). 2 ^ x) (sym e) ∙ pow-suc 2 (r.s - 1)) ∙ omega arith

  -- staged: an erased sheet is at stage 0 with blocks of zeros
  staged-blank : (i : ℕ) → read_bit r (replicate r.n 0) i ≡ 0
  unfolding read_cells S.read
  staged-blank i =
      staged-read r p (replicate r.n 0) i
      ∙ ap (λ (x : Sheet). S.read r.s r.m r.top x i) (stored r p).blank
      ∙ plain-blank (2 ^ r.s) r.top r.m (r.m * 2 ^ r.s) i two p.top_least even (le_refl (r.m * 2 ^ r.s))

-- of either kind: every bit of an erased sheet reads 0
pub erased-reads : (r : Settings) → Genuine r → (i : ℕ) → read_bit r (replicate r.n 0) i ≡ 0
erased-reads r g i = ⊎_elim
    (λ p. plain-read r p (replicate r.n 0) i ∙ plain-blank r.k r.top r.m r.n i p.bits-least p.top_least p.even p.inside)
    (λ p. staged-blank r p i)
    (genuine-facts r g)

-- ---- one that answers Erase every time

-- what number 7 says: an accepted sheet, a bit there is, no place for it in the words of 01, and a sheet left as it was
pub record NoPlaceThere (r : Settings) (xs : List ℕ) (i : ℕ) (ys : List ℕ) : Type 0 where
  pub accepted : Accepted r xs
  pub bit : i < r.k
  pub no_place : NoPlaceLeft r xs i
  pub same : ys ≡ xs

-- number 7 that meets the promise comes only on an accepted sheet on which the maps find no place for that bit
pub promised-full : (r : Settings) (xs : List ℕ) (i v : ℕ) (ys : List ℕ) → ChangePromise r xs i 7 v ys → NoPlaceThere r xs i ys
promised-full r xs i v ys h =
    let e : (change_call r xs i).answer ≡ Erase = gives-erase (change_call r xs i).answer h in
    let t : NoRoom r xs i (change_call r xs i).sheet = erase-tells r xs i e in
    record { accepted = t.accepted; bit = t.bit; no_place = ((erase-exactly r xs i).0 e).2; same = h.leaves ∙ t.same }

-- no program answers Erase but on an accepted sheet on which the maps find no place for that bit
pub erase-only-full : (p : ChangeProgram) → KeepsChange p → (r : Settings) (xs : List ℕ) (i : ℕ) → Words r → Bytes xs → Word i → (p r xs i).number ≡ 7 → NoPlaceThere r xs i (p r xs i).leaves
erase-only-full p kp r xs i wr b w e = promised-full r xs i _ _ (by_number e (kp r xs i wr b w))

-- number 7 comes after as many changes as are guaranteed, in any run whose outcomes meet their promises
pub promised-late : (r : Settings) (c i v : ℕ) (xs ys : List ℕ) → RunBy r c xs → ChangePromise r xs i 7 v ys → guarantee r ≤ c
promised-late r c i v xs ys q h = erase-late r c i xs (run_by r q) (gives-erase (change_call r xs i).answer h)

-- number 7 never meets the promise on an erased sheet
pub promised-not-blank : (r : Settings) → Genuine r → (i v : ℕ) (ys : List ℕ) → ¬ (ChangePromise r (replicate r.n 0) i 7 v ys)
promised-not-blank r g i v ys h =
    let z : guarantee r ≤ 0 = erase-late r 0 i (replicate r.n 0) (blank-run r g) (gives-erase (change_call r (replicate r.n 0) i).answer h) in
    omega (arith, guarantee-pos r g)

-- no program answers Erase before as many changes were accepted as are guaranteed, in any run of its own
pub not-early-erase : (e : EraseProgram) (p : ChangeProgram) → KeepsErase e → KeepsChange p → (r : Settings) → Words r → (c i : ℕ) (xs : List ℕ) → RunOf e p r c xs → Word i → c < guarantee r → (p r xs i).number ≢ 7
not-early-erase e p ke kp r wr c i xs q w l a =
    let t : RunBy r c xs = run_of e p ke kp r wr q in
    let z : guarantee r ≤ c = promised-late r c i _ xs _ t (by_number a (kept_on p kp r xs i (run-accepted r (run_by r t)) w)) in
    omega arith

-- whatever the accepted settings, no program answers Erase on the erased sheet
pub not-erase-at-once : (p : ChangeProgram) → KeepsChange p → (r : Settings) → Genuine r → (i : ℕ) → Word i → (p r (replicate r.n 0) i).number ≢ 7
not-erase-at-once p kp r g i w a = promised-not-blank r g i _ _ (by_number a (kept_on p kp r (replicate r.n 0) i (erased-accepted r g) w))

-- whatever the accepted settings, no program answers Erase every time
pub not-always-erase : (p : ChangeProgram) → KeepsChange p → (r : Settings) → Genuine r → ¬ ((xs : List ℕ) (i : ℕ) → Bytes xs → Word i → (p r xs i).number ≡ 7)
not-always-erase p kp r g all = not-erase-at-once p kp r g 0 (omega arith) (all (replicate r.n 0) 0 (accepted-bytes r (replicate r.n 0) (erased-accepted r g)) (omega arith))

-- some plain settings are accepted
pub some-accepted : Genuine (accept 0 2 1 4)
unfolding settings_call
some-accepted = accept-genuine 0 2 1 4 (subst (λ (x : ℕ). 0 < x) (sym (ap (λ (x : Setup). x.settings.k) marked.plain4)) (omega arith))

-- ---- one that never answers Erase

-- plain: every program that keeps the promises answers Erase, straight after as many changes as are guaranteed, in some run of its own
pub erases-then : (e : EraseProgram) (p : ChangeProgram) → KeepsErase e → KeepsChange p → (r : Settings) (g : Genuine r) (z : r.kind ≡ 0) →
    RunOf e p r (guarantee r) (guarantee-met r g z).sheet × ((p r (guarantee-met r g z).sheet 0).number ≡ 7)
erases-then e p ke kp r g z =
    let m : Met r = guarantee-met r g z in
    (own-run e p ke kp r (genuine-words r g) m.run, (kept_on p kp r m.sheet 0 (run-accepted r m.run) (omega arith)).number ∙ ap number_of m.erase)

-- ---- one that reads all zeros

-- the erased sheet after one change of bit i: accepted, and bit i reads 1
pub record OneSet (r : Settings) (i : ℕ) : Type 0 where
  pub sheet : List ℕ
  pub run : Run r 1 sheet
  pub accepted : Accepted r sheet
  pub reads : read_bit r sheet i ≡ 1
  pub others : (b : ℕ) → b < r.k → b ≢ i → read_bit r sheet b ≡ 0

-- there is one for every bit, whatever the accepted settings
pub one_set : (r : Settings) → Genuine r → (i : ℕ) → i < r.k → OneSet r i
one_set r g i l = go (change_sheet r (replicate r.n 0) i) refl
  where
    go : (q : Result (List ℕ)) → change_sheet r (replicate r.n 0) i ≡ q → OneSet r i
    go (done ys) e =
        let a : Accepted r (replicate r.n 0) = erased-accepted r g in
        let c : Changed r i (replicate r.n 0) ys = sheet-changed r i (replicate r.n 0) ys a l e in
        record {
          sheet = ys;
          run = subst (λ (o : Outcome). Run r (counted o.answer 0) o.sheet) (done-answered r (replicate r.n 0) ys i a l e) (call 0 i (replicate r.n 0) (blank-run r g));
          accepted = c.stays;
          reads = c.flips ∙ ap (λ (x : ℕ). 1 - x) (erased-reads r g i);
          others = λ b h d. c.keeps b h d ∙ erased-reads r g b;
        }
    go no_place_left e =
        let z : guarantee r ≤ 0 = erase-late r 0 i (replicate r.n 0) (blank-run r g) (erase-answered r (replicate r.n 0) i (erased-accepted r g) l e) in
        absurd (omega (arith, guarantee-pos r g))

-- an output that meets the promise of read, on an accepted sheet, has bit i at place i
pub promised-bit : (r : Settings) (xs out : List ℕ) (num v : ℕ) (places : List ℕ) → ReadPromise r xs out num v places → Accepted r xs → r.k ≤ length out → (i : ℕ) → i < r.k → get_or places i 0 ≡ read_bit r xs i
promised-bit r xs out num v places h acc l i b =
    let d : ReadDone r xs out (sum (bits_of r xs)) (read_call r xs out).places = read-done-places r xs out (sum (bits_of r xs)) (ap (λ (o : Reading). o.answer) (read-gives r xs out acc l)) in
    ap (λ (ps : List ℕ). get_or ps i 0) h.leaves ∙ (d.bits i b).0

-- the output of every program that keeps the promise of read has bit i at place i
pub reads-bit : (q : ReadProgram) → KeepsRead q → (r : Settings) (xs out : List ℕ) → Accepted r xs → Bytes out → r.k ≤ length out → (i : ℕ) → i < r.k → get_or (q r xs out).leaves i 0 ≡ read_bit r xs i
reads-bit q kq r xs out a b l = promised-bit r xs out _ _ (q r xs out).leaves (kq r xs out (genuine-words r a.genuine) (accepted-bytes r xs a) b) a l

-- whatever the accepted settings and the bit, one change from the erased sheet makes a sheet that every such program reads with bit i as 1
pub not-all-zeros : (q : ReadProgram) → KeepsRead q → (r : Settings) (g : Genuine r) (i : ℕ) (l : i < r.k) (out : List ℕ) → Bytes out → r.k ≤ length out → get_or (q r (one_set r g i l).sheet out).leaves i 0 ≡ 1
not-all-zeros q kq r g i l out b h = let o : OneSet r i = one_set r g i l in reads-bit q kq r o.sheet out o.accepted b h i l ∙ o.reads

-- no program reads all zeros
pub not-zeros-always : (q : ReadProgram) → KeepsRead q → (r : Settings) → Genuine r → (i : ℕ) → i < r.k → ¬ ((xs out : List ℕ) → Accepted r xs → Bytes out → r.k ≤ length out → get_or (q r xs out).leaves i 0 ≡ 0)
not-zeros-always q kq r g i l all =
    let o : OneSet r i = one_set r g i l in
    let out : List ℕ = replicate r.k 0 in
    let n : length out ≡ r.k = length-replicate {A = ℕ} r.k 0 in
    let h : r.k ≤ length out = omega arith in
    let b : Bytes out = (low-replicate 255 r.k 0 (omega arith), omega (arith, (genuine-common r g).bits_most)) in
    let z : ◌≡◌ {A = ℕ} 1 0 = sym (not-all-zeros q kq r g i l out b h) ∙ all o.sheet out o.accepted b h in
    omega arith

-- ---- one that answers Done and raises nothing, or invents the count

-- number 0 that meets the promise has done what the call does
pub promised-made : (r : Settings) (xs : List ℕ) (i v : ℕ) (ys : List ℕ) → ChangePromise r xs i 0 v ys → Made r xs i v ys
promised-made r xs i v ys h = subst (Made r xs i v) (sym h.leaves) (change-made r xs i v (gives-done (change_call r xs i).answer h))

-- a change that is made is seen: the bit reads otherwise, the sheet differs, and levels were raised, exactly one on a plain sheet
pub record Worked (r : Settings) (xs : List ℕ) (i v : ℕ) (ys : List ℕ) : Type 0 where
  pub flips : read_bit r ys i ≡ 1 - read_bit r xs i
  pub reads : read_bit r ys i ≢ read_bit r xs i
  pub differs : ys ≢ xs
  pub raised : 0 < v
  pub plain : r.kind ≡ 0 → v ≡ 1

-- number 0 that meets the promise raises levels and is seen
pub promised-worked : (r : Settings) (xs : List ℕ) (i v : ℕ) (ys : List ℕ) → ChangePromise r xs i 0 v ys → Worked r xs i v ys
promised-worked r xs i v ys promise =
    let h : Made r xs i v ys = promised-made r xs i v ys promise in
    let b : read_bit r xs i < 2 = bit-two r xs i in
    let o : read_bit r ys i ≢ read_bit r xs i = λ e. omega (arith, h.changed.flips) in
    let d : ys ≢ xs = λ e. o (ap (λ (zs : List ℕ). read_bit r zs i) e) in
    let m : ¬ (sum ys ≤ sum xs) = λ l. d (rises-still xs ys (h.accepted.long ∙ sym h.changed.stays.long) h.changed.rises l) in
    record {
      flips = h.changed.flips;
      reads = o;
      differs = d;
      raised = omega (arith, h.raised);
      plain = λ e. let a : P.Changed r.k r.top r.m r.n i xs ys = plain-law r (genuine-plain r h.accepted.genuine e) i xs ys h.accepted h.bit h.maps in
          omega (arith, a.adds, h.raised);
    }

-- the value of number 0 that meets the promise is the sum after less the sum before
pub promised-sum : (r : Settings) (xs : List ℕ) (i v : ℕ) (ys : List ℕ) → ChangePromise r xs i 0 v ys → v ≡ sum ys - sum xs
promised-sum r xs i v ys h = omega (arith, (promised-made r xs i v ys h).raised)

-- no program answers Done and raises nothing
pub not-idle : (p : ChangeProgram) → KeepsChange p → (r : Settings) (xs : List ℕ) (i : ℕ) → Words r → Bytes xs → Word i → (p r xs i).number ≡ 0 → Worked r xs i (p r xs i).value (p r xs i).leaves
not-idle p kp r xs i wr b w e = promised-worked r xs i _ _ (by_number e (kp r xs i wr b w))

-- no program invents the count
pub not-invented : (p : ChangeProgram) → KeepsChange p → (r : Settings) (xs : List ℕ) (i : ℕ) → Words r → Bytes xs → Word i → (p r xs i).number ≡ 0 → (p r xs i).value ≡ sum (p r xs i).leaves - sum xs
not-invented p kp r xs i wr b w e = promised-sum r xs i _ _ (by_number e (kp r xs i wr b w))

-- ---- by demand 3's sum

-- along every run on a plain sheet whose outcomes meet their promises the levels sum to the number accepted
pub promised-levels : (r : Settings) → r.kind ≡ 0 → (c : ℕ) (xs : List ℕ) → RunBy r c xs → sum xs ≡ c
promised-levels r z c xs q = levels-sum r z (run_by r q)

-- along every run of programs that keep the promises on a plain sheet the levels sum to the number accepted
pub run-sum : (e : EraseProgram) (p : ChangeProgram) → KeepsErase e → KeepsChange p → (r : Settings) → Words r → r.kind ≡ 0 → (c : ℕ) (xs : List ℕ) → RunOf e p r c xs → sum xs ≡ c
run-sum e p ke kp r wr z c xs q = promised-levels r z c xs (run_of e p ke kp r wr q)

-- on a plain sheet one that answers Done and raises nothing is refused by the sum alone
pub not-idle-by-sum : (e : EraseProgram) (p : ChangeProgram) → KeepsErase e → KeepsChange p → (r : Settings) → Words r → r.kind ≡ 0 → (c i : ℕ) (xs : List ℕ) → RunOf e p r c xs → Word i → (p r xs i).number ≡ 0 → (p r xs i).leaves ≢ xs
not-idle-by-sum e p ke kp r wr z c i xs q w d same =
    let before : sum xs ≡ c = run-sum e p ke kp r wr z c xs q in
    let n : counted_by (p r xs i).number c ≡ suc c = ap (λ (x : ℕ). counted_by x c) d in
    let after : sum (p r xs i).leaves ≡ counted_by (p r xs i).number c = run-sum e p ke kp r wr z _ _ (calls c i xs q w) in
    let stays : sum (p r xs i).leaves ≡ sum xs = ap sum same in
    omega arith
