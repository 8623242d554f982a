-- The impostor that works at stage 0 and only pretends later: refused by demand 2 at every stage, and by demand 3 where the staged guarantee is above the plain count. Assumes nothing.
use Rattle.std.specs.Prelude.{◌≡◌, refl, ◌≢◌, ◌⊎◌, ℕ, zero, suc, ◌+◌, ◌-◌, ◌*◌, ◌^◌, ◌≤◌, ◌<◌, length, get_or, drop, replicate}
use Rattle.std.proofs.Common.{sym, ◌∙◌, subst, inl, inr, ⊎_elim, le_refl, arith, take-append-drop, drop_at, pow_mono}
use Rattle.std.proofs.Math.Path.{ap}
use mathlib.Core.List.{List, ◌++◌}
use Rattle.std.proofs.Math.Decide.{ℕ_discrete}
use Rattle.std.proofs.lemmas.List.{length-replicate}
use Rattle.rules.specs.Search.{Result, done, no_place_left}
use Rattle.rules.specs.Cells.{sum, tabulate}
use Rattle.rules.specs.Plain as R
use Rattle.rules.specs.Stage.{Entry}
use Rattle.rules.specs.Staged.{Sheet, stage0, staged, read_cells}
use Rattle.rules.specs.Staged as S
use Rattle.rules.specs.Batches.{decode}
use Rattle.rules.specs.Accept.{Genuine, guarantee}
use Rattle.rules.specs.AcceptLaws.{StagedFacts, staged-bits}
use Rattle.rules.specs.GuaranteeLaws.{guarantee-staged}
use Rattle.rules.specs.Calls.{read_bit, change_sheet, Outcome, change_call}
use Rattle.rules.specs.Promises.{ChangePromise}
use Rattle.rules.specs.PromiseLaws.{by_number}
use Rattle.rules.specs.declared.Settings.{Settings}
use Rattle.rules.specs.Answer.{number_of}
use Rattle.rules.specs.declared.Answer.TheVariants.{Erase}
use Rattle.laws.specs.Lists.{take-replicate}
use Rattle.laws.specs.PlainSheet as P
use Rattle.laws.specs.Calls.{Accepted}
use Rattle.lifetime.specs.Tight as E
use Rattle.lifetime.specs.Storage as T
use Rattle.lifetime.specs.Staged as F
use Rattle.lifetime.specs.Staged.{stages_left}
use Rattle.laws.specs.Kinds.{staged-read, staged-change}
use Rattle.lifetime.specs.Change.{Made, erase-tells, erase-answered, done-answered, means, back, Clean, many, below, stored, staged-is}
use Rattle.lifetime.specs.Run.{counted, Run, call, blank-run, run-accepted, erase-late}
use Rattle.lifetime.specs.Programs.{Word, Bytes, Words, ChangeProgram, ReadProgram, ChangeKept, KeepsChange, KeepsRead, kept_on}
use Rattle.lifetime.specs.Place.{NextStage, later_first}
use Rattle.lifetime.specs.Impostors.{two, even, reads-bit, promised-made}

-- ---- at every stage from 1 up

-- what a change that is made does on a staged sheet with d stages left, blocks bs and index blocks es
pub record AtLaterStage (r : Settings) (xs : List ℕ) (i d : ℕ) (bs : List ℕ) (es : List Entry) (ys : List ℕ) : Type 0 where
  -- every bit's reading is that of the stage's decoding map
  pub before : (b : ℕ) → read_bit r xs b ≡ S.read r.s r.m r.top (staged d bs es) b
  -- the sheet after is accepted; the named bit flips and no other moves
  pub stays : Accepted r ys
  pub flips : read_bit r ys i ≡ 1 - S.read r.s r.m r.top (staged d bs es) i
  pub keeps : (b : ℕ) → b < r.k → b ≢ i → read_bit r ys b ≡ S.read r.s r.m r.top (staged d bs es) b

-- at every stage from 1 up: number 0 that meets the promise flips the named bit's reading
pub promised-stage : (r : Settings) → StagedFacts r → (xs : List ℕ) (i v d : ℕ) (bs : List ℕ) (es : List Entry) (ys : List ℕ) →
    decode r.s r.m r.top r.w xs ≡ staged d bs es → ChangePromise r xs i 0 v ys → AtLaterStage r xs i d bs es ys
unfolding read_cells
promised-stage r f xs i v d bs es ys e promise =
    let h : Made r xs i v ys = promised-made r xs i v ys promise in
    let w : (b : ℕ) → read_bit r xs b ≡ S.read r.s r.m r.top (staged d bs es) b = λ b. staged-read r f xs b ∙ ap (λ (x : Sheet). S.read r.s r.m r.top x b) e in
    record {
      before = w;
      stays = h.changed.stays;
      flips = h.changed.flips ∙ ap (λ (x : ℕ). 1 - x) (w i);
      keeps = λ b l n. h.changed.keeps b l n ∙ w b;
    }

-- at every stage from 1 up: where a program answers Done, the named bit flips in its sheet, and as every program that keeps the promise of read reads it
pub not-pretending : (p : ChangeProgram) (q : ReadProgram) → KeepsChange p → KeepsRead q → (r : Settings) → StagedFacts r → (xs : List ℕ) (i d : ℕ) (bs : List ℕ) (es : List Entry) →
    Words r → Bytes xs → Word i → decode r.s r.m r.top r.w xs ≡ staged d bs es → (p r xs i).number ≡ 0 →
    AtLaterStage r xs i d bs es (p r xs i).leaves × ((out : List ℕ) → Bytes out → r.k ≤ length out → get_or (q r (p r xs i).leaves out).leaves i 0 ≡ 1 - get_or (q r xs out).leaves i 0)
not-pretending p q kp kq r f xs i d bs es wr b w e a =
    let k : ChangePromise r xs i 0 (p r xs i).value (p r xs i).leaves = by_number a (kp r xs i wr b w) in
    let h : Made r xs i (p r xs i).value (p r xs i).leaves = promised-made r xs i (p r xs i).value (p r xs i).leaves k in (
      promised-stage r f xs i (p r xs i).value d bs es (p r xs i).leaves e k,
      λ out t l. reads-bit q kq r (p r xs i).leaves out h.changed.stays t l i h.bit ∙ h.changed.flips ∙ ap (λ (x : ℕ). 1 - x) (sym (reads-bit q kq r xs out h.accepted t l i h.bit)),
    )

-- ---- where stage 0 ends

-- demand 3's plain count
abbrev pub plain_count : Settings → ℕ
plain_count r = (r.m - r.k + 1) * r.k * r.top + r.k - 1

-- the plain count of a staged record, as the plain laws write it
pub plain-count : (r : Settings) → StagedFacts r → (r.m - 2 ^ r.s + 1) * (2 ^ r.s * r.top) + (2 ^ r.s - 1) ≡ plain_count r
plain-count r p = ap (λ (k : ℕ). (r.m - k + 1) * (k * r.top) + (k - 1)) p.bits ∙ omega (arith, (staged-bits r p).0)

-- a run of the plain maps on the m blocks is a run of calls on a staged sheet that stays at stage 0
module _ (r : Settings) (p : StagedFacts r) (g : Genuine r) where
  -- the cells of the m blocks
  abbrev cells : ℕ
  cells = r.m * 2 ^ r.s

  -- they stand in the sheet
  inside : cells ≤ r.n
  inside = subst (λ (k : ℕ). r.m * k ≤ r.n) (sym p.bits) (omega (arith, p.inside))

  -- the m blocks bs, and every cell after them 0
  abbrev sheet_of : List ℕ → List ℕ
  sheet_of bs = back r p (replicate r.n 0) (stage0 bs)

  -- runs of the plain maps on the blocks
  abbrev BlockRun : ℕ → List ℕ → Type 0
  BlockRun = P.Run (2 ^ r.s) r.top r.m cells

  -- they keep the blocks accepted, and their levels sum to the number of changes
  blocks-law : {c : ℕ} {bs : List ℕ} → BlockRun c bs → P.Accepted (2 ^ r.s) r.top r.m cells bs × (sum bs ≡ c)
  blocks-law q = P.run-law (2 ^ r.s) r.top r.m cells (two r p) p.top_least (even r p) (le_refl cells) q

  -- such a sheet is at stage 0
  at-stage-0 : {c : ℕ} {bs : List ℕ} → BlockRun c bs → means r p (sheet_of bs) ≡ stage0 bs
  at-stage-0 {bs = bs} q = (stored r p).back (replicate r.n 0) (length-replicate r.n 0) (stored r p).clean (stage0 bs) (blocks-law q).0
      (subst (λ (x : Sheet). r.s - 1 ≤ stages_left r.s x) (sym (stored r p).blank) (le_refl (r.s - 1)))

  -- its cells after the blocks are those of the erased sheet
  tail-same : {c : ℕ} {bs : List ℕ} → BlockRun c bs → drop cells (sheet_of bs) ≡ drop cells (replicate r.n 0)
  tail-same {bs = bs} q = drop_at bs (drop cells (replicate r.n 0)) cells (blocks-law q).0.long

  -- a change that the plain maps make is made
  step-made : (c i : ℕ) (bs cs : List ℕ) → BlockRun c bs → R.change (2 ^ r.s) r.top r.m i bs ≡ done cs → change_sheet r (sheet_of bs) i ≡ done (sheet_of cs)
  unfolding S.change_cells S.change
  step-made c i bs cs q e =
      staged-change r p (sheet_of bs) i
      ∙ ap (λ (x : Sheet). S.written (back r p) (sheet_of bs) (S.change r.s r.m r.top i x)) (at-stage-0 q)
      ∙ ap (λ (x : Result (List ℕ)). S.written (back r p) (sheet_of bs) (S.from_stage0 r.s r.m r.top bs (tabulate (2 ^ r.s) (S.after i (S.read r.s r.m r.top (stage0 bs)))) x)) e
      ∙ ap (λ (t : List ℕ). done (cs ++ t)) (tail-same q)

  -- so the run is one of calls
  lifted : {c : ℕ} {bs : List ℕ} → BlockRun c bs → Run r c (sheet_of bs)
  lifted P.begin = subst (Run r 0) (sym (ap (λ (t : List ℕ). t ++ drop cells (replicate r.n 0)) (sym (take-replicate cells r.n 0 inside)) ∙ take-append-drop cells (replicate r.n 0))) (blank-run r g)
  lifted (P.more c i bs cs q l e) =
      let t : Run r c (sheet_of bs) = lifted q in
      subst (λ (o : Outcome). Run r (counted o.answer c) o.sheet) (done-answered r (sheet_of bs) (sheet_of cs) i (run-accepted r t) (subst (λ (k : ℕ). i < k) p.bits l) (step-made c i bs cs q e)) (call c i (sheet_of bs) t)

-- where stage 0 ends: after as many changes as the plain count, the plain map has no place for bit 0
pub record StageZeroEnd (r : Settings) : Type 0 where
  pub blocks : List ℕ
  pub sheet : List ℕ
  pub run : Run r (plain_count r) sheet
  pub stage : decode r.s r.m r.top r.w sheet ≡ stage0 blocks
  pub levels : sum blocks ≡ plain_count r
  pub stuck : R.change (2 ^ r.s) r.top r.m 0 blocks ≡ no_place_left

-- some run of calls gets there
pub stage-zero-ends : (r : Settings) → StagedFacts r → Genuine r → StageZeroEnd r
stage-zero-ends r p g =
    let e : E.End (2 ^ r.s) r.top r.m (r.m * 2 ^ r.s) (two r p) p.top_least (even r p) (le_refl (r.m * 2 ^ r.s)) (many r p) =
    E.tight (2 ^ r.s) r.top r.m (r.m * 2 ^ r.s) (two r p) p.top_least (even r p) (le_refl (r.m * 2 ^ r.s)) (many r p) in
    record {
      blocks = e.xs;
      sheet = sheet_of r p g e.xs;
      run = subst (λ (c : ℕ). Run r c (sheet_of r p g e.xs)) (plain-count r p) (lifted r p g e.run);
      stage = at-stage-0 r p g e.run;
      levels = (blocks-law r p g e.run).1 ∙ plain-count r p;
      stuck = e.out;
    }

-- a sheet at a stage from 1 up that has fewer than d stages left
pub data Later (d : ℕ) : Sheet → Type 0 where
  later-at : (e : ℕ) (bs : List ℕ) (es : List Entry) → e < d → Later d (staged e bs es)

-- the search for a later stage gives one
later-found : (s m L d : ℕ) (bs vs : List ℕ) (y : Sheet) → S.later s m L d bs vs ≡ done y → Later d y
later-found s m L d bs vs y e = let n : NextStage s m L d bs vs y = later_first s m L d bs vs y e in subst (Later d) (sym n.is) (later-at n.left _ _ n.after)

-- where the plain map has no place at stage 0, number 0 that meets the promise leaves a sheet at a later stage
pub promised-later : (r : Settings) → StagedFacts r → (xs : List ℕ) (i v : ℕ) (bs ys : List ℕ) →
    decode r.s r.m r.top r.w xs ≡ stage0 bs → R.change (2 ^ r.s) r.top r.m i bs ≡ no_place_left → ChangePromise r xs i 0 v ys →
    Later (r.s - 1) (decode r.s r.m r.top r.w ys)
unfolding S.change_cells S.change
promised-later r f xs i v bs ys e n promise = go (S.change r.s r.m r.top i (means r f xs)) refl (sym (staged-change r f xs i) ∙ made.maps)
  where
    made : Made r xs i v ys
    made = promised-made r xs i v ys promise

    acc : T.Accepted r.s r.m r.top (means r f) (back r f) r.n (Clean r f) xs
    acc = staged-is r f xs made.accepted

    vs : List ℕ
    vs = tabulate (2 ^ r.s) (S.after i (S.read r.s r.m r.top (stage0 bs)))

    go : (q : Result Sheet) → S.change r.s r.m r.top i (means r f xs) ≡ q → S.written (back r f) xs q ≡ done ys → Later (r.s - 1) (means r f ys)
    go no_place_left q w = absurd (let z : ◌≡◌ {A = ℕ} 0 1 = cc in omega arith)
    go (done y) q w =
        let h : F.Changed r.s r.m r.top i (means r f xs) y =
        subst (F.ReplyLaw r.s r.m r.top i (means r f xs)) q (F.reply-law r.s r.m r.top i (below r f made.bit) f.top_least f.stages-least (many r f) (means r f xs) acc.fits) in
        let t : back r f xs y ≡ ys = cc in
        let m : means r f ys ≡ y = ap (means r f) (sym t) ∙ (stored r f).back xs acc.long acc.clean y h.fits h.onward in
        let u : S.change r.s r.m r.top i (stage0 bs) ≡ done y = ap (S.change r.s r.m r.top i) (sym e) ∙ q in
        let l : S.later r.s r.m r.top (r.s - 1) bs vs ≡ done y = sym (ap (S.from_stage0 r.s r.m r.top bs vs) n) ∙ u in
        subst (Later (r.s - 1)) (sym m) (later-found r.s r.m r.top (r.s - 1) bs vs y l)

-- what a program does on the sheet where stage 0 ends
pub record GoesOn (p : ChangeProgram) (r : Settings) (z : StageZeroEnd r) : Type 0 where
  pub done : (p r z.sheet 0).number ≡ 0
  pub later : Later (r.s - 1) (decode r.s r.m r.top r.w (p r z.sheet 0).leaves)

-- where Erase is not answered there, every program goes on to a later stage
goes_on : (p : ChangeProgram) → KeepsChange p → (r : Settings) → StagedFacts r → (z : StageZeroEnd r) → (change_call r z.sheet 0).answer ≢ Erase → GoesOn p r z
goes_on p kp r f z never = go (change_sheet r z.sheet 0) refl
  where
    bit : 0 < r.k
    bit = omega (arith, (staged-bits r f).0)

    kept : ChangeKept p r z.sheet 0
    kept = kept_on p kp r z.sheet 0 (run-accepted r z.run) (omega arith)

    go : (q : Result (List ℕ)) → change_sheet r z.sheet 0 ≡ q → GoesOn p r z
    go (done ys) e =
        let a : (p r z.sheet 0).number ≡ 0 = kept.number ∙ ap (λ (o : Outcome). number_of o.answer) (done-answered r z.sheet ys 0 (run-accepted r z.run) bit e) in
        record {
          done = a;
          later = promised-later r f z.sheet 0 (p r z.sheet 0).value z.blocks (p r z.sheet 0).leaves z.stage z.stuck (by_number a kept);
        }
    go no_place_left e = absurd (never (erase-answered r z.sheet 0 (run-accepted r z.run) bit e))

-- by demand 3: where the plain count is below the guarantee, one that stops at stage 0 is refused
pub not-stopping-by-count : (p : ChangeProgram) → KeepsChange p → (r : Settings) → StagedFacts r → plain_count r < guarantee r → (z : StageZeroEnd r) → GoesOn p r z
not-stopping-by-count p kp r f l z = goes_on p kp r f z (λ a. let h : guarantee r ≤ plain_count r = erase-late r (plain_count r) 0 z.sheet z.run a in omega arith)

-- with m = t + k, k = j + 4 and L = l + 1: the levels at the end of stage 0 are fewer than where no later stage is left
levels-below : (t j l : ℕ) → ¬ ((t + (j + 4)) * ((j + 4) * (l + 1)) ≤ (t + 1) * ((j + 4) * (l + 1)) + (j + 3) + (j + 3) * (2 * (l + 1)))
levels-below t j l h = omega arith

-- so it is for any m, k and L of a staged sheet
levels-few : (m k L : ℕ) → 4 ≤ k → k ≤ m → 1 ≤ L → ¬ (m * (k * L) ≤ (m - k + 1) * (k * L) + (k - 1) + (k - 1) * (2 * L))
levels-few m k L h g l =
    let e : k - 4 + 4 ≡ k = omega arith in
    let e₁ : k - 4 + 3 ≡ k - 1 = omega arith in
    let e₂ : L - 1 + 1 ≡ L = omega arith in
    let e₃ : m - k + k ≡ m = omega arith in
    rw (e, e₁, e₂, e₃) at (levels-below (m - k) (k - 4) (L - 1))

-- by demand 2: where stage 0 ends there is a later stage, so Erase is not answered
pub stage-zero-room : (r : Settings) → StagedFacts r → (z : StageZeroEnd r) → (change_call r z.sheet 0).answer ≢ Erase
unfolding S.change_cells
stage-zero-room r f z a = go (S.change r.s r.m r.top 0 (means r f z.sheet)) refl (sym (staged-change r f z.sheet 0) ∙ (erase-tells r z.sheet 0 a).maps)
  where
    go : (q : Result Sheet) → S.change r.s r.m r.top 0 (means r f z.sheet) ≡ q → S.written (back r f) z.sheet q ≡ no_place_left → ⊥
    go (done y) q w = let z : ◌≡◌ {A = ℕ} 0 1 = cc in omega arith
    go no_place_left q w =
        let b : r.m * 2 ^ r.s * r.top ≤ F.levels (means r f z.sheet) + (2 ^ r.s - 1) * (2 * r.top) =
        subst (F.ReplyLaw r.s r.m r.top 0 (means r f z.sheet)) q
        (F.reply-law r.s r.m r.top 0 (omega (arith, two r f)) f.top_least f.stages-least (many r f) (means r f z.sheet) (staged-is r f z.sheet (run-accepted r z.run)).fits) in
        let c : r.m * r.k * r.top ≤ F.levels (means r f z.sheet) + (r.k - 1) * (2 * r.top) =
        subst (λ (k : ℕ). r.m * k * r.top ≤ F.levels (means r f z.sheet) + (k - 1) * (2 * r.top)) f.bits b in
        levels-few r.m r.k r.top (staged-bits r f).0 f.room f.top_least (omega (arith, ap F.levels z.stage, z.levels, (staged-bits r f).0))

-- so whatever the accepted staged settings, one that stops at stage 0 is refused
pub not-stopping : (p : ChangeProgram) → KeepsChange p → (r : Settings) → StagedFacts r → (z : StageZeroEnd r) → GoesOn p r z
not-stopping p kp r f z = goes_on p kp r f z (stage-zero-room r f z)

-- ---- the plain count and the staged guarantee

-- k = 4, L = 1: the two counts are equal for every m, so there demand 2 has to refuse it (not-stopping, not-pretending)
pub counts-equal : (m : ℕ) → 4 ≤ m → (m - 4 + 1) * 4 * 1 + 4 - 1 ≡ m * 4 * 1 - 3 * (2 * 1 + 2 - 1)
counts-equal m h = omega arith

-- so it is for such settings
pub four-counts-equal : (r : Settings) → StagedFacts r → r.k ≡ 4 → r.top ≡ 1 → plain_count r ≡ guarantee r
four-counts-equal r p e f =
    let q : ¬ (3 ≤ r.s) = λ h. omega (arith, pow_mono h, p.bits) in
    let s : r.s ≡ 2 = omega (arith, p.stages-least) in
    let c : (r.m - 4 + 1) * 4 * 1 + 4 - 1 ≡ r.m * 4 * 1 - 3 * (2 * 1 + 2 - 1) = counts-equal r.m (omega (arith, p.room)) in
    rw (guarantee-staged r p, e, f, s) c

-- the staged guarantee is above the plain count, with m = t + k
abbrev Above : ℕ → ℕ → ℕ → ℕ → Type 0
Above s k t L = (t + 1) * k * L + k - 1 < (t + k) * k * L - (k - 1) * (2 * L + s - 1)

-- it is, for every staged k but 4 with L = 1
above-all : (s t L : ℕ) → 2 ≤ s → s ≤ 6 → 1 ≤ L → ((s ≡ 2) × (L ≡ 1)) ⊎ Above s (2 ^ s) t L
above-all zero t L h g l = absurd (omega arith)
above-all (suc zero) t L h g l = absurd (omega arith)
above-all (suc (suc zero)) t L h g l = go (ℕ_discrete L 1)
  where
    go : Dec (L ≡ 1) → (◌≡◌ {A = ℕ} 2 2 × (L ≡ 1)) ⊎ Above 2 4 t L
    go (yes e) = inl (refl, e)
    go (no n) = inr (omega arith)
above-all (suc (suc (suc zero))) t L h g l = inr (omega arith)
above-all (suc (suc (suc (suc zero)))) t L h g l = inr (omega arith)
above-all (suc (suc (suc (suc (suc zero))))) t L h g l = inr (omega arith)
above-all (suc (suc (suc (suc (suc (suc zero)))))) t L h g l = inr (omega arith)
above-all (suc (suc (suc (suc (suc (suc (suc s))))))) t L h g l = absurd (omega arith)

-- whatever the accepted staged settings: k = 4 and L = 1, or the plain count is below the guarantee
pub counts-apart : (r : Settings) → StagedFacts r → ((r.k ≡ 4) × (r.top ≡ 1)) ⊎ (plain_count r < guarantee r)
counts-apart r p = ⊎_elim (λ a. inl (sym p.bits ∙ ap (λ (s : ℕ). 2 ^ s) a.0, a.1)) (λ b. inr (above b)) (above-all r.s (r.m - r.k) r.top p.stages-least p.stages-most p.top_least)
  where
    above : Above r.s (2 ^ r.s) (r.m - r.k) r.top → plain_count r < guarantee r
    above b =
        let c : Above r.s r.k (r.m - r.k) r.top = subst (λ (k : ℕ). Above r.s k (r.m - r.k) r.top) p.bits b in
        let e : r.m - r.k + r.k ≡ r.m = omega (arith, p.room) in
        subst (λ (x : ℕ). plain_count r < x) (sym (guarantee-staged r p)) (subst (λ (m : ℕ). plain_count r < m * r.k * r.top - (r.k - 1) * (2 * r.top + r.s - 1)) e c)
