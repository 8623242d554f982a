-- Past stage 0: in some run the sheet moves on to stage 1 straight after the plain count of changes, and there the change of every bit is made, whatever the accepted staged settings. Assumes nothing.
use Rattle.std.specs.Prelude.{◌≡◌, refl, List, [], ◌∷◌, ℕ, suc, ◌+◌, ◌-◌, ◌*◌, ◌^◌, ◌≤◌, ◌<◌, length}
use Rattle.std.proofs.Common.{sym, ◌∙◌, subst, le_of_suc-le-suc, lt_of_not-le, mul-le-mul_right, not-suc-le-zero, arith, pow_pos}
use Rattle.std.proofs.Math.Path.{ap}
use Rattle.std.proofs.Math.Decide.{ℕ_discrete, dec_le}
use Rattle.rules.specs.Search.{pick, first, Result, done, no_place_left}
use Rattle.rules.specs.SearchLaws.{pick_yes}
use Rattle.rules.specs.Cells.{sum, tabulate}
use Rattle.rules.specs.Stage.{Entry, index, closed, indexes, live_weights, Absent, recorded, recorded_entries}
use Rattle.rules.specs.Staged.{Sheet, stage0, staged, parity_length, parity_count, parity_blocks, live_count, index_blocks, later, move_to}
use Rattle.rules.specs.Staged as S
use Rattle.rules.specs.Batches.{decode}
use Rattle.rules.specs.Accept.{accept_staged, stages_of, index_width, accept, Genuine}
use Rattle.rules.specs.AcceptLaws.{StagedFacts, genuine-staged, staged-bits, accept-genuine}
use Rattle.rules.specs.Calls.{change_sheet, settings_call, Outcome, change_call}
use Rattle.rules.specs.Numbers.{marked}
use Rattle.rules.specs.declared.Settings.{Settings}
use Rattle.rules.specs.declared.Setup.{Setup}
use Rattle.rules.specs.declared.Answer.TheVariants.{Done}
use Rattle.rules.specs.Answer.{number_of}
use Rattle.laws.specs.Calls.{Accepted}
use Rattle.laws.specs.Chop.{length-chop, sums-chop}
use Rattle.laws.specs.Kinds.{staged-change}
use Rattle.laws.specs.Lists.{length-tabulate}
use Rattle.laws.specs.Parity.{count-width, half-power}
use Rattle.laws.specs.Stage.{sums, full-sums}
use Rattle.lifetime.specs.Move.{indexes-pad}
use Rattle.lifetime.specs.Storage as T
use Rattle.lifetime.specs.Staged as F
use Rattle.lifetime.specs.Place.{NoPlace, cells-place}
use Rattle.lifetime.specs.Change.{means, back, Clean, many, below, stored, staged-is, done-answered}
use Rattle.lifetime.specs.Run.{counted, Run, call, run-accepted}
use Rattle.lifetime.specs.Programs.{genuine-words, bit_word, EraseProgram, ChangeProgram, KeepsErase, KeepsChange, kept_on, RunOf, own-run}
use Rattle.lifetime.specs.Pretending.{plain_count, StageZeroEnd, stage-zero-ends}

-- ---- a free index after a move

-- what the first entry says is not asked of the others
absent-rest : {A : Type 0} (d : Dec A) (n u : ℕ) (es : List Entry) → Absent n (indexes (pick d closed (index u) ∷ es)) → Absent n (indexes es)
absent-rest (yes e) n u es a = a
absent-rest (no e) n u es a = a.1

-- where more blocks are not full than there are values to record, some index is free
free-left : (W L u : ℕ) (vs : List ℕ) (bs : List (List ℕ)) → length vs < length (live_weights W bs) → ¬ (Absent 0 (indexes (recorded_entries W L u vs bs)))
free-left W L u vs [] = λ l a. not-suc-le-zero l
free-left W L u [] (b ∷ bs) =
    elim (ℕ_discrete (sum b) W) as (λ d. 0 < length (pick d (live_weights W bs) (sum b ∷ live_weights W bs)) → ¬ (Absent 0 (indexes (pick d (recorded_entries W L u [] bs) (index 0 ∷ recorded_entries W L u [] bs))))) [
      | yes e ↦ free-left W L u [] bs
      | no e ↦ λ l a. a.0 refl
    ]
free-left W L u (v ∷ vs) (b ∷ bs) =
    let M : List Entry = pick (ℕ_discrete (sum (recorded L v b)) W) closed (index u) ∷ recorded_entries W L (suc u) vs bs in
    elim (ℕ_discrete (sum b) W) as (λ d. suc (length vs) < length (pick d (live_weights W bs) (sum b ∷ live_weights W bs)) → ¬ (Absent 0 (indexes (pick d (recorded_entries W L u (v ∷ vs) bs) M)))) [
      | yes e ↦ free-left W L u (v ∷ vs) bs
      | no e ↦ λ l a. free-left W L (suc u) vs bs (le_of_suc-le-suc l) (absent-rest (ℕ_discrete (sum (recorded L v b)) W) 0 u (recorded_entries W L (suc u) vs bs) a)
    ]

-- ---- how many parity blocks of stage 1 are not full where stage 0 ends

-- where at most a parity blocks of a stage are not full, the levels miss at most a blocks
live-misses : (s m L d a : ℕ) (xs : List ℕ) → d ≤ s - 1 → 0 < s → length xs ≡ m * 2 ^ s → live_count s m L d xs ≤ a → m * 2 ^ s * L ≤ sum xs + a * (parity_length d * L)
live-misses s m L d a xs h pos long l =
    let W : ℕ = parity_length d * L in
    let c : parity_count s m d * W ≤ sums (parity_blocks s m d xs) + live_count s m L d xs * W =
    subst (λ (n : ℕ). n * W ≤ sums (parity_blocks s m d xs) + live_count s m L d xs * W) (length-chop (parity_length d) (parity_count s m d) xs) (full-sums W (parity_blocks s m d xs)) in
    omega (
      arith,
      c,
      sums-chop (parity_length d) (parity_count s m d) xs (long ∙ sym (count-width s m d h pos)),
      ap (λ (x : ℕ). x * L) (count-width s m d h pos),
      mul-le-mul_right {m = live_count s m L d xs} {n = a} W l,
    )

-- with m = t + k, k / 2 = j + 2 and L = l + 1: the levels where stage 0 ends miss more than k blocks of k / 2 cells
misses_more : (t j l : ℕ) → ¬ ((t + 2 * (j + 2)) * (2 * (j + 2)) * (l + 1) ≤ (t + 1) * (2 * (j + 2)) * (l + 1) + 2 * (j + 2) - 1 + 2 * (j + 2) * ((j + 2) * (l + 1)))
misses_more t j l h = omega arith

-- so they do for any m, k / 2 and L of a staged sheet
misses-many : (m h L : ℕ) → 2 ≤ h → 2 * h ≤ m → 1 ≤ L → ¬ (m * (2 * h) * L ≤ (m - 2 * h + 1) * (2 * h) * L + 2 * h - 1 + 2 * h * (h * L))
misses-many m h L p g l =
    let e : h - 2 + 2 ≡ h = omega arith in
    let e₁ : L - 1 + 1 ≡ L = omega arith in
    let e₂ : m - 2 * h + 2 * h ≡ m = omega arith in
    rw (e, e₁, e₂) at (misses_more (m - 2 * h) (h - 2) (L - 1))

-- k is twice the cells of a parity block of stage 1
half_twice : (s : ℕ) → 2 ≤ s → 2 * parity_length (s - 2) ≡ 2 ^ s
half_twice s h =
    let e : s - 1 - 1 ≡ s - 2 = omega arith in
    omega (arith, half-power s (omega arith), half-power (s - 1) (omega arith), ap (λ (x : ℕ). 2 ^ x) e)

-- more than k of them are not full
live-many : (s m L : ℕ) (xs : List ℕ) → 2 ≤ s → 1 ≤ L → 2 ^ s ≤ m → length xs ≡ m * 2 ^ s → sum xs ≡ (m - 2 ^ s + 1) * 2 ^ s * L + 2 ^ s - 1 → 2 ^ s < live_count s m L (s - 2) xs
live-many s m L xs h g room long levels = lt_of_not-le λ l.
    let e : 2 * parity_length (s - 2) ≡ 2 ^ s = half_twice s h in
    let c : m * 2 ^ s * L ≤ (m - 2 ^ s + 1) * 2 ^ s * L + 2 ^ s - 1 + 2 ^ s * (parity_length (s - 2) * L) =
    subst (λ (x : ℕ). m * 2 ^ s * L ≤ x + 2 ^ s * (parity_length (s - 2) * L)) levels (live-misses s m L (s - 2) (2 ^ s) xs (omega arith) (omega arith) long l) in
    misses-many m (parity_length (s - 2)) L (omega (arith, pow_pos (s - 2))) (omega arith) g
    (subst (λ (k : ℕ). m * k * L ≤ (m - k + 1) * k * L + k - 1 + k * (parity_length (s - 2) * L)) (sym e) c)

-- so the search for a later stage ends at stage 1
later-next : (s m L : ℕ) (xs vs : List ℕ) → 2 ≤ s → 2 ^ s < live_count s m L (s - 2) xs → later s m L (s - 1) xs vs ≡ done (move_to s m L (s - 2) xs vs)
later-next s m L xs vs h l =
    let e : s - 1 ≡ suc (s - 2) = omega arith in
    ap (λ (d : ℕ). later s m L d xs vs) e ∙ pick_yes (dec_le (2 ^ s) (live_count s m L (s - 2) xs)) _ _ (omega arith)

-- and the sheet moved there has a place for every bit
moved-place : (s m L d i : ℕ) (xs vs : List ℕ) → length vs < live_count s m L d xs → ¬ (NoPlace s m L i (move_to s m L d xs vs))
moved-place s m L d i xs vs l n =
    let W : ℕ = parity_length d * L in
    free-left W L 1 vs (parity_blocks s m d xs) l (subst (Absent 0) (indexes-pad (index_blocks s - live_count s m L d xs) (recorded_entries W L 1 vs (parity_blocks s m d xs))) n.0.1)

-- ---- one change further

-- one change after stage 0 has ended: the sheet is at stage 1, and the change of every bit there is made
pub record StageOne (r : Settings) : Type 0 where
  pub sheet : List ℕ
  pub run : Run r (suc (plain_count r)) sheet
  -- stage 1, which has s - 2 stages left
  pub blocks : List ℕ
  pub entries : List Entry
  pub stage : decode r.s r.m r.top r.w sheet ≡ staged (r.s - 2) blocks entries
  -- a change of any bit is answered Done
  pub raised : (i : ℕ) → i < r.k → ℕ
  pub made : (i : ℕ) (l : i < r.k) → (change_call r sheet i).answer ≡ Done (raised i l)

-- where stage 0 ends, the change of bit 0 moves the sheet to stage 1
module _ (r : Settings) (f : StagedFacts r) (z : StageZeroEnd r) where
  -- the values recorded: those after the change
  abbrev values : List ℕ
  values = tabulate (2 ^ r.s) (S.after 0 (S.read r.s r.m r.top (stage0 z.blocks)))

  -- the sheet of stage 1
  abbrev next : Sheet
  next = move_to r.s r.m r.top (r.s - 2) z.blocks values

  -- and its cells
  abbrev cells : List ℕ
  cells = back r f z.sheet next

  -- bit 0 exists
  bit : 0 < r.k
  bit = omega (arith, (staged-bits r f).0)

  -- the sheet where stage 0 ends, as the laws of the stages have it
  ended : T.Accepted r.s r.m r.top (means r f) (back r f) r.n (Clean r f) z.sheet
  ended = staged-is r f z.sheet (run-accepted r z.run)

  -- more than k parity blocks are not full there
  room : 2 ^ r.s < live_count r.s r.m r.top (r.s - 2) z.blocks
  room =
      let a : F.Fits r.s r.m r.top (stage0 z.blocks) = subst (F.Fits r.s r.m r.top) z.stage ended.fits in
      live-many r.s r.m r.top z.blocks f.stages-least f.top_least (many r f) a.long
      (z.levels ∙ ap (λ (k : ℕ). (r.m - k + 1) * k * r.top + k - 1) (sym f.bits))

  -- the staged map moves
  moves : S.change r.s r.m r.top 0 (means r f z.sheet) ≡ done next
  unfolding S.change
  moves =
      ap (S.change r.s r.m r.top 0) z.stage
      ∙ ap (S.from_stage0 r.s r.m r.top z.blocks values) z.stuck
      ∙ later-next r.s r.m r.top z.blocks values f.stages-least room

  -- so the call makes the cells
  written : change_sheet r z.sheet 0 ≡ done cells
  unfolding S.change_cells
  written = staged-change r f z.sheet 0 ∙ ap (S.written (back r f) z.sheet) moves

  -- which mean the sheet of stage 1
  cells-mean : means r f cells ≡ next
  cells-mean =
      let h : F.Changed r.s r.m r.top 0 (means r f z.sheet) next =
      subst (F.ReplyLaw r.s r.m r.top 0 (means r f z.sheet)) moves
      (F.reply-law r.s r.m r.top 0 (below r f bit) f.top_least f.stages-least (many r f) (means r f z.sheet) ended.fits) in
      (stored r f).back z.sheet ended.long ended.clean next h.fits h.onward

  -- and are one change further
  further : Run r (suc (plain_count r)) cells
  further = subst (λ (o : Outcome). Run r (counted o.answer (plain_count r)) o.sheet) (done-answered r z.sheet cells 0 (run-accepted r z.run) bit written) (call (plain_count r) 0 z.sheet z.run)

  -- the change of any bit is made on them
  all_made : (i : ℕ) → i < r.k → (v : ℕ) × ((change_call r cells i).answer ≡ Done v)
  all_made i l = go (change_sheet r cells i) refl
    where
      go : (q : Result (List ℕ)) → change_sheet r cells i ≡ q → (v : ℕ) × ((change_call r cells i).answer ≡ Done v)
      go (done ys) e = (sum ys - sum cells, ap (λ (o : Outcome). o.answer) (done-answered r cells ys i (run-accepted r further) l e))
      go no_place_left e =
          let n : NoPlace r.s r.m r.top i (means r f cells) = (cells-place r.s r.m r.top (means r f) (back r f) i cells).0 (sym (staged-change r f cells i) ∙ e) in
          absurd (moved-place r.s r.m r.top (r.s - 2) i z.blocks values
          (subst (λ (x : ℕ). x < live_count r.s r.m r.top (r.s - 2) z.blocks) (sym (length-tabulate (2 ^ r.s) _)) room)
          (subst (NoPlace r.s r.m r.top i) cells-mean n))

-- whatever the accepted staged settings, there is such a sheet
pub stage-one : (r : Settings) → Genuine r → ¬ (r.kind ≡ 0) → StageOne r
stage-one r g h =
    let f : StagedFacts r = genuine-staged r g h in
    let z : StageZeroEnd r = stage-zero-ends r f g in
    record {
      sheet = cells r f z;
      run = further r f z;
      blocks = _;
      entries = _;
      stage = cells-mean r f z;
      raised = λ i l. (all_made r f z i l).0;
      made = λ i l. (all_made r f z i l).1;
    }

-- ---- some staged settings are accepted

-- 01's sheet of 28
pub some-staged : Genuine (accept 1 4 2 28)
unfolding settings_call
some-staged = accept-genuine 1 4 2 28 (subst (λ (x : ℕ). 0 < x) (sym (ap (λ (x : Setup). x.settings.k) marked.twenty_eight)) (omega arith))

-- k = 4 with L = 1, where the plain count is the guarantee
pub four-one : Genuine (accept 1 4 1 34)
unfolding accept_staged stages_of index_width first ℕ_discrete dec_le
four-one = accept-genuine 1 4 1 34 (let e : (accept 1 4 1 34).k ≡ 4 = refl in omega arith)

-- ---- one that is right at stage 0, moves, and then only answers Erase

-- what such programs do on that sheet: they get there in a run of their own, and answer Done to a change of every bit
pub record GoesFurther (e : EraseProgram) (p : ChangeProgram) (r : Settings) (z : StageOne r) : Type 0 where
  pub run : RunOf e p r (suc (plain_count r)) z.sheet
  pub done : (i : ℕ) → i < r.k → (p r z.sheet i).number ≡ 0

-- whatever the accepted staged settings, k = 4 with L = 1 too, a program that keeps the promises gets to that sheet and answers Done there to a change of every bit
pub not-stopping-later : (e : EraseProgram) (p : ChangeProgram) → KeepsErase e → KeepsChange p → (r : Settings) (z : StageOne r) → GoesFurther e p r z
not-stopping-later e p ke kp r z =
    let a : Accepted r z.sheet = run-accepted r z.run in
    record {
      run = own-run e p ke kp r (genuine-words r a.genuine) z.run;
      done = λ i l. (kept_on p kp r z.sheet i a (bit_word r a.genuine l)).number ∙ ap number_of (z.made i l);
    }
