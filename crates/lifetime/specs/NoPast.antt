-- An accepted staged sheet need not have a past (02, K7 speaks of plain sheets alone): one at a later stage with too few levels in its blocks has none. Assumes nothing.
use Rattle.std.specs.Prelude.{◌≡◌, List, ◌∷◌, ◌++◌, ℕ, ◌+◌, ◌-◌, ◌*◌, ◌%◌, ◌^◌, ◌≤◌, ◌<◌, length, replicate, take}
use Rattle.std.proofs.Math.Path.{refl, subst}
use Rattle.std.proofs.Common.{sym, ◌∙◌, le_refl, arith}
use Rattle.std.proofs.Math.Decide.{ℕ_discrete, dec_le, dec_lt}
use Rattle.rules.specs.Search.{Result, all?, done, first, no_place_left}
use Rattle.rules.specs.Cells.{block, first_above, same?, sum, tabulate}
use Rattle.rules.specs.Plain as R
use Rattle.rules.specs.Stage.{absent?, names?, stage_ok?}
use Rattle.rules.specs.Staged.{Sheet, stage0, staged, change, sheet_ok?}
use Rattle.rules.specs.Staged as S
use Rattle.rules.specs.Batches.{batch, decode, entry_of, number}
use Rattle.rules.specs.Batches as B
use Rattle.rules.specs.Accept.{Genuine, accept, accept_staged, batch_start, genuine?, index_width, reported, same_settings?, stages_of}
use Rattle.rules.specs.AcceptLaws.{StagedFacts, genuine-staged}
use Rattle.rules.specs.BatchLaws.{StageIs, at-batch, at-0, batch_from}
use Rattle.rules.proofs.BatchLaws.{stage-highest}
use Rattle.rules.specs.Calls.{Pass, change_checks, sound?}
use Rattle.rules.specs.declared.Settings.{Settings}
use Rattle.laws.specs.Lists.{rises-sum}
use Rattle.laws.specs.PlainSheet as P
use Rattle.laws.specs.Calls.{Accepted, change-checks, checked-holds}
use Rattle.lifetime.specs.Storage as T
use Rattle.lifetime.specs.Staged as F
use Rattle.lifetime.specs.Change.{back, many, means, stored, Clean}
use Rattle.lifetime.specs.Causes.{StageZero, plain-zero}
use Rattle.lifetime.specs.Run.{run-accepted, staged-runs}
use Rattle.lifetime.specs.Past.{HasPast, past-run}
use Rattle.lifetime.specs.Impostors.{two, even}
use Rattle.lifetime.specs.Pretending.{plain-count, plain_count}

-- at stage 0, or with this many levels in the m blocks
abbrev Raised : ℕ → Sheet → Type 0
Raised c (stage0 xs) = Unit {0}
Raised c (staged d xs es) = c ≤ sum xs

-- so it is with this many levels at any stage
raised-any : (c : ℕ) (x : Sheet) → c ≤ F.levels x → Raised c x
raised-any c (stage0 xs) h = tt
raised-any c (staged d xs es) h = h

-- the m blocks have as many cells at every stage
fits-long : (s m L : ℕ) (x : Sheet) → F.Fits s m L x → length (F.block_cells x) ≡ m * 2 ^ s
fits-long s m L (stage0 xs) w = w.long
fits-long s m L (staged d xs es) w = w.long

module _ (s m L : ℕ) (g : 0 < L) (pos : 1 < s) (two : 1 < 2 ^ s) (even : 2 ^ s * L % 2 ≡ 0) (many : 2 ^ s ≤ m) where
  -- demand 3's plain count
  abbrev count : ℕ
  count = (m - 2 ^ s + 1) * (2 ^ s * L) + (2 ^ s - 1)

  -- a change that leaves stage 0 finds no place there, so the plain count of levels is raised
  leaves-raised : (i : ℕ) → i < 2 ^ s → (xs : List ℕ) → F.Fits s m L (stage0 xs) → (y : Sheet) → change s m L i (stage0 xs) ≡ done y → sum xs ≤ F.levels y → Raised count y
  unfolding change
  leaves-raised i l xs w y e h = go (R.change (2 ^ s) L m i xs) refl e
    where
      go : (q : Result (List ℕ)) → R.change (2 ^ s) L m i xs ≡ q → S.from_stage0 s m L xs (tabulate (2 ^ s) (S.after i (S.read s m L (stage0 xs)))) q ≡ done y → Raised count y
      go (done ys) n e = let z : stage0 ys ≡ y = cc in subst (Raised count) z tt
      go no_place_left n e = raised-any count y (omega (arith, P.no-place-law (2 ^ s) L m (m * 2 ^ s) two g even (le_refl (m * 2 ^ s)) i l xs w many n))

  -- after any run the sheet is at stage 0, or the plain count of levels is raised
  run-raised : {c : ℕ} {x : Sheet} → F.Run s m L c x → Raised count x
  run-raised F.begin = tt
  run-raised (F.more c i x y q l e) =
      let w : F.Fits s m L x = (F.run-law s m L g pos many q).0 in
      let z : F.Changed s m L i x y = subst (F.ReplyLaw s m L i x) e (F.reply-law s m L i l g pos many x w) in
      let h : F.levels x ≤ F.levels y = rises-sum (F.block_cells x) (F.block_cells y) (fits-long s m L x w ∙ sym (fits-long s m L y z.fits)) z.rises in
      go x w e h (run-raised q)
    where
      go : (x : Sheet) → F.Fits s m L x → change s m L i x ≡ done y → F.levels x ≤ F.levels y → Raised count x → Raised count y
      go (stage0 xs) w e h r = leaves-raised i l xs w y e h
      go (staged d xs es) w e h r = raised-any count y (omega (arith, r))

-- at a later stage, with fewer levels in its m blocks than demand 3's plain count, a sheet has no past
pub few-levels : (r : Settings) (xs : List ℕ) → ¬ (StageZero r xs) → sum (take (r.m * r.k) xs) < plain_count r → ¬ (HasPast r xs)
few-levels r xs late l h = go (stage-highest r g z xs) (run-raised r.s r.m r.top p.top_least p.stages-least (two r p) (even r p) (many r p) run)
  where
    g : Genuine r
    g = (run-accepted r (past-run r h.1)).genuine

    z : ¬ (r.kind ≡ 0)
    z e = late (plain-zero r g e xs)

    p : StagedFacts r
    p = genuine-staged r g z

    run : F.Run r.s r.m r.top (length h.0) (means r p xs)
    run = (T.run-law r.s r.m r.top r.n (means r p) (back r p) (Clean r p) (stored r p) p.top_least p.stages-least (many r p) (staged-runs r p (past-run r h.1))).1

    go : {x : Sheet} → StageIs r xs x → Raised ((r.m - 2 ^ r.s + 1) * (2 ^ r.s * r.top) + (2 ^ r.s - 1)) x → ⊥
    go (at-0 n) w = late n
    go (at-batch b q e a n) w = omega (arith, plain-count r p)

-- ---- an example

-- staged, k = 4, L = 1, n = 34: four blocks, and batch 1 from cell 16
abbrev pub staged34 : Settings
staged34 = accept 1 4 1 34

-- a sheet of it: 1111 0000 0000 0000, 100 000 000 000 000 000
abbrev pub five_levels : List ℕ
five_levels = replicate 4 1 ++ (replicate 12 0 ++ (1 ∷ replicate 17 0))

-- every call accepts the sheet, and no run of accepted changes ends in it: its blocks have 4 levels, and 7 are raised before any move
pub staged-no-past : Accepted staged34 five_levels × ¬ (HasPast staged34 five_levels)
unfolding sound? genuine? same_settings? accept_staged stages_of index_width first_above sheet_ok? B.sound? decode batch batch_start reported entry_of number stage_ok? names? absent? all? first same? block ℕ_discrete dec_le dec_lt
staged-no-past = (accepted, few-levels staged34 five_levels late levels)
  where
    passes : change_checks staged34 five_levels 0 ≡ Pass
    passes = refl

    accepted : Accepted staged34 five_levels
    accepted = (checked-holds (change-checks staged34 five_levels 0) passes).0

    late : ¬ (StageZero staged34 five_levels)
    late n = let b : sum (batch_from staged34 five_levels 1) ≡ 1 = refl in omega (arith, n 1 (omega arith) (let s : staged34.s ≡ 2 = refl in omega arith))

    levels : sum (take (staged34.m * staged34.k) five_levels) < plain_count staged34
    levels = let a : sum (take (staged34.m * staged34.k) five_levels) ≡ 4 = refl in let b : plain_count staged34 ≡ 7 = refl in omega arith
