-- Every accepted plain sheet has a past (02, K7): the checks pass on a sheet if and only if some run of accepted changes from an erased one ends in it. Assumes nothing.
-- That an accepted staged sheet has a past is not claimed: NoPast.antt has one that has none.
use Rattle.std.specs.Prelude.{◌≡◌, refl, ◌↔◌, ◌⊎◌, List, [], ◌∷◌, ◌++◌, ℕ, suc, ◌≤◌, ◌<◌, length, replicate}
use Rattle.std.proofs.Common.{sym, ap, ◌∙◌, subst, inl, inr, ⊎_elim, arith, length-append}
use Rattle.std.proofs.Math.Logic.Iff
use Rattle.std.proofs.lemmas.List.{length-replicate}
use Rattle.rules.specs.Search.{Result, done, no_place_left}
use Rattle.rules.specs.Cells.{sum}
use Rattle.rules.specs.Plain.{states}
use Rattle.rules.specs.Accept.{Genuine, guarantee}
use Rattle.rules.specs.Answer.{number_of}
use Rattle.rules.specs.AnswerLaws.{zero-done}
use Rattle.rules.specs.AcceptLaws.{PlainFacts, genuine-plain}
use Rattle.rules.specs.Calls.{Pass, Sound, change_sheet, Outcome, erase_call, change_checks, change_call, Reading, read_checks, read_call}
use Rattle.rules.specs.declared.Settings.{Settings}
use Rattle.rules.specs.declared.Answer.{Answer}
use Rattle.rules.specs.declared.Answer.TheVariants.{Done, Erase, BadSheet}
use Rattle.laws.specs.Calls.{Accepted, change-checks, change-passes, checked-holds, read-checks, read-passes}
use Rattle.lifetime.specs.Before.{past}
use Rattle.lifetime.specs.Change.{change-made, done-answered, erase-answered, erase-tells, plain-is}
use Rattle.lifetime.specs.Refusals.{erase-gives, read-done-places, read-gives}
use Rattle.lifetime.specs.Causes.{StageZero, NewCause, packed-cause, accepted-packed, LevelsPass, whole, read-breaks, change-breaks}
use Rattle.lifetime.specs.Run.{Run, begin, call, counted, runs, run-accepted, levels-sum, maps-run}
use Rattle.lifetime.specs.Programs.{Bytes, Words, EraseProgram, ChangeProgram, ReadProgram, KeepsErase, KeepsChange, KeepsRead, RunOf, run_by, run_of, own-run}

-- ---- runs of accepted changes

-- the sheet that an erase leaves, and these bits changed in turn, each change answered Done: that ends in xs
pub data Past (r : Settings) : List ℕ → List ℕ → Type 0 where
  start : (v : ℕ) (xs : List ℕ) → (erase_call r xs).answer ≡ Done v → Past r [] (erase_call r xs).sheet
  step : (bits : List ℕ) (i v : ℕ) (xs : List ℕ) → Past r bits xs → (change_call r xs i).answer ≡ Done v → Past r (bits ++ (i ∷ [])) (change_call r xs i).sheet

-- some run of accepted changes from the erased sheet ends in xs
abbrev pub HasPast : Settings → List ℕ → Type 0
HasPast r xs = (bits : List ℕ) × Past r bits xs

-- some run of c accepted changes from the erased sheet ends in xs
abbrev pub PastOf : Settings → ℕ → List ℕ → Type 0
PastOf r c xs = (bits : List ℕ) × (length bits ≡ c) × Past r bits xs

-- a bit more is a change more
length_more : (bits : List ℕ) (i : ℕ) → length (bits ++ (i ∷ [])) ≡ suc (length bits)
length_more bits i = omega (arith, length-append bits (i ∷ []))

-- of either kind: a run of accepted changes is a run of calls
pub past-run : (r : Settings) {bits xs : List ℕ} → Past r bits xs → Run r (length bits) xs
past-run r (start v xs e) = begin v xs e
past-run r (step bits i v xs q e) =
    subst (λ (c : ℕ). Run r c (change_call r xs i).sheet) (ap (λ (a : Answer). counted a (length bits)) e ∙ sym (length_more bits i)) (call (length bits) i xs (past-run r q))

-- of either kind: where a run of calls ends, refused ones in it, some run of as many accepted changes ends
pub run_past : (r : Settings) {c : ℕ} {xs : List ℕ} → Run r c xs → PastOf r c xs
run_past r = runs r (PastOf r) blank more
  where
    blank : Genuine r → PastOf r 0 (replicate r.n 0)
    blank g =
        let e : erase_call r (replicate r.n 0) ≡ record { answer = Done (guarantee r); sheet = replicate r.n 0 } = erase-gives r (replicate r.n 0) g (length-replicate r.n 0) in
        ([], refl, subst (Past r []) (ap (λ (o : Outcome). o.sheet) e) (start (guarantee r) (replicate r.n 0) (ap (λ (o : Outcome). o.answer) e)))

    more : (c i : ℕ) (xs ys : List ℕ) → PastOf r c xs → Accepted r xs → i < r.k → change_sheet r xs i ≡ done ys → PastOf r (suc c) ys
    more c i xs ys (bits, n, q) a l e =
        let o = done-answered r xs ys i a l e in
        (bits ++ (i ∷ []), length_more bits i ∙ ap suc n, subst (Past r (bits ++ (i ∷ []))) (ap (λ (x : Outcome). x.sheet) o) (step bits i _ xs q (ap (λ (x : Outcome). x.answer) o)))

-- of either kind: c changes were accepted in some run of calls that ends in xs exactly if some run of c accepted changes ends in it
pub run-exactly : (r : Settings) (c : ℕ) (xs : List ℕ) → Run r c xs ↔ PastOf r c xs
run-exactly r c xs = (run_past r, λ q. subst (λ (n : ℕ). Run r n xs) q.1 (past-run r q.2))

-- plain: a sheet is accepted exactly if it has a past
pub has-past : (r : Settings) → r.kind ≡ 0 → (xs : List ℕ) → Accepted r xs ↔ HasPast r xs
has-past r z xs = (
  λ a. let p : PlainFacts r = genuine-plain r a.genuine z in
      let h : PastOf r (sum xs) xs = run_past r (maps-run r p a.genuine (past r.k r.top r.m r.n p.bits-least p.top_least p.even p.inside (sum xs) xs (plain-is r p xs a) refl)) in
      (h.0, h.2),
  λ h. run-accepted r (past-run r h.1),
)

-- ---- over whole calls

module _ (r : Settings) (z : r.kind ≡ 0) (xs : List ℕ) where
  -- the checks of a change of an existing bit pass exactly if the sheet has a past
  pub change-past : (i : ℕ) → i < r.k → (change_checks r xs i ≡ Pass) ↔ HasPast r xs
  change-past i l = Iff.trans (λ e. (checked-holds (change-checks r xs i) e).0, λ a. change-passes r xs i a l) (has-past r z xs)

  -- the checks of a reading into k places or more pass exactly if the sheet has a past
  pub read_past : (out : List ℕ) → r.k ≤ length out → (read_checks r xs out ≡ Pass) ↔ HasPast r xs
  read_past out l = Iff.trans (λ e. (checked-holds (read-checks r xs out) e).0, λ a. read-passes r xs out a l) (has-past r z xs)

-- ---- with the number of changes

-- plain: a run of accepted changes has as many as the levels sum to
pub past-sum : (r : Settings) → r.kind ≡ 0 → {bits xs : List ℕ} → Past r bits xs → length bits ≡ sum xs
past-sum r z q = sym (levels-sum r z (past-run r q))

-- plain: some run of accepted changes ends in the sheet exactly if one of that many does
pub past-counted : (r : Settings) → r.kind ≡ 0 → (xs : List ℕ) → HasPast r xs ↔ PastOf r (sum xs) xs
past-counted r z xs = (λ h. (h.0, past-sum r z h.1, h.1), λ h. (h.0, h.2))

module _ (r : Settings) (z : r.kind ≡ 0) (xs : List ℕ) where
  -- the checks of a change of an existing bit pass exactly if some run of as many changes as the levels sum to ends in the sheet
  pub change-past-sum : (i : ℕ) → i < r.k → (change_checks r xs i ≡ Pass) ↔ PastOf r (sum xs) xs
  change-past-sum i l = Iff.trans (change-past r z xs i l) (past-counted r z xs)

  -- the checks of a reading into k places or more pass exactly if some run of as many changes as the levels sum to ends in the sheet
  pub read-past-sum : (out : List ℕ) → r.k ≤ length out → (read_checks r xs out ≡ Pass) ↔ PastOf r (sum xs) xs
  read-past-sum out l = Iff.trans (read_past r z xs out l) (past-counted r z xs)

-- ---- by the answers

module _ (r : Settings) (z : r.kind ≡ 0) (xs : List ℕ) where
  -- a reading into k places or more is answered Done exactly if the sheet has a past
  pub done-past : (out : List ℕ) → r.k ≤ length out → (number_of (read_call r xs out).answer ≡ 0) ↔ HasPast r xs
  done-past out l = Iff.trans (
    λ e. (read-done-places r xs out _ (zero-done (read_call r xs out).answer e)).accepted,
    λ a. ap (λ (o : Reading). number_of o.answer) (read-gives r xs out a l),
  ) (has-past r z xs)

  -- a change of an existing bit is answered Done or Erase exactly if the sheet has a past
  pub answered-past : (i : ℕ) → i < r.k → (((v : ℕ) × ((change_call r xs i).answer ≡ Done v)) ⊎ ((change_call r xs i).answer ≡ Erase)) ↔ HasPast r xs
  answered-past i l = Iff.trans (⊎_elim (λ h. (change-made r xs i h.0 h.1).accepted) (λ h. (erase-tells r xs i h).accepted), λ a. given a (change_sheet r xs i) refl) (has-past r z xs)
    where
      given : Accepted r xs → (q : Result (List ℕ)) → change_sheet r xs i ≡ q → ((v : ℕ) × ((change_call r xs i).answer ≡ Done v)) ⊎ ((change_call r xs i).answer ≡ Erase)
      given a (done ys) e = inl (_, ap (λ (o : Outcome). o.answer) (done-answered r xs ys i a l e))
      given a no_place_left e = inr (erase-answered r xs i a l e)

  module _ (a : LevelsPass r xs) where
    -- where checks 1, 2 and 5 pass, the sheet rules are broken exactly if the sheet has no past
    no-past : ¬ (Sound r xs) ↔ ¬ (HasPast r xs)
    no-past = (λ n h. n ((has-past r z xs).1 h).sound, λ n s. n ((has-past r z xs).0 (whole r xs a s)))

    -- where checks 1, 2 and 5 pass, a reading into k places or more answers BadSheet exactly if the sheet has no past
    pub read-no-past : (out : List ℕ) → r.k ≤ length out → ((read_call r xs out).answer ≡ BadSheet) ↔ ¬ (HasPast r xs)
    read-no-past out l = Iff.trans (read-breaks r xs a out l) no-past

    -- where checks 1, 2 and 5 pass, a change of an existing bit answers BadSheet exactly if the sheet has no past
    pub change-no-past : (i : ℕ) → i < r.k → ((change_call r xs i).answer ≡ BadSheet) ↔ ¬ (HasPast r xs)
    change-no-past i l = Iff.trans (change-breaks r xs a i l) no-past

-- of either kind at stage 0: a sheet that breaks one of K3's two rules has no past
pub new-cause-no-past : (r : Settings) (xs : List ℕ) → StageZero r xs → NewCause r xs → ¬ (HasPast r xs)
new-cause-no-past r xs z w h = (packed-cause r.k r.m (states r.k r.top xs)).1 w (accepted-packed r xs (run-accepted r (past-run r h.1)) z)

-- ---- programs that keep the promises

-- plain: a reading program answers Done exactly if the sheet could be the writer's: some run of the erasing and the changing program ends in it
pub writers : (e : EraseProgram) (p : ChangeProgram) (q : ReadProgram) → KeepsErase e → KeepsChange p → KeepsRead q → (r : Settings) → Words r → r.kind ≡ 0 → (xs out : List ℕ) → Bytes xs → Bytes out → r.k ≤ length out →
    ((q r xs out).number ≡ 0) ↔ ((c : ℕ) × RunOf e p r c xs)
writers e p q ke kp kq r wr z xs out b bo l =
    let n : (q r xs out).number ≡ number_of (read_call r xs out).answer = (kq r xs out wr b bo).number in
    let d = done-past r z xs out l in (
      λ h. let s = d.0 (sym n ∙ h) in (length s.0, own-run e p ke kp r wr (past-run r s.1)),
      λ h. let s = run_past r (run_by r (run_of e p ke kp r wr h.1)) in n ∙ d.1 (s.0, s.2),
    )
