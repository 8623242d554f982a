-- Demand 3: how many changes are accepted before the first Erase, for every run of calls from an erased sheet. Assumes nothing.
use Rattle.std.specs.Prelude.{◌≡◌, List, ℕ, suc, ◌+◌, ◌-◌, ◌*◌, ◌^◌, ◌≤◌, ◌<◌, replicate}
use Rattle.std.proofs.Common.{sym, ap, ◌∙◌, subst, ⊎_elim, arith}
use Rattle.std.proofs.lemmas.List.{length-replicate}
use Rattle.rules.specs.Search.{done}
use Rattle.rules.specs.Cells.{sum}
use Rattle.rules.specs.Accept.{Genuine, guarantee}
use Rattle.rules.specs.Answer.{sort_of, if_made}
use Rattle.rules.specs.AnswerLaws.{not_made, refusal-not}
use Rattle.rules.specs.AcceptLaws.{PlainFacts, StagedFacts, genuine-facts, genuine-plain}
use Rattle.rules.specs.GuaranteeLaws.{guarantee-plain, guarantee-staged}
use Rattle.rules.specs.Calls.{Check, Pass, change_sheet, Outcome, erase_checks, erasing, erase_call, change_call}
use Rattle.rules.specs.declared.Settings.{Settings}
use Rattle.rules.specs.declared.Answer.{Answer}
use Rattle.rules.specs.declared.Answer.TheVariants.{Done, Erase}
use Rattle.laws.specs.PlainSheet as P
use Rattle.lifetime.specs.Storage as T
use Rattle.lifetime.specs.Tight as E
use Rattle.laws.specs.Calls.{Accepted, Refusal, Making, refuses, erases, makes, change-is, Erasing, refusing, clears, erase-is, erase-passes}
use Rattle.laws.specs.Kinds.{plain-change, staged-change}
use Rattle.lifetime.specs.Change.{is_plain, many, stored, means, back, Clean, below, erase-tells, NoRoom, erase-answered, done-answered, sheet-changed, erased-accepted}

-- one more for an accepted change, none for any other answer
abbrev pub counted : Answer → ℕ → ℕ
counted a c = if_made (sort_of a) (suc c) c

-- c changes were accepted since the sheet was erased, in any run of change calls, and it is now xs
pub data Run (r : Settings) : ℕ → List ℕ → Type 0 where
  begin : (v : ℕ) (xs : List ℕ) → (erase_call r xs).answer ≡ Done v → Run r 0 (erase_call r xs).sheet
  call : (c i : ℕ) (xs : List ℕ) → Run r c xs → Run r (counted (change_call r xs i).answer c) (change_call r xs i).sheet

-- a refusal adds nothing
refusal-none : (a : Answer) (c : ℕ) → Refusal a → counted a c ≡ c
refusal-none a c q = not_made (sort_of a) (suc c) c (refusal-not (sort_of a) q)

-- ---- a run of calls is a run of the maps

-- what holds of the erased sheet, and is kept by every change of the maps, holds after every run
module _ (r : Settings) (Q : ℕ → List ℕ → Type 0) (blank : Genuine r → Q 0 (replicate r.n 0))
    (step : (c i : ℕ) (xs ys : List ℕ) → Q c xs → Accepted r xs → i < r.k → change_sheet r xs i ≡ done ys → Q (suc c) ys) where
  begun : (v : ℕ) (xs : List ℕ) {o : Outcome} → Erasing r xs o → o.answer ≡ Done v → Q 0 o.sheet
  begun v xs (refusing a q) e = absurd (subst Refusal e q)
  begun v xs (clears g n) e = blank g

  called : (c i : ℕ) (xs : List ℕ) → Q c xs → {o : Outcome} → Making r xs i o → Q (counted o.answer c) o.sheet
  called c i xs q (refuses a h) = subst (λ (x : ℕ). Q x xs) (sym (refusal-none a c h)) q
  called c i xs q (erases a l n) = q
  called c i xs q (makes ys a l n) = step c i xs ys q a l n

  pub runs : {c : ℕ} {xs : List ℕ} → Run r c xs → Q c xs
  runs (begin v xs e) = begun v xs (erase-is r xs) e
  runs (call c i xs q) = called c i xs (runs q) (change-is r xs i)

-- the erased sheet begins a run
pub blank-run : (r : Settings) → Genuine r → Run r 0 (replicate r.n 0)
unfolding erase_call
blank-run r g =
    let e : erase_checks r (replicate r.n 0) ≡ Pass = erase-passes r (replicate r.n 0) g (length-replicate r.n 0) in
    subst (λ (xs : List ℕ). Run r 0 xs) (ap (λ (c : Check). (erasing r (replicate r.n 0) c).sheet) e)
    (begin (guarantee r) (replicate r.n 0) (ap (λ (c : Check). (erasing r (replicate r.n 0) c).answer) e))

-- a run that is answered Erase after as many changes as are guaranteed
pub record Met (r : Settings) : Type 0 where
  pub sheet : List ℕ
  pub run : Run r (guarantee r) sheet
  pub erase : (change_call r sheet 0).answer ≡ Erase

-- ---- kind 0

module _ (r : Settings) (p : PlainFacts r) where
  abbrev Maps : ℕ → List ℕ → Type 0
  Maps = P.Run r.k r.top r.m r.n

  plain_runs : {c : ℕ} {xs : List ℕ} → Run r c xs → Maps c xs
  plain_runs = runs r Maps (λ g. P.begin) (λ c i xs ys q a l e. P.more c i xs ys q l (sym (plain-change r p xs i) ∙ e))

  plain-sums : {c : ℕ} {xs : List ℕ} → Run r c xs → sum xs ≡ c
  plain-sums q = (P.run-law r.k r.top r.m r.n p.bits-least p.top_least p.even p.inside (plain_runs q)).1

  plain-late : (c i : ℕ) (xs : List ℕ) → Run r c xs → (change_call r xs i).answer ≡ Erase → guarantee r ≤ c
  plain-late c i xs q e =
      let h : NoRoom r xs i (change_call r xs i).sheet = erase-tells r xs i e in
      let z : (r.m - r.k + 1) * (r.k * r.top) + (r.k - 1) ≤ c =
      P.plain-late r.k r.top r.m r.n p.bits-least p.top_least p.even p.inside p.room c i xs (plain_runs q) h.bit (sym (plain-change r p xs i) ∙ h.maps) in
      omega (arith, guarantee-plain r p, p.bits-least)

  -- a run of the maps is a run of calls
  pub maps-run : Genuine r → {c : ℕ} {xs : List ℕ} → Maps c xs → Run r c xs
  maps-run g P.begin = blank-run r g
  maps-run g (P.more c i xs ys q l e) =
      let a : Accepted r xs = is_plain r p xs g (P.run-law r.k r.top r.m r.n p.bits-least p.top_least p.even p.inside q).0 in
      subst (λ (o : Outcome). Run r (counted o.answer c) o.sheet) (done-answered r xs ys i a l (plain-change r p xs i ∙ e)) (call c i xs (maps-run g q))

  -- a run of exactly as many changes as are guaranteed, after which bit 0 is answered Erase
  plain-met : Genuine r → Met r
  plain-met g =
      let e : E.End r.k r.top r.m r.n p.bits-least p.top_least p.even p.inside p.room =
      E.tight r.k r.top r.m r.n p.bits-least p.top_least p.even p.inside p.room in
      let h : (r.m - r.k + 1) * (r.k * r.top) + (r.k - 1) ≡ guarantee r = omega (arith, guarantee-plain r p, p.bits-least) in
      let a : Accepted r e.xs = is_plain r p e.xs g (P.run-law r.k r.top r.m r.n p.bits-least p.top_least p.even p.inside e.run).0 in
      record {
        sheet = e.xs;
        run = subst (λ (x : ℕ). Run r x e.xs) h (maps-run g e.run);
        erase = erase-answered r e.xs 0 a (omega (arith, p.bits-least)) (plain-change r p e.xs 0 ∙ e.out);
      }

-- ---- kind 1

module _ (r : Settings) (p : StagedFacts r) where
  abbrev StagedMaps : ℕ → List ℕ → Type 0
  StagedMaps = T.Run r.s r.m r.top (means r p) (back r p) r.n

  pub staged-runs : {c : ℕ} {xs : List ℕ} → Run r c xs → StagedMaps c xs
  staged-runs = runs r StagedMaps (λ g. T.begin) (λ c i xs ys q a l e. T.more c i xs ys q (below r p l) (sym (staged-change r p xs i) ∙ e))

  staged-late : (c i : ℕ) (xs : List ℕ) → Run r c xs → (change_call r xs i).answer ≡ Erase → guarantee r ≤ c
  staged-late c i xs q e =
      let h : NoRoom r xs i (change_call r xs i).sheet = erase-tells r xs i e in
      let z : r.m * 2 ^ r.s * r.top - (2 ^ r.s - 1) * (2 * r.top + (r.s - 1)) ≤ c =
      T.staged-late r.s r.m r.top r.n (means r p) (back r p) (Clean r p) (stored r p) p.top_least p.stages-least (many r p) c i xs (staged-runs q) (below r p h.bit) (sym (staged-change r p xs i) ∙ h.maps) in
      let y : r.m * r.k * r.top - (r.k - 1) * (2 * r.top + (r.s - 1)) ≤ c = subst (λ (k : ℕ). r.m * k * r.top - (k - 1) * (2 * r.top + (r.s - 1)) ≤ c) p.bits z in
      let w : 2 * r.top + r.s - 1 ≡ 2 * r.top + (r.s - 1) = omega (arith, p.stages-least) in
      subst (λ (x : ℕ). x ≤ c) (sym (guarantee-staged r p ∙ ap (λ (x : ℕ). r.m * r.k * r.top - (r.k - 1) * x) w)) y

-- ---- demand 3

-- every sheet in a run is accepted
pub run-accepted : (r : Settings) {c : ℕ} {xs : List ℕ} → Run r c xs → Accepted r xs
run-accepted r q = runs r (λ c xs. Accepted r xs) (λ g. erased-accepted r g) (λ c i xs ys a _ l e. (sheet-changed r i xs ys a l e).stays) q

-- plain: the levels sum to the number of changes accepted
pub levels-sum : (r : Settings) → r.kind ≡ 0 → {c : ℕ} {xs : List ℕ} → Run r c xs → sum xs ≡ c
levels-sum r e q = plain-sums r (genuine-plain r (run-accepted r q).genuine e) q

-- either kind: Erase is not answered before as many changes were accepted as are guaranteed
pub erase-late : (r : Settings) (c i : ℕ) (xs : List ℕ) → Run r c xs → (change_call r xs i).answer ≡ Erase → guarantee r ≤ c
erase-late r c i xs q e = ⊎_elim (λ p. plain-late r p c i xs q e) (λ p. staged-late r p c i xs q e) (genuine-facts r (run-accepted r q).genuine)

-- plain: some run is answered Erase straight after that many
pub guarantee-met : (r : Settings) → Genuine r → r.kind ≡ 0 → Met r
guarantee-met r g e = plain-met r (genuine-plain r g e) g
