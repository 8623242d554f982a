-- Laws of a change once every check has passed: the plan by the kind of the sheet, and what it comes to carried out. Assumes nothing.
use Rattle.std.specs.Prelude.{List, [], ◌∷◌, ◌≢◌, ◌≡◌, refl, Option, ℕ, ◌+◌, ◌-◌, ◌≤◌, ◌<◌}
use Rattle.std.proofs.Common.{sym, ap, ◌∙◌, subst, arith}
use types.Run.{OneOf, miss}
use denote.Enum.Declared.{tag_of}
use Rattle.plan.specs.contracts.Plan.{the_type}
use Rattle.laws.specs.Block.{length-cycle, sum-cycle}
use Rattle.laws.specs.Cut.{store-sum}
use Rattle.rules.specs.Accept.{Genuine}
use Rattle.rules.specs.AcceptLaws.{CommonFacts, PlainFacts, StagedFacts, genuine-plain, genuine-staged, plain-common, staged-common}
use Rattle.rules.specs.Block.{cycle}
use Rattle.rules.specs.Calls.{Sound, outcome}
use Rattle.rules.specs.Cells.{store, sum}
use Rattle.rules.specs.Search.{done}
use Rattle.rules.specs.Staged.{after}
use Rattle.rules.specs.declared.Answer.TheVariants.{Done, Erase}
use Rattle.rules.specs.declared.Settings.{Settings}
use Rattle.plain.specs.Meaning.{PlainLook, plan_in}
use Rattle.plain.specs.SheetLaws.{plain-planned}
use Rattle.plan.specs.Laws.{look-map, made-done, made_none}
use Rattle.plan.specs.Meaning as W
use Rattle.plan.specs.Meaning.{Fits, Levelled, Planned, StepFits, carried, carried_out, from_sheet, value_in}
use Rattle.plan.specs.declared.Look.{Look}
use Rattle.plan.specs.declared.Place.{Place}
use Rattle.plan.specs.declared.Plan.{Plan}
use Rattle.plan.specs.declared.Plan.TheVariants.{Close, Move, Nowhere, Raise, Step, Take}
use Rattle.staged.specs.Meaning.{StagedLook, StagedSeen}
use Rattle.staged.specs.TagLaws.{place_tags}
use Rattle.staged.specs.SeenLaws.{seen_most}
use Rattle.plain.specs.declared.kind0.PlainSettings.{PlainSettings}
use Rattle.sheet.specs.Meaning.{Seen, SheetLook, place_check, plain, settings_of, staged}
use Rattle.sheet.specs.declared.accepted.Accepted.{Accepted}
use Rattle.sheet.specs.declared.accepted.Accepted.TheVariants.{Plain, Staged}

-- ---- the look, by kind

-- a look at a plain sheet
pub plain-seen : (r : Settings) (f : List ℕ) (b : Look) → PlainFacts r → PlainLook r f b → SheetLook r f b
plain-seen r f b p h = look-map r f b (λ v k. subst (Seen r f b) (sym k.0) (plain p k.1)) h

-- and at a staged one
pub staged-seen : (r : Settings) (f : List ℕ) (b : Look) → StagedFacts r → StagedLook r f b → SheetLook r f b
staged-seen r f b p h = look-map r f b (λ v k. staged p k) h

-- ---- the plan, by kind

module _ (r : Settings) (f : List ℕ) (b : Look) (i : ℕ) (u : Levelled r f) (l : i < r.k) where
  plain-from : {v : ℕ} → Seen r f b v → r.kind ≡ 0 → (d : ℕ) → Planned r f i d b.bits (plan_in b i)
  plain-from (plain p h) k d = plain-planned r f p u b h i l d b.bits
  plain-from (staged p h) k d = absurd (omega (arith, p.staged))

-- of a plain sheet
pub plain-plan : {k : Accepted} {o : PlainSettings} → k ≡ Plain o → (f : List ℕ) (b : Look) (i v d : ℕ) → Levelled (settings_of k) f → i < (settings_of k).k → Seen (settings_of k) f b v
    → Planned (settings_of k) f i d b.bits (plan_in b i)
plain-plan {k} {o} e f b i v d = subst (λ (x : Accepted). Levelled (settings_of x) f → i < (settings_of x).k → Seen (settings_of x) f b v → Planned (settings_of x) f i d b.bits (plan_in b i)) (sym e)
    (λ u l s. plain-from o.settings f b i u l s o.plain.plain d)

staged-from : {r : Settings} {f : List ℕ} {b : Look} {v : ℕ} → Seen r f b v → ¬ (r.kind ≡ 0) → StagedFacts r × StagedSeen r f b v
staged-from (plain p h) n = absurd (n p.plain)
staged-from (staged p h) n = (p, h)

-- of a staged one
pub seen-staged : (r : Settings) (f : List ℕ) (b : Look) (v : ℕ) → Seen r f b v → ¬ (r.kind ≡ 0) → StagedFacts r × StagedSeen r f b v
seen-staged r f b v s n = staged-from s n

-- the stage found is one of the sheet's
stage-from : {r : Settings} {f : List ℕ} {b : Look} {v : ℕ} → Seen r f b v → StagedFacts r → v ≤ r.s - 1
stage-from {r} {f} {b} {v} (plain p h) q = absurd (omega (arith, p.plain, q.staged))
stage-from {r} {f} {b} {v} (staged p h) q = seen_most r p f b v h

pub seen-stage : (r : Settings) (f : List ℕ) (b : Look) (v : ℕ) → Seen r f b v → StagedFacts r → v ≤ r.s - 1
seen-stage r f b v s q = stage-from s q

-- ---- the place

-- a plan with one of these names a place
pub place_found : (p : Plan) → OneOf place_tags (tag_of the_type p) → Done 0 ≡ place_check p
place_found (Step j v) o = refl
place_found (Raise j) o = refl
place_found (Close j a) o = refl
place_found (Take j a up) o = refl
place_found (Move e) o = refl
place_found Nowhere o = absurd (miss place_tags 5 tt o)

-- where check 7 passes it answers Done with 0
pub place-zero : (p : Plan) (v : ℕ) → place_check p ≡ Done v → place_check p ≡ Done 0
place-zero (Step j w) v e = refl
place-zero (Raise j) v e = refl
place-zero (Close j a) v e = refl
place-zero (Take j a up) v e = refl
place-zero (Move e) v q = refl
place-zero Nowhere v e = absurd (let z : ◌≡◌ {A = ℕ} 0 1 = cc in omega arith)

-- where check 7 refuses there is none
pub place_none : (p : Plan) → ((v : ℕ) → place_check p ≢ Done v) → (p ≡ Nowhere) × (place_check p ≡ Erase)
place_none (Step j v) n = absurd (n 0 refl)
place_none (Raise j) n = absurd (n 0 refl)
place_none (Close j a) n = absurd (n 0 refl)
place_none (Take j a up) n = absurd (n 0 refl)
place_none (Move e) n = absurd (n 0 refl)
place_none Nowhere n = (refl, refl)

-- a plan that is no step, where check 7 passes, is one of a staged sheet
abbrev staged_tags : List ℕ
staged_tags = 1 ∷ 2 ∷ 3 ∷ 4 ∷ 5 ∷ []

pub no_step : (p : Plan) → OneOf staged_tags (tag_of the_type p) → (v : ℕ) → place_check p ≡ Done v → W.Staged p
no_step (Step j v) o w e = absurd (miss staged_tags 0 tt o)
no_step (Raise j) o w e = tt
no_step (Close j a) o w e = tt
no_step (Take j a up) o w e = tt
no_step (Move e) o w q = tt
no_step Nowhere o w e = absurd (let z : ◌≡◌ {A = ℕ} 0 1 = cc in omega arith)

-- and then the settings are of kind 1
pub fits-staged : (r : Settings) → Genuine r → (f : List ℕ) (i d : ℕ) (p : Plan) → W.Staged p → Fits r f i d p → StagedFacts r
fits-staged r g f i d p s k = genuine-staged r g (λ e. not_plain p s k (genuine-plain r g e).no-stages)
  where
    not_plain : (p : Plan) → W.Staged p → Fits r f i d p → ¬ (r.s ≡ 0)
    not_plain (Step j v) s k z = s
    not_plain (Raise j) s k z = absurd (omega (arith, k.stage))
    not_plain (Close j a) s k z = absurd (omega (arith, k.0.stage))
    not_plain (Take j a up) s k z = absurd (omega (arith, k.0.stage))
    not_plain (Move e) s k z = absurd (omega (arith, k.stage))
    not_plain Nowhere s k z = s

-- ---- carried out

-- what the settings of both kinds keep
pub accepted-common : (k : Accepted) → CommonFacts (settings_of k)
accepted-common (Plain o) = plain-common o.settings o.plain
accepted-common (Staged o) = staged-common o.settings o.staged

-- a step raises one level
pub step-one : (r : Settings) → CommonFacts r → (f : List ℕ) (i j v : ℕ) → i < r.k → StepFits r f i j v → 1 + sum f ≡ sum (store r.k f j (cycle r.k r.top i (v + 1)))
step-one r g f i j v l h =
    let le : i ≤ r.k = omega arith in
    let new : List ℕ = cycle r.k r.top i (v + 1) in
    omega (
      arith,
      store-sum r.k f j h.place new (length-cycle r.k r.top i le (v + 1)),
      sum-cycle r.k r.top i le (v + 1) (omega (arith, h.below)),
      ap sum h.cells ∙ sum-cycle r.k r.top i le v (omega (arith, h.below)),
    )

-- a plan that names a place, carried out with its levels, is the call's answer
pub carried-done : (r : Settings) (f : List ℕ) → Sound r f → (i d : ℕ) (bits : List (Option Place)) (p : Plan) (v q : ℕ) (ys : List ℕ) → Planned r f i d bits p → place_check p ≡ Done v
    → ys ≡ carried r i d (after i (value_in bits)) f p → q + sum f ≡ sum ys → outcome (Done q) ys ≡ from_sheet r f i
carried-done r f s i d bits p v q ys h c e k = made-done r f i s q ys (h.made ∙ out p c ∙ ap (λ (x : List ℕ). done x) (sym e)) k
  where
    out : (p : Plan) → place_check p ≡ Done v → carried_out r i d (after i (value_in bits)) f p ≡ done (carried r i d (after i (value_in bits)) f p)
    out (Step j w) c = refl
    out (Raise j) c = refl
    out (Close j a) c = refl
    out (Take j a up) c = refl
    out (Move e) c = refl
    out Nowhere c = absurd (let z : ◌≡◌ {A = ℕ} 0 1 = cc in omega arith)

-- and one of no place is answered Erase
pub carried_none : (r : Settings) (f : List ℕ) → Sound r f → (i d : ℕ) (bits : List (Option Place)) (p : Plan) → Planned r f i d bits p → p ≡ Nowhere → outcome Erase f ≡ from_sheet r f i
carried_none r f s i d bits p h e = made_none r f i s (h.made ∙ ap (carried_out r i d (after i (value_in bits)) f) e)
