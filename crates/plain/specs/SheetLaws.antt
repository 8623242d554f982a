-- Laws of a whole plain sheet: check 6 by the scan and the spare cells, and the plan of a change. Assumes nothing.
use Rattle.std.specs.Prelude.{◌≡◌, refl, Bool, true, false, List, ℕ, ◌-◌, ◌*◌, ◌≤◌, ◌<◌, length, take, drop, replicate, Option}
use Rattle.std.proofs.Common.{sym, ap, ◌∙◌, subst, arith, length-drop, take_all}
use Rattle.rules.specs.Search.{pick}
use Rattle.rules.specs.SearchLaws.{pick_no, pick_yes}
use Rattle.rules.specs.Cells.{same?}
use Rattle.rules.specs.Plain.{BlocksOk, Spare, blocks_ok?}
use Rattle.rules.specs.AcceptLaws.{PlainFacts}
use Rattle.rules.specs.Calls.{Sound, as_check}
use Rattle.rules.specs.declared.Settings.{Settings}
use Rattle.rules.specs.declared.Answer.TheVariants.{BadSheet, Done}
use Rattle.laws.specs.Kinds.{plain-sound, sound-plain, plain-read, plain-change}
use Rattle.cells.specs.Laws.{test-true, test-false}
use Rattle.plan.specs.Meaning.{Levelled, Planned, breaks, keeps}
use Rattle.plan.specs.declared.Look.{Look}
use Rattle.plan.specs.declared.Place.{Place}
use Rattle.plan.specs.declared.Plan.{Plan}
use Rattle.plain.specs.Laws.{block-end, scanned-place, scanned-read}
use Rattle.plain.specs.Meaning.{PlaceOf, PlainLook, Scanned, SeenPlain, erase, plan_in, step}

-- ---- spare cells

-- the sheet from a on, as it is lent
abbrev pub part_from : ℕ → List ℕ → List ℕ
part_from a xs = take (length xs - a) (drop a xs)

part-drop : (a : ℕ) (xs : List ℕ) → part_from a xs ≡ drop a xs
part-drop a xs = take_all (length xs - a) (drop a xs) (omega (arith, length-drop a xs))

part-zeros : (a n : ℕ) (xs : List ℕ) → length xs ≡ n → ◌≡◌ {A = List ℕ} (replicate (length (part_from a xs)) 0) (replicate (n - a) 0)
part-zeros a n xs e =
    let q : length (drop a xs) ≡ n - a = length-drop a xs ∙ ap (λ (x : ℕ). x - a) e in
    ap {B = List ℕ} (λ x. replicate x 0) (ap length (part-drop a xs) ∙ q)

-- a look at the cells from a on tells whether they are spare cells at 0
pub spare-true : (a n : ℕ) (xs : List ℕ) {r : Bool} → length xs ≡ n → r ≡ pick (same? (part_from a xs) (replicate (length (part_from a xs)) 0)) true false → r ≡ true → Spare a n xs
spare-true a n xs e p t = sym (part-drop a xs) ∙ test-true (same? (part_from a xs) (replicate (length (part_from a xs)) 0)) p t ∙ part-zeros a n xs e

-- or that they are not
pub spare-false : (a n : ℕ) (xs : List ℕ) {r : Bool} → length xs ≡ n → r ≡ pick (same? (part_from a xs) (replicate (length (part_from a xs)) 0)) true false → r ≡ false → ¬ (Spare a n xs)
spare-false a n xs e p t h =
    test-false (same? (part_from a xs) (replicate (length (part_from a xs)) 0)) p t (part-drop a xs ∙ h ∙ sym (part-zeros a n xs e))

-- ---- kind 0

-- a spare cell above 0 breaks the rules
pub plain-unspare : (r : Settings) → PlainFacts r → (f : List ℕ) → ¬ (Spare (r.m * r.k) r.n f) → ¬ (Sound r f)
plain-unspare r p f n q = n (plain-sound r p f q).1

-- a scan of the blocks, with spare cells at 0, is a look at the whole sheet
pub plain-look : (r : Settings) → PlainFacts r → (f : List ℕ) (b : Look) → Spare (r.m * r.k) r.n f → Scanned r.k r.top r.m f b → PlainLook r f b
plain-look r p f b z h = go (blocks_ok? r.k r.top r.m f)
  where
    go : Dec (BlocksOk r.k r.top r.m f) → PlainLook r f b
    go (yes o) =
        let e : b.answer ≡ Done 0 = h.answer ∙ pick_yes (blocks_ok? r.k r.top r.m f) (Done 0) BadSheet o in
        keeps 0 e (sound-plain r p f (o, z)) (λ i l. plain-read r p f i ∙ scanned-read r.k r.top r.m i f b h (ap as_check e) l)
        (refl, record { passed = e; blocks = h; spare = z })
    go (no n) = breaks (h.answer ∙ pick_no (blocks_ok? r.k r.top r.m f) (Done 0) BadSheet n) (λ q. n (plain-sound r p f q).0)

module _ (r : Settings) (f : List ℕ) (p : PlainFacts r) (v : Levelled r f) (b : Look) (h : SeenPlain r f b) (i : ℕ) (l : i < r.k) (d : ℕ) (bits : List (Option Place)) where
  inside : r.m * r.k ≤ length f
  inside = subst (λ (n : ℕ). r.m * r.k ≤ n) (sym v.long) p.inside

  planned-from : {y : Plan} → PlaceOf r.k r.top r.m i f y → Planned r f i d bits y
  planned-from (step j w n q c e) = record {
    fits = record { place = block-end r.k r.m j (length f) inside n; below = q; cells = c };
    made = plain-change r p f i ∙ e;
  }
  planned-from (erase e) = record { fits = tt; made = plain-change r p f i ∙ e }

  -- the plan that the look gives is one of the change
  pub plain-planned : Planned r f i d bits (plan_in b i)
  plain-planned = planned-from (scanned-place r.k r.top r.m i f b p.bits-least p.top_least inside l h.blocks (ap as_check h.passed))
