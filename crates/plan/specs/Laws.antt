-- Laws of looks and plans: what the call answers once a plan is carried out. Assumes nothing.
use Rattle.std.specs.Prelude.{◌≡◌, List, ℕ, ◌+◌, ◌-◌}
use Rattle.std.proofs.Common.{ap, sym, ◌∙◌, arith}
use Rattle.laws.specs.Calls.{sheet-maps}
use Rattle.rules.specs.Calls.{Sound, change_sheet, outcome}
use Rattle.rules.specs.Cells.{sum}
use Rattle.rules.specs.Search.{done, no_place_left}
use Rattle.rules.specs.declared.Answer.TheVariants.{Done, Erase}
use Rattle.rules.specs.declared.Settings.{Settings}
use Rattle.plan.specs.Meaning.{LookOf, breaks, from_sheet, keeps}
use Rattle.plan.specs.declared.Look.{Look}

module _ (r : Settings) (f : List ℕ) (i : ℕ) (s : Sound r f) where
  -- a change that is made, and its levels
  pub made-done : (q : ℕ) (ys : List ℕ) → change_sheet r f i ≡ done ys → q + sum f ≡ sum ys → outcome (Done q) ys ≡ from_sheet r f i
  made-done q ys e k =
      let n : q ≡ sum ys - sum f = omega arith in
      ap (λ (z : ℕ). outcome (Done z) ys) n ∙ sym (sheet-maps r f i s e)

  -- a change that finds no place
  pub made_none : change_sheet r f i ≡ no_place_left → outcome Erase f ≡ from_sheet r f i
  made_none e = sym (sheet-maps r f i s e)

-- a look that saw A saw B where A is B
pub look-map : {A B : ℕ → Type 0} (r : Settings) (f : List ℕ) (b : Look) → ((v : ℕ) → A v → B v) → LookOf A r f b → LookOf B r f b
look-map r f b m (breaks e n) = breaks e n
look-map r f b m (keeps v e s w y) = keeps v e s w (m v y)
