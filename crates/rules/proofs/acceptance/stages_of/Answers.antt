-- The zeros below the only digit of k are s.
use Rattle.std.proofs.Common.{◌≡◌, ℕ, ◌^◌, ◌≤◌, Bool, true, false, sym, refl, ◌∙◌, arith}
use Rattle.std.proofs.lemmas.Bool.{eqb-true, eqb-false, leb-true}
use Rattle.std.specs.Bool.{then_some}
use Rattle.std.specs.Int.Count.{count_trailing_zeros}
use Rattle.rules.specs.Search.{as_found}
use Rattle.rules.specs.Accept.{most_stages, place_of, stages_of}
use Rattle.rules.specs.StagesLaws.{shifted, stages-zeros, stages-none}
use Rattle.rules.proofs.acceptance.stages_of.Goals as goal
use Rattle.rules.proofs.acceptance.stages_of.Goals.{then-s-le-MOST_STAGES, else-s-le-MOST_STAGES}

-- a test of the zeros decides whether there is an s
tested : (k : ℕ) (b : Bool) → (b ≡ true → (count_trailing_zeros 64 k ≤ most_stages) × (2 ^ count_trailing_zeros 64 k ≡ k)) → (b ≡ false → count_trailing_zeros 64 k ≤ most_stages → ¬ (2 ^ count_trailing_zeros 64 k ≡ k)) →
    place_of (as_found (then_some b (count_trailing_zeros 64 k))) ≡ stages_of k
tested k true f g = sym (stages-zeros k (f refl).0 (f refl).1)
tested k false f g = sym (stages-none k (g refl))

pub returns : goal.returns
returns c =
    let k = c.args.k in
    rw c.then_some.ensures (elim c.if-s-le-MOST_STAGES.branch [
      | then-s-le-MOST_STAGES w ↦
          let z = shifted (count_trailing_zeros 64 k) (omega arith) in
          tested k _ (λ e. (omega arith, sym z ∙ eqb-true _ _ (sym w.then_some-is ∙ e))) (λ e l h. eqb-false _ _ (sym w.then_some-is ∙ e) (z ∙ h))
      | else-s-le-MOST_STAGES w ↦ tested k _ (λ e. absurd (omega (arith, leb-true _ _ (sym w.then_some-is ∙ e)))) (λ e l. absurd (omega arith))
    ])
