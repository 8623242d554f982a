-- What the tag of a plan tells. Assumes nothing.
use Rattle.std.specs.Prelude.{List, [], ◌∷◌, ◌≢◌, ℕ}
use Rattle.std.proofs.Common.{subst}
use types.Run.{OneOf, miss}
use denote.Enum.Declared.{tag_of}
use Rattle.plan.specs.contracts.Plan.{the_type}
use Rattle.plan.specs.Meaning.{Staged, Within}
use Rattle.plan.specs.declared.Plan.{Plan}
use Rattle.plan.specs.declared.Plan.TheVariants.{Close, Move, Nowhere, Raise, Step, Take}

-- the tags of every plan but the one of no place
abbrev pub place_tags : List ℕ
place_tags = 0 ∷ 1 ∷ 2 ∷ 3 ∷ 4 ∷ []

-- a plan with one of these names a place
pub somewhere : (p : Plan) → OneOf place_tags (tag_of the_type p) → p ≢ Nowhere
somewhere p o e = miss place_tags 5 tt (subst (λ (x : Plan). OneOf place_tags (tag_of the_type x)) e o)

-- the tags of every plan but a move
abbrev pub stay_tags : List ℕ
stay_tags = 0 ∷ 1 ∷ 2 ∷ 3 ∷ 5 ∷ []

-- a plan of a staged sheet with one of these stays in its stage
pub within-stage : (p : Plan) → OneOf stay_tags (tag_of the_type p) → Staged p → Within p
within-stage (Step j v) o h = absurd h
within-stage (Raise j) o h = tt
within-stage (Close j a) o h = tt
within-stage (Take j a up) o h = tt
within-stage (Move e) o h = absurd (miss stay_tags 4 tt o)
within-stage Nowhere o h = absurd h
