-- What the C functions take and write: a settings record crosses as seven numbers that the caller owns. Assumes nothing.
use Rattle.std.specs.Prelude.{List, [], ◌∷◌, ℕ, length, get_or}
use Rattle.std.proofs.Math.Decide.{ℕ_discrete}
use Rattle.rules.specs.Search.{pick}
use Rattle.rules.specs.Accept.{refused}
use Rattle.rules.specs.declared.Settings.{Settings}
use Rattle.rules.specs.declared.Setup.{Setup}
use Rattle.rules.specs.declared.Answer.{Answer}
use Rattle.rules.specs.declared.Answer.TheVariants.{BadShape}

-- kind, k, top, n, m, s, w; any other count of numbers stands for the record of zeros
abbrev pub record_of : List ℕ → Settings
record_of xs = pick (ℕ_discrete (length xs) 7)
    (record { kind = get_or xs 0 0; k = get_or xs 1 0; top = get_or xs 2 0; n = get_or xs 3 0; m = get_or xs 4 0; s = get_or xs 5 0; w = get_or xs 6 0 }) refused

-- the numbers of a record, in that order
abbrev pub numbers_of : Settings → List ℕ
numbers_of r = r.kind ∷ r.k ∷ r.top ∷ r.n ∷ r.m ∷ r.s ∷ r.w ∷ []

-- what settings write into the caller's numbers: the record where there are seven of them, else nothing
abbrev pub record_into : List ℕ → Setup → List ℕ
record_into xs x = pick (ℕ_discrete (length xs) 7) (numbers_of x.settings) xs

-- what settings answer: BadShape where there are not seven numbers
abbrev pub answer_into : List ℕ → Setup → Answer
answer_into xs x = pick (ℕ_discrete (length xs) 7) x.answer BadShape

-- the version of the C interface: a number more whenever a function, an answer or a place of the record is added or means something else
abbrev pub version : ℕ
version = 3
