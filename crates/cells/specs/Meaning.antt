-- What the answers on runs of cells mean, as definitions of the rules. Assumes nothing.
use Rattle.std.specs.Prelude.{List, [], ◌∷◌, ◌≡◌, ℕ, ◌*◌, ◌≤◌, ◌<◌, max, min, get_or}
use Rattle.rules.specs.Cells.{block, sum}

-- how many cells are compared at a time where blocks are passed over
abbrev pub run : ℕ
run = 64

-- the greatest level, 0 where there is no cell
unfoldable pub greatest_of : List ℕ → ℕ
greatest_of [] = 0
greatest_of (x ∷ xs) = max x (greatest_of xs)

-- the least level, 255 where there is no cell
unfoldable pub least_of : List ℕ → ℕ
least_of [] = 255
least_of (x ∷ xs) = min x (least_of xs)

-- cells that pass for a run at level v: none is below it, and all are 0 if it is 0
abbrev pub RunAt : ℕ → List ℕ → Type 0
RunAt v cells = (v ≤ least_of cells) × (v ≡ 0 → greatest_of cells ≡ 0)

-- no cell before cell n is below level v
abbrev pub Leads : ℕ → List ℕ → ℕ → Type 0
Leads v cells n = (x : ℕ) → x < n → v ≤ get_or cells x 0

-- every block from one number up to another weighs what one at level v does, or more, and nothing if v is 0
abbrev pub RunFrom : ℕ → ℕ → List ℕ → ℕ → ℕ → Type 0
RunFrom len v cells from to = (x : ℕ) → from ≤ x → x < to → (len * v ≤ sum (block len cells x)) × (v ≡ 0 → sum (block len cells x) ≡ 0)
