-- What acceptance asks on its way to a record: the kind that a number names, the limits of every kind, and whether there is a record at all. Assumes nothing.
use Rattle.std.specs.Prelude.{◌≡◌, ◌≢◌, ℕ, ◌≤◌, Option, Some, None, Result, Ok, Err}
use Rattle.std.proofs.Math.Decide.{dec_lt}
use Rattle.rules.specs.Search.{pick}
use Rattle.rules.specs.Accept.{most_bits, most_top, most_cells}
use Rattle.rules.specs.declared.Settings.{Settings}
use Rattle.rules.specs.declared.Kind.{Kind}
use Rattle.rules.specs.declared.Kind.TheVariants.{Plain, Staged}
use Rattle.rules.specs.declared.NoKind.{NoKind}

-- the number of each kind
abbrev pub number_of_kind : Kind → ℕ
number_of_kind Plain = 0
number_of_kind Staged = 1

-- the kind that a number names: the one that has it, or none where no kind does
abbrev pub KindNamed : ℕ → Result Kind NoKind → Type 0
KindNamed n (Ok kind) = n ≡ number_of_kind kind
KindNamed n (Err e) = (kind : Kind) → n ≢ number_of_kind kind

-- bits, top level and cells are within the limits of every kind
abbrev pub InLimits : ℕ → ℕ → ℕ → Type 0
InLimits k L n = (2 ≤ k) × (k ≤ most_bits) × (1 ≤ L) × (L ≤ most_top) × (n ≤ most_cells)

-- the record that acceptance gives, or none where it refuses
abbrev pub if_accepted : Settings → Option Settings
if_accepted r = pick (dec_lt 0 r.k) (Some r) None
