-- The loop stops at the first width that is enough.
use mathlib.Core.Path.{◌≡◌}
use Prim.Native.Nat.{suc, ◌+◌, ◌≤◌, ◌<◌, ◌-◌, ◌^◌}
use Rattle.rules.specs.Search.{nowhere}
use Rattle.rules.specs.SearchLaws.{First}
use Rattle.rules.proofs.acceptance.index_width.Given as goal

-- p is (top + 1) ^ w, above w; w is below k + 2, and no shorter width is enough
abbrev pub invariant-loop-p : goal.invariant-loop-p
invariant-loop-p l = (l.p ≡ suc l.top ^ l.w) × (l.w < l.p) × (l.w < l.k + 2) × First (λ v. l.k + 2 ≤ suc l.top ^ v) l.w nowhere

-- what p lacks falls
abbrev pub decreases-loop-p : goal.decreases-loop-p
decreases-loop-p l = l.k + 2 - l.p
