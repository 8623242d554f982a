-- `plain::check_repeats` meets its contract: the bits below the later one differ, and it is none of those below the earlier one. Assumes nothing.
use Rattle.std.proofs.Common.{◌≡◌, get_or, take}
use Rattle.laws.specs.Distinct.{Distinct}
use Rattle.rules.specs.Stage.{Absent}
use Rattle.rules.specs.declared.Answer.TheVariants.{Done}
use Rattle.plain.proofs.check_repeats.Given as goal

-- the later bit is none of those below the earlier one
abbrev pub invariant-loop-earlier : goal.invariant-loop-earlier
invariant-loop-earlier l = record { none : l.answer ≡ Done 0; absent : Absent (get_or l.noted l.later 0) (take l.earlier-index l.noted) }

-- the bits below the later one differ
abbrev pub invariant-pairs : goal.invariant-pairs
invariant-pairs l = record { none : l.answer ≡ Done 0; apart : Distinct (take l.later l.noted) }
