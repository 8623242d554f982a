-- `index::Region::need_entry` meets its contract: what the cells passed need is known, and the digits of the rest are those of the cells before them. Assumes nothing.
use Rattle.std.proofs.Common.{◌≡◌, ◌+◌, ◌-◌, length, arith, tests}
use Rattle.std.proofs.lemmas.Iterator.Adapters.{YieldsList-from_rev_slice}
use Rattle.std.proofs.lemmas.Iterator.Consumers.{YieldsList-turn}
use Rattle.std.proofs.lemmas.List.{length_push}
use Rattle.laws.specs.Differ.{apart}
use Rattle.index.specs.Laws.{length-cells}
use Rattle.index.specs.Meaning.{as_entry, cells_at}
use Rattle.index.specs.NeedLaws.{NeedTurn, need-first, need-turn, read-back}
use Rattle.index.proofs.Region.need_entry.Goals as goal
use Rattle.index.proofs.Region.need_entry.Goals.{In-Some}

-- in a turn: the cell, which isn't above the level that it is raised to
turn : (c : In-Some) →
    let a = c.args in
    let l = c.loop-x in
    NeedTurn a.self.floor a.self.step a.b.now (cells_at a.self.floor a.self.step (length a.b.now) (as_entry a.entry)) (length a.b.now - length l.yielded) (as_entry l.rest) l.cells l.levels l.invariant c.in-Some.field-0.now
turn c =
    let a = c.args in
    let t = read-back a.b.now _ _ (YieldsList-turn (YieldsList-from_rev_slice a.b.now cc) c.loop-x.yielded _ c.loop-x.yielded_by _ _ c.in-Some.field-0 c.in-Some.is c.next.ensures.steps) in
    need-turn _ _ _ _ _ _ _ _ c.loop-x.invariant _ t.1 (omega arith) (omega arith) (length-cells a.self.floor a.self.step (length a.b.now) (as_entry a.entry)) c.requires.rises c.requires.holds.0

pub loop-x-init : goal.loop-x-init
loop-x-init c = need-first _ _ _ _ _ (omega arith) c.requires.holds.1

pub overflow_sub-level : goal.overflow_sub-level
overflow_sub-level c = omega (arith, (turn (goal.at.overflow_sub-level c).In-Some).below)

pub loop-x-preserved : goal.loop-x-preserved
loop-x-preserved c =
    let n = length c.loop-x.yielded in
    let e : length c.args.b.now - (n + 1) ≡ length c.args.b.now - n - 1 = omega arith in
    let d = c.last_digit-digit.ensures in
    let a : c.from-cells.result ≡ apart c.in-Some.field-0.now (c.args.self.floor + c.last_digit-digit.result.0) = grind (arith, tests, c.from-cells.ensures, (turn (goal.at.loop-x-preserved c).In-Some).below) in
    rw (length_push c.loop-x.yielded c.in-Some.field-0, e, d.1, a, c.from-levels.ensures, d.0)
    (turn (goal.at.loop-x-preserved c).In-Some).next
