-- `index::Region::index_of` meets its contract: the number is that of the digits passed. Assumes nothing.
use Rattle.std.proofs.Common.{arith}
use Rattle.index.specs.Laws.{DigitRead, digit-read, read-full, read-none, read-number, read-small}
use Rattle.index.proofs.Region.index_of.Goals as goal
use Rattle.index.proofs.Region.index_of.Goals.{In-loop-x}

-- what a turn reads
turn : (c : In-loop-x) → DigitRead c.args.self.floor c.args.self.step c.args.b.now c.loop-x.x-index c.loop-x.number c.loop-x.power
turn c = digit-read _ _ _ _ _ _ c.loop-x.invariant c.requires.1 c.loop-x-test.true

pub loop-x-init : goal.loop-x-init
loop-x-init c = read-none _ _ _

pub overflow_mul-number : goal.overflow_mul-number
overflow_mul-number c = let t = turn (goal.at.overflow_mul-number c).In-loop-x in omega arith

pub overflow_sub-x : goal.overflow_sub-x
overflow_sub-x c = (turn (goal.at.overflow_sub-x c).In-loop-x).above

pub overflow_add-number : goal.overflow_add-number
overflow_add-number c = let t = turn (goal.at.overflow_add-number c).In-loop-x in omega arith

pub overflow_mul-power : goal.overflow_mul-power
overflow_mul-power c = let t = turn (goal.at.overflow_mul-power c).In-loop-x in omega arith

pub loop-x-preserved : goal.loop-x-preserved
loop-x-preserved c = rw c.from.ensures (turn (goal.at.loop-x-preserved c).In-loop-x).more

pub overflow_add-number-2 : goal.overflow_add-number-2
overflow_add-number-2 c = omega (arith, read-small _ _ _ _ _ _ c.loop-x.invariant c.requires.1 (omega arith))

pub returns-then-number-power : goal.returns-then-number-power
returns-then-number-power c =
    read-full _ _ _ _ _ _ c.loop-x.invariant c.requires.1 (omega arith) c.if-number-power.true

pub returns : goal.returns
returns c =
    read-number _ _ _ _ _ _ c.loop-x.invariant (omega arith) c.if-number-power.false
