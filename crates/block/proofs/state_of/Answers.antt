-- `block::state_of` meets its contract: the shape says the state. Assumes nothing.
use Rattle.std.proofs.Common.{arith}
use Rattle.block.proofs.ShapeLaws.{ShapeFound, shape-active, shape-empty, shape-few, shape-full, shape-middles, shape-rises}
use Rattle.block.proofs.state_of.Goals as goal
use Rattle.block.proofs.state_of.Goals.{After-shape_of-shape}

-- what is known once the shape is found
found : (c : After-shape_of-shape) → ShapeFound c.args.top c.args.b.now c.shape_of-shape.result
found c = record { two = omega arith; pos = omega arith; low = c.requires.low; is = c.shape_of-shape.ensures }

pub returns-then-shape-eq0 : goal.returns-then-shape-eq0
returns-then-shape-eq0 c = shape-empty (found (goal.at.returns-then-shape-eq0 c).After-shape_of-shape) (omega arith)

pub returns-then-shape-b : goal.returns-then-shape-b
returns-then-shape-b c = shape-full (found (goal.at.returns-then-shape-b c).After-shape_of-shape) (omega arith)

pub returns-then-shape-ne1 : goal.returns-then-shape-ne1
returns-then-shape-ne1 c =
    shape-rises (found (goal.at.returns-then-shape-ne1 c).After-shape_of-shape) (λ e. omega arith) (λ e. omega arith) (λ e. omega arith)

pub overflow_add-shape : goal.overflow_add-shape
overflow_add-shape c = omega (arith, shape-few (found (goal.at.overflow_add-shape c).After-shape_of-shape))

pub returns-then-shape : goal.returns-then-shape
returns-then-shape c =
    shape-middles (found (goal.at.returns-then-shape c).After-shape_of-shape) (λ e. omega arith) (λ e. omega arith) (omega arith)

pub weight_of-requires : goal.weight_of-requires
weight_of-requires c = omega (arith, shape-few (found (goal.at.weight_of-requires c).After-shape_of-shape))

pub returns : goal.returns
returns c =
    shape-active (found (goal.at.returns c).After-shape_of-shape) (λ e. omega arith) (λ e. omega arith) (omega arith) (omega arith) (omega arith) (omega arith) _ c.weight_of.ensures
