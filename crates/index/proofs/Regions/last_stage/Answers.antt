-- `index::Regions::last_stage` meets its contract: the regions from the present one on are all 0. Assumes nothing.
use mathlib.Core.Path.{◌≡◌, ◌∙◌, ap}
use Prim.Native.Nat.{ℕ, suc, ◌+◌, ◌*◌, ◌-◌}
use native.Mathlib.Omega.{arith}
use Rattle.laws.specs.Cut.{part-block}
use Rattle.cells.specs.Meaning.{greatest_of}
use Rattle.rules.specs.Cells.{block}
use Rattle.rules.specs.Search.{at}
use Rattle.index.specs.StageLaws.{DarkFrom, dark-more, stage-dark, stage-found, stage-last}
use Rattle.index.proofs.Regions.last_stage.Goals as goal
use Rattle.index.proofs.Regions.last_stage.Goals.{After-greatest-h, In-loop-g}

-- in a turn the regions after it are all 0
dark : (c : In-loop-g) → DarkFrom c.args.self.cells c.args.self.regions c.args.self.index.now (suc (c.loop-g.g - 1))
dark c x h l = c.loop-g.invariant x (omega arith) l

-- the greatest level that was found is the region's
found : (c : After-greatest-h)
    → c.greatest-h.result ≡ greatest_of (block c.args.self.cells c.args.self.index.now (c.loop-g.g - 1))
found c =
    c.greatest-h.ensures ∙ ap greatest_of (part-block c.args.self.cells c.args.self.index.now (c.loop-g.g - 1))

pub returns-then-self-place : goal.returns-then-self-place
returns-then-self-place c =
    stage-last c.args.self.fit (c.loop-g.g - 1) (dark (goal.at.returns-then-self-place c).In-loop-g) c.greatest-h.result (found (goal.at.returns-then-self-place c).After-greatest-h) c.if-h-gt0.true (omega arith) (omega arith)

pub returns-then-h-gt0 : goal.returns-then-h-gt0
returns-then-h-gt0 c =
    let r = c.args.self in
    ap (λ (q : ℕ). at (r.stages - 1 - ((c.loop-g.g - 1) * r.per + q))) c.from.ensures
    ∙ stage-found r.fit (c.loop-g.g - 1) (dark (goal.at.returns-then-h-gt0 c).In-loop-g) c.greatest-h.result (found (goal.at.returns-then-h-gt0 c).After-greatest-h) c.if-h-gt0.true (omega arith)

pub loop-g-preserved : goal.loop-g-preserved
loop-g-preserved c =
    let r = c.args.self in
    dark-more r.cells r.regions r.index.now c.loop-g.g c.loop-g-test.true c.loop-g.invariant (omega (arith, found (goal.at.loop-g-preserved c).After-greatest-h))

pub returns : goal.returns
returns c =
    let e : c.loop-g.g ≡ 0 = omega arith in
    stage-dark c.args.self.fit (rw e at c.loop-g.invariant)
