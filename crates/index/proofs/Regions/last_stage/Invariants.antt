-- `index::Regions::last_stage` meets its contract: the regions from the present one on are all 0. Assumes nothing.
use Rattle.index.specs.StageLaws.{DarkFrom}
use Rattle.index.proofs.Regions.last_stage.Given as goal

abbrev pub invariant-loop-g : goal.invariant-loop-g
invariant-loop-g l = DarkFrom l.self.cells l.self.regions l.self.index.now l.g
