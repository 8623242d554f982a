-- The route, what the move by it needs, and the move.
use mathlib.Core.Path.{◌∙◌, ap, sym}
use Rattle.plan.specs.Meaning.{value_in}
use Rattle.rules.specs.Cells.{sum}
use Rattle.rules.specs.Staged.{after}
use Rattle.staged.specs.MoveLaws.{has-route, move-told, need-told, region-asked, route-asked}
use Rattle.staged.proofs.layout.StagedSettings.carry_move.Goals as goal

pub route_of-route-requires : goal.route_of-route-requires
route_of-route-requires c = route-asked _ c.args.self.staged _ c.requires.0 _ c.requires.1 _ c.parity_blocks.ensures

pub move_need-need-requires : goal.move_need-need-requires
move_need-need-requires c =
    let g = after c.args.bit (value_in c.args.bits.now) in
    region-asked _ c.args.self.staged _ c.requires.0 _ c.requires.1 _ c.parity_blocks.ensures _ c.region_of-region.ensures g _ c.route_of-route.ensures

pub commit_move-requires : goal.commit_move-requires
commit_move-requires c =
    let g = after c.args.bit (value_in c.args.bits.now) in
    record {
      region_fits = region-asked _ c.args.self.staged _ c.requires.0 _ c.requires.1 _ c.parity_blocks.ensures _ c.region_of-region.ensures g _ c.route_of-route.ensures;
      has_route = has-route _ c.args.self.staged _ c.requires.0 _ c.requires.1 _ c.parity_blocks.ensures _ c.region_of-region.ensures g _ c.route_of-route.ensures;
    }

pub returns : goal.returns
returns c =
    let g = after c.args.bit (value_in c.args.bits.now) in
    let q = move-told _ c.args.self.staged _ c.requires.0 _ c.requires.1 _ c.parity_blocks.ensures _ c.region_of-region.ensures g _ c.route_of-route.ensures _ c.commit_move.ensures in
    let k = need-told _ c.args.self.staged _ c.requires.0 _ c.requires.1 _ c.parity_blocks.ensures _ c.region_of-region.ensures g _ c.route_of-route.ensures _ (c.move_need-need.ensures c.route_of-route.result.parity c.route_of-route.result.top) in
    record { sheet_after = q; levels_raised = k.levels ∙ sym (ap sum q) }
