-- A change answers by the checks in number order: look, plan, and then the plan carried out.
use mathlib.Core.Path.{◌≡◌, refl, sym, ap, subst, ◌∙◌}
use Prim.Native.Nat.{◌-◌}
use Rattle.plan.specs.Meaning.{Planned, carried, value_in}
use Rattle.rules.specs.Calls.{outcome}
use Rattle.rules.specs.PromiseLaws.{told}
use Rattle.rules.specs.Staged.{after}
use Rattle.rules.specs.declared.Settings.{Settings}
use Rattle.sheet.specs.CallLaws.{Looked, change-looked, change-refused, accepted-asks, accepted-levelled, accepted-told, look-refused}
use Rattle.sheet.specs.ChangeLaws.{carried-done, carried_none, place_none, seen-stage}
use Rattle.sheet.specs.declared.checks.Asked.TheVariants.{Bit}
use Rattle.sheet.proofs.change.Goals as goal
use Rattle.sheet.proofs.change.Goals.{In-Done-answer}

pub returns-in_default : goal.returns-in_default
returns-in_default c =
    told (change-refused _ _ _ _ _ (look-refused _ _ _ _ c.check_call-checked.ensures c.in_default.not-Done) refl c.in_default.not-Done)

pub of-accepted-requires : goal.of-accepted-requires
of-accepted-requires c = accepted-asks _ _ (Bit _) c.check_call-checked.ensures c.in-Done.is _ c.blocks-blocks.ensures

pub look-requires : goal.look-requires
look-requires c = accepted-levelled _ _ (Bit _) c.check_call-checked.ensures c.in-Done.is c.of-accepted.result c.of-accepted.ensures

pub returns-in_default-answer : goal.returns-in_default-answer
returns-in_default-answer c =
    let h = accepted-told _ _ (Bit _) c.check_call-checked.ensures c.in-Done.is c.of-accepted.result c.of-accepted.ensures _ c.look.ensures in
    told (change-refused _ _ _ _ _ h refl c.in_default-answer.not-Done)

-- what the look says where every check passed
looked : (c : In-Done-answer) → Looked c.args.settings c.args.sheet.now c.args.bit c.look.new.look c.in-Done-answer.stage
looked c = change-looked _ _ _ _ _ (accepted-told c.args.settings _ (Bit _) c.check_call-checked.ensures c.in-Done.is c.of-accepted.result c.of-accepted.ensures _ c.look.ensures) c.in-Done-answer.is

pub plan-plan-requires : goal.plan-plan-requires
plan-plan-requires c =
    let g = looked (goal.at.plan-plan-requires c).In-Done-answer in
    rw c.of-accepted.ensures (g.levelled, g.bit, g.seen)

pub returns-in_default-placed : goal.returns-in_default-placed
returns-in_default-placed c =
    let r = c.args.settings in
    let g = looked (goal.at.returns-in_default-placed c).In-Done-answer in
    let n = place_none c.plan-plan.result (λ v q. c.in_default-placed.not-Done v (c.check_place-placed.ensures ∙ q)) in
    let y = subst (λ (x : Settings). Planned x c.args.sheet.now c.args.bit (x.s - 1 - c.in-Done-answer.stage) c.look.new.look.bits c.plan-plan.result) c.of-accepted.ensures c.plan-plan.ensures in
    told (ap (λ x. outcome x c.args.sheet.now) (c.check_place-placed.ensures ∙ n.1)
    ∙ carried_none r c.args.sheet.now g.sound c.args.bit _ _ c.plan-plan.result y n.0 ∙ g.maps)

pub carry-requires-clause-sheet_fits : goal.carry-requires-clause-sheet_fits
carry-requires-clause-sheet_fits c =
    let g = looked (goal.at.carry-requires-clause-sheet_fits c).In-Done-answer in
    rw c.of-accepted.ensures (g.levelled, g.bit, seen-stage _ _ _ _ g.seen)

pub returns : goal.returns
returns c =
    let r = c.args.settings in
    let a = c.args in
    let g = looked (goal.at.returns c).In-Done-answer in
    let y = subst (λ (x : Settings). Planned x a.sheet.now a.bit (x.s - 1 - c.in-Done-answer.stage) c.look.new.look.bits c.plan-plan.result) c.of-accepted.ensures c.plan-plan.ensures in
    let z = subst (λ (x : Settings). c.carry.new.sheet ≡ carried x a.bit (x.s - 1 - c.in-Done-answer.stage) (after a.bit (value_in c.look.new.look.bits)) a.sheet.now c.plan-plan.result) c.of-accepted.ensures c.carry.ensures.sheet_after in
    told (carried-done r a.sheet.now g.sound a.bit _ _ c.plan-plan.result _ _ _ y (sym c.check_place-placed.ensures ∙ c.in-Done-placed.is) z c.carry.ensures.levels_raised
    ∙ g.maps)
