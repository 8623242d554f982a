-- A batch starts where the rules say.
use Rattle.std.proofs.Common.{◌<◌, sym, ◌∙◌, arith}
use Rattle.std.proofs.lemmas.Grind.{common_steps}
use Rattle.rules.specs.AcceptLaws.{genuine-true, genuine-false, genuine-stages}
use Rattle.rules.specs.GuaranteeLaws.{batch-start-is, batch-start-none}
use Rattle.rules.proofs.Settings.batch_start.Goals as goal
use Rattle.rules.proofs.Settings.batch_start.Goals.{else-contains-via-then-contains+else-genuine, else-contains-via-else-contains}

pub first_cell-requires : goal.first_cell-requires
first_cell-requires c =
    let high : c.args.batch < c.args.self.s = grind (arith, common_steps) in
    (genuine-stages _ (genuine-true _ (sym c.if-genuine.ensures)) (omega arith), grind (arith, common_steps), grind (arith, common_steps))

pub returns-then-genuine : goal.returns-then-genuine
returns-then-genuine c =
    c.first_cell.ensures ∙ sym (batch-start-is _ _ (genuine-true _ (sym c.if-genuine.ensures)) (grind (arith, common_steps)) (grind (arith, common_steps)))

pub returns-else-contains : goal.returns-else-contains
returns-else-contains c =
    elim c.else-contains.branch [
      | else-contains-via-then-contains+else-genuine w ↦ sym (batch-start-none _ _ (λ g l h. genuine-false _ (sym w.if-genuine.ensures) g))
      | else-contains-via-else-contains w ↦ sym (batch-start-none _ _ (λ g l h. grind (arith, common_steps, w.if-contains.ensures.cases)))
    ]
