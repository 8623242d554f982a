-- Check 6 of a plain sheet, by its spare cells and the scan of its blocks.
use Rattle.std.proofs.Common.{ap, subst, ℕ, ◌*◌}
use Rattle.rules.specs.Plain.{Spare}
use Rattle.plain.specs.Meaning.{Scanned}
use Rattle.plain.specs.SheetLaws.{plain-look, spare-true}
use Rattle.plain.proofs.kind0.PlainSettings.look.Goals as goal

pub returns : goal.returns
returns c =
    let o = c.args.self in
    let r = o.settings in
    plain-look r o.plain _ _
    (subst (λ (x : ℕ). Spare x r.n c.args.sheet.now) (ap (λ (x : ℕ). x * r.k) o.has_blocks) (spare-true _ r.n c.args.sheet.now c.requires.long c.all_zero.ensures c.if-not-all_zero.false))
    (subst (λ (m : ℕ). Scanned r.k r.top m c.args.sheet.now c.scan_blocks.new.look) o.has_blocks c.scan_blocks.ensures)
