-- Each arm is what the record asks for, and every other record is refused.
use Rattle.std.specs.Prelude.{◌≡◌}
use Rattle.std.proofs.Common.{refl, sym, ap, ◌∙◌, arith}
use Rattle.rules.specs.Accept.{accept}
use Rattle.rules.specs.Records.{kind_asked, bits_asked, top_asked, cells_asked, erase_step}
use Rattle.rules.specs.declared.Settings.{Settings}
use Rattle.records.specs.Laws.{held-asked, not-formed, erases, erase-refused, changes, change-refused, reads, read-refused, read-other-refused}
use Rattle.records.proofs.operation_of.Goals as goal

pub returns-in_default : goal.returns-in_default
returns-in_default c = not-formed _ _ (λ f. omega (arith, f.whole))

pub returns-in_default-2 : goal.returns-in_default-2
returns-in_default-2 c = not-formed _ _ (λ f. omega (arith, f.whole, f.last))

pub returns-in_default-3 : goal.returns-in_default-3
returns-in_default-3 c = not-formed _ _ (λ f. omega (arith, f.whole))

pub returns-in-1 : goal.returns-in-1
returns-in-1 c xs =
    let e : c.from-n.result ≡ cells_asked c.args.bytes.now = omega (arith, c.from_le_bytes.ensures, c.from-n.ensures) in
    erases _ _ (omega arith) (omega arith) (omega arith) (omega arith) xs ∙ sym (ap (λ (s : Settings). erase_step s c.args.held xs) (c.work_out.ensures ∙ ap (accept (kind_asked c.args.bytes.now) (bits_asked c.args.bytes.now) (top_asked c.args.bytes.now)) e))

pub returns-in-2 : goal.returns-in-2
returns-in-2 c =
    let e : c.from-n.result ≡ cells_asked c.args.bytes.now = omega (arith, c.from_le_bytes.ensures, c.from-n.ensures) in
    changes _ _ (omega arith) (omega arith) (omega arith) ((held-asked _ _ e).0 (c.if-same.ensures.0 refl))

pub returns-in-3 : goal.returns-in-3
returns-in-3 c =
    let e : c.from-n.result ≡ cells_asked c.args.bytes.now = omega (arith, c.from_le_bytes.ensures, c.from-n.ensures) in
    reads _ _ (omega arith) (omega arith) (omega arith) (omega arith) ((held-asked _ _ e).0 (c.if-same-2.ensures.0 refl))

pub returns-in_default-operation : goal.returns-in_default-operation
returns-in_default-operation c = erase-refused _ _ (omega arith) (omega arith) (omega arith) c.if-bit-eq0.false

pub returns-in_default-operation-2 : goal.returns-in_default-operation-2
returns-in_default-operation-2 c =
    let e : c.from-n.result ≡ cells_asked c.args.bytes.now = omega (arith, c.from_le_bytes.ensures, c.from-n.ensures) in
    change-refused _ _ (omega arith) (omega arith) (omega arith) (λ h. cc (c.if-same.ensures.1 ((held-asked c.args.bytes.now c.args.held e).1 h)))

pub returns-in_default-operation-3 : goal.returns-in_default-operation-3
returns-in_default-operation-3 c =
    let e : c.from-n.result ≡ cells_asked c.args.bytes.now = omega (arith, c.from_le_bytes.ensures, c.from-n.ensures) in
    read-other-refused _ _ (omega arith) (omega arith) (omega arith) (omega arith) (λ h. cc (c.if-same-2.ensures.1 ((held-asked c.args.bytes.now c.args.held e).1 h)))

pub returns-in_default-operation-4 : goal.returns-in_default-operation-4
returns-in_default-operation-4 c = read-refused _ _ (omega arith) (omega arith) (omega arith) c.if-bit-eq0-2.false

pub returns-in_default-operation-5 : goal.returns-in_default-operation-5
returns-in_default-operation-5 c = not-formed c.args.bytes.now _ (λ f. omega (arith, f.least, f.most))
