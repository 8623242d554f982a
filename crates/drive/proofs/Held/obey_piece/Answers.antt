-- One record more is obeyed, and where no bytes are left there is none.
use Rattle.std.proofs.Common.{length, sym, ap, ◌∙◌, List, ℕ, arith, length-append}
use Rattle.std.specs.Slice.Iter.{chunks_rest}
use Rattle.rules.specs.Input.{SheetHeld, records_of, in_turn}
use Rattle.drive.specs.Meaning.{held_of}
use Rattle.drive.specs.Laws.{first-record, no-record}
use Rattle.drive.proofs.Held.obey_piece.Goals as goal

pub loop-record-preserved : goal.loop-record-preserved
loop-record-preserved c =
    let t = c.loop-record in
    let s = c.in-Some.ensures.steps in
    let rest : List ℕ = chunks_rest c.next.new.self in
    let first = first-record (chunks_rest t.record-iterator) c.in-Some.record.now rest s.1.0 (omega (arith, s.1.1, t.invariant.0)) s.1.2 in (
      s.0 ∙ t.invariant.0,
      omega (arith, ap length s.1.0, length-append c.in-Some.record.now rest, s.1.1, s.1.2),
      t.invariant.2 ∙ ap (in_turn (held_of t.self)) first ∙ ap (λ (h : SheetHeld). in_turn h (records_of rest)) (sym c.obey-answer.ensures),
    )

pub returns : goal.returns
returns c =
    let t = c.loop-record in
    sym (t.invariant.2 ∙ ap (in_turn (held_of t.self)) (no-record _ c.in-None.ensures.steps.1.0))
