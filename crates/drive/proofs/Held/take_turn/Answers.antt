-- The whole records are obeyed, and what is moved to the front is what stands after them.
use Rattle.std.proofs.Common.{◌≡◌, ◌+◌, ◌-◌, ap, ◌∙◌, refl, ℕ, take, arith, length-drop}
use Rattle.std.specs.List.{copy_within}
use Rattle.rules.specs.Input.{whole_bytes}
use Rattle.drive.specs.Meaning.{held_of}
use Rattle.drive.specs.Laws.{turn-made, rest-kept}
use Rattle.drive.proofs.Held.take_turn.Goals as goal

pub returns : goal.returns
returns c =
    let a = c.args in
    let o = c.obey_piece.ensures in
    let xs = a.input.now.bytes in
    let w : ℕ = whole_bytes a.hand in
    let e : a.hand ≡ w + (a.hand - w) = omega arith in
    let kept = ap (take (a.hand - w)) (c.copy_within.ensures.after ∙ ap (λ (n : ℕ). copy_within xs w n 0) e) ∙ rest-kept xs w (a.hand - w) (omega (arith, length-drop w xs)) in
    (turn-made (held_of a.self.now) xs a.hand (omega arith) o kept, refl)
