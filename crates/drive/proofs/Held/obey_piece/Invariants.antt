-- What the records of the piece leave is what those that are left leave of what is held, and their lines have room.
use Rattle.std.proofs.Common.{◌≡◌, ◌+◌, ◌*◌, ◌/◌, ◌≤◌, length}
use Rattle.std.specs.Slice.Iter.{chunks_rest, chunks_size}
use Rattle.rules.specs.Input.{records_of, in_turn}
use Rattle.drive.specs.Meaning.{held_of}
use Rattle.drive.proofs.Held.obey_piece.Given as goal

abbrev pub invariant-loop-record : goal.invariant-loop-record
invariant-loop-record l =
    (chunks_size l.record-iterator ≡ 8) × (l.lines.end + (length (chunks_rest l.record-iterator) + 7) / 8 * 128 ≤ 8192)
    × (in_turn (held_of l.initial.self) (records_of l.bytes) ≡ in_turn (held_of l.self) (records_of (chunks_rest l.record-iterator)))
