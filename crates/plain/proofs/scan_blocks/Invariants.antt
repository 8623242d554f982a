-- `plain::scan_blocks` meets its contract: at block j the bits of the active blocks below j are noted, and where they differ all is known of those blocks. Assumes nothing.
use Rattle.std.proofs.Common.{◌≡◌, ◌+◌, ◌≤◌, length, take}
use Rattle.std.specs.Prelude.{None}
use Rattle.rules.specs.Accept.{most_bits}
use Rattle.rules.specs.Plain.{states}
use Rattle.plain.specs.Laws.{Noted}
use Rattle.plain.specs.OrderLaws.{Ordered}
use Rattle.plain.proofs.scan_blocks.Given as goal

-- where the bits noted differ, all is known of the blocks below the one at hand; those in use stand first, and no block so far is empty
abbrev pub invariant-loop-j : goal.invariant-loop-j
invariant-loop-j l =
    let b = l.blocks in
    let st = states b.len b.top b.cells.now in
    record {
      of : l.j-iterator.blocks ≡ b;
      few : l.n ≤ b.len;
      long : (length l.look.bits ≡ most_bits) × (length l.noted ≡ most_bits + 1);
      noted : Noted b.len b.count st l.j-iterator.at l.look.bits (take l.n l.noted);
      ordered : Ordered st b.count l.j-iterator.at b.count l.full;
      none : (l.look.free ≡ None) × (l.look.batch ≡ 0);
    }
