-- No byte is the end of the input, and some are a turn.
use Rattle.std.proofs.Common.{◌∙◌, arith}
use Rattle.drive.specs.Meaning.{held_of}
use Rattle.drive.specs.Laws.{reading-turned}
use Rattle.drive.proofs.Held.take_reading.Goals as goal

pub returns : goal.returns
returns c =
    let a = c.args in
    let o = c.take_turn.ensures in
    o.0 ∙ reading-turned (held_of a.self.now) a.input.now.bytes a.input.now.waiting a.count (omega arith) (omega arith)
