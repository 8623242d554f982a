-- What the program's loop keeps. Assumes nothing.
use Rattle.std.specs.Prelude.{◌≡◌, List, [], ℕ, take}
use Rattle.rules.specs.Accept.{refused}
use Rattle.rules.specs.Input.{SheetHeld, sheet_held, between, turns_of}
use Rattle.rules.specs.declared.Settings.{Settings}
use Rattle.drive.specs.declared.Held.{Held}
use Rattle.drive.specs.declared.Input.{Input}

-- what the program holds, as settings and cells
abbrev pub held_of : Held → SheetHeld
held_of h = sheet_held h.settings h.cells

-- the bytes that wait
abbrev pub waiting_of : Input → List ℕ
waiting_of i = take i.waiting i.bytes

-- what the turns of some pieces of an input leave, from no sheet and the cells before: settings, cells and the bytes that wait
pub record OfPieces (before : List ℕ) (r : Settings) (after waiting : List ℕ) : Type 0 where
  pub pieces : List (List ℕ)
  pub leaves : between (sheet_held r after) waiting ≡ turns_of (between (sheet_held refused before) []) pieces
