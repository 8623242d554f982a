-- The input of the drive program: its records, what is held after them, and the program's turns where it comes in pieces (01, "The drive program"). Assumes nothing.
use Rattle.std.specs.Prelude.{◌≡◌, List, [], ◌∷◌, ◌++◌, ℕ, ◌+◌, ◌*◌, ◌/◌, length, take, drop}
use Rattle.rules.specs.Cells.{chop}
use Rattle.rules.specs.Accept.{refused}
use Rattle.rules.specs.Records.{record_step}
use Rattle.rules.specs.declared.Settings.{Settings}

-- ---- the records of an input

-- what the program holds: the settings of the sheet held, of zeros while there is none, and the cells, the sheet first
pub record SheetHeld : Type 0 where
  pub settings : Settings
  pub cells : List ℕ

-- these settings and these cells held
abbrev pub sheet_held : Settings → List ℕ → SheetHeld
sheet_held r xs = record { settings = r; cells = xs }

-- what is held after one record: what its step leaves
abbrev pub after_record : SheetHeld → List ℕ → SheetHeld
after_record h rec = sheet_held (record_step rec h.settings h.cells).settings (record_step rec h.settings h.cells).cells

-- the records of an input: 8 bytes each, and what is left at its end, if anything, as a cut last record
unfoldable pub records_of : List ℕ → List (List ℕ)
records_of input = chop 8 ((length input + 7) / 8) input

-- records taken in turn from what is held
abbrev pub in_turn : SheetHeld → List (List ℕ) → SheetHeld
in_turn h [] = h
in_turn h (rec ∷ recs) = in_turn (after_record h rec) recs

-- what some input leaves held, from no sheet and the cells before: its records in turn
pub record OfInput (before : List ℕ) (r : Settings) (after : List ℕ) : Type 0 where
  pub input : List ℕ
  pub leaves : sheet_held r after ≡ in_turn (sheet_held refused before) (records_of input)

-- ---- the program's turns

-- what the program has between two readings: what is held, and the bytes that wait, of a record that is not whole yet
pub record Between : Type 0 where
  pub held : SheetHeld
  pub waiting : List ℕ

-- these held and these bytes waiting
abbrev pub between : SheetHeld → List ℕ → Between
between h xs = record { held = h; waiting = xs }

-- how many of the bytes in hand are of whole records
abbrev pub whole_bytes : ℕ → ℕ
whole_bytes n = n / 8 * 8

-- a turn with these bytes in hand: the whole records are taken in turn, and the bytes after them wait
unfoldable pub turn_of : SheetHeld → List ℕ → Between
turn_of h xs = between (in_turn h (records_of (take (whole_bytes (length xs)) xs))) (drop (whole_bytes (length xs)) xs)

-- a turn for each piece of the input, which comes after the bytes that wait
unfoldable pub turns_of : Between → List (List ℕ) → Between
turns_of b [] = b
turns_of b (piece ∷ pieces) = turns_of (turn_of b.held (b.waiting ++ piece)) pieces

-- at the end of the input the bytes that wait are a cut last record
abbrev pub at_end : Between → SheetHeld
at_end b = in_turn b.held (records_of b.waiting)

-- what a reading makes of that: some bytes are the next piece, and none is the end of the input
abbrev pub reading_of : Between → List ℕ → Between
reading_of b [] = between (at_end b) []
reading_of b (x ∷ xs) = turn_of b.held (b.waiting ++ (x ∷ xs))
