-- What the drive program makes of one record (01, "The drive program"). Assumes nothing.
use Rattle.std.specs.Prelude.{List, [], ◌++◌, ℕ, zero, suc, ◌+◌, ◌*◌, length, get_or, take, drop, replicate}
use Rattle.std.proofs.Math.Decide.{ℕ_discrete, dec_le, dec_lt}
use Rattle.rules.specs.Cells.{sum}
use Rattle.rules.specs.Accept.{accept, reported}
use Rattle.rules.specs.Answer.{sort_of, if_made}
use Rattle.rules.specs.Calls.{Check, Pass, Refuse, ask, and_then, bits_of, read_checks, erase_call, change_call, read_call}
use Rattle.rules.specs.declared.Settings.{Settings}
use Rattle.rules.specs.declared.Answer.{Answer}
use Rattle.rules.specs.declared.Answer.TheVariants.{BadRecord}

-- ---- the bytes of a record

-- byte 0: the operation
abbrev pub operation : List ℕ → ℕ
operation rec = get_or rec 0 0

-- byte 1: the kind
abbrev pub kind_asked : List ℕ → ℕ
kind_asked rec = get_or rec 1 0

-- byte 2: k
abbrev pub bits_asked : List ℕ → ℕ
bits_asked rec = get_or rec 2 0

-- byte 3: L
abbrev pub top_asked : List ℕ → ℕ
top_asked rec = get_or rec 3 0

-- bytes 4 and 5: n, low first
abbrev pub cells_asked : List ℕ → ℕ
cells_asked rec = get_or rec 4 0 + 256 * get_or rec 5 0

-- byte 6: the bit
abbrev pub bit_named : List ℕ → ℕ
bit_named rec = get_or rec 6 0

-- ---- BadRecord, before everything else

-- the record is whole, its operation is known and its last byte is 0
unfoldable pub check_form : List ℕ → Check
check_form rec =
    and_then (ask (ℕ_discrete (length rec) 8) BadRecord)
    (and_then (ask (dec_le 1 (operation rec)) BadRecord) (and_then (ask (dec_le (operation rec) 3) BadRecord) (ask (ℕ_discrete (get_or rec 7 0) 0) BadRecord)))

-- operations 1 and 3 use no bit
unfoldable pub check_unused : List ℕ → Check
check_unused rec = ask (ℕ_discrete (bit_named rec) 0) BadRecord

-- operations 2 and 3 have a sheet held, and its settings
unfoldable pub check_held : List ℕ → Settings → Check
check_held rec r =
    and_then (ask (dec_lt 0 r.k) BadRecord)
    (and_then (ask (ℕ_discrete (kind_asked rec) r.kind) BadRecord) (and_then (ask (ℕ_discrete (bits_asked rec) r.k) BadRecord)
    (and_then (ask (ℕ_discrete (top_asked rec) r.top) BadRecord) (ask (ℕ_discrete (cells_asked rec) r.n) BadRecord))))

-- ---- the record's work

-- what the program answers and then holds: the settings of the sheet held, of zeros while there is none, and the cells, the sheet first
pub record Step : Type 0 where
  pub answer : Answer
  pub settings : Settings
  pub cells : List ℕ

-- a refused record leaves the sheet held as it is
abbrev pub keep : Settings → List ℕ → Answer → Step
keep r xs a = record { answer = a; settings = r; cells = xs }

-- the settings held after an erase that answered so: the new ones where it is made
abbrev pub held_after : Settings → Settings → Answer → Settings
held_after new r a = if_made (sort_of a) new r

-- operation 1: new settings are accepted and their sheet is erased
abbrev pub erase_step : Settings → Settings → List ℕ → Step
erase_step new r xs = record {
  answer = (erase_call new (take new.n xs)).answer;
  settings = held_after new r (erase_call new (take new.n xs)).answer;
  cells = (erase_call new (take new.n xs)).sheet ++ drop new.n xs;
}

-- operation 2: the change of the bit named
abbrev pub change_step : Settings → List ℕ → ℕ → Step
change_step r xs i = record { answer = (change_call r (take r.n xs) i).answer; settings = r; cells = (change_call r (take r.n xs) i).sheet ++ drop r.n xs }

-- operation 3: a reading into k places
abbrev pub read_step : Settings → List ℕ → Step
read_step r xs = keep r xs (read_call r (take r.n xs) (replicate r.k 0)).answer

-- the step where the tests pass; else a refused record
abbrev pub passed : Check → Settings → List ℕ → Step → Step
passed Pass r xs s = s
passed (Refuse a) r xs s = keep r xs a

-- by the operation: its own tests, then its work
abbrev pub by_operation : ℕ → List ℕ → Settings → List ℕ → Step
by_operation zero rec r xs = keep r xs BadRecord
by_operation (suc zero) rec r xs = passed (check_unused rec) r xs (erase_step (accept (kind_asked rec) (bits_asked rec) (top_asked rec) (cells_asked rec)) r xs)
by_operation (suc (suc zero)) rec r xs = passed (check_held rec r) r xs (change_step r xs (bit_named rec))
by_operation (suc (suc (suc op))) rec r xs = passed (and_then (check_unused rec) (check_held rec r)) r xs (read_step r xs)

-- one record, with settings r held and the cells xs
unfoldable pub record_step : List ℕ → Settings → List ℕ → Step
record_step rec r xs = passed (check_form rec) r xs (by_operation (operation rec) rec r xs)

-- ---- what the program prints of the sheet held

-- the sum of its levels; 0 while no sheet is held
abbrev pub sum_held : Settings → List ℕ → ℕ
sum_held r xs = reported r (sum (take r.n xs))

-- bits are shown where a reading passes its checks
abbrev pub shown : Check → List ℕ → List ℕ
shown Pass bits = bits
shown (Refuse a) bits = []

-- its bits, bit 0 first, where these places take them; none while no sheet is held
abbrev pub bits_held : Settings → List ℕ → List ℕ → List ℕ
bits_held r xs out = shown (read_checks r (take r.n xs) out) (bits_of r (take r.n xs))

-- the places after them: the bits first, and every place after the bits as it was
abbrev pub places_held : Settings → List ℕ → List ℕ → List ℕ
places_held r xs out = bits_held r xs out ++ drop (length (bits_held r xs out)) out
