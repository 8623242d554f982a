-- Laws of an input's records: however it comes in pieces, the program's turns come to its records in turn; and what is then held. Assumes nothing.
use Rattle.std.specs.Prelude.{◌≡◌, refl, List, [], ◌∷◌, ◌++◌, ℕ, ◌+◌, ◌*◌, ◌/◌, ◌%◌, ◌≤◌, ◌<◌, length, take, drop}
use Rattle.std.proofs.Common.{sym, ap, ap₂, ◌∙◌, subst, append_assoc, append-nil, arith, length-append, length-drop, take-append-drop, length-take-le, take_at, drop_at}
use Rattle.std.proofs.Math.Seq.{take-append-add, drop-append-add}
use Rattle.rules.specs.Cells.{chop, join}
use Rattle.rules.specs.Accept.{refused}
use Rattle.rules.specs.Input.{SheetHeld, sheet_held, after_record, records_of, in_turn, OfInput, between, whole_bytes, turn_of, turns_of, at_end}
use Rattle.rules.specs.declared.Settings.{Settings}
use Rattle.laws.specs.Parts.{chop-add, chop-take}
use Rattle.records.specs.HeldLaws.{Holding, Reached, at_first, after_one, reached-holds}

-- ---- records and what follows them

-- the records of whole ones' bytes and of what follows: first those, then these
pub records-append : (a b : List ℕ) → length a % 8 ≡ 0 → records_of (a ++ b) ≡ records_of a ++ records_of b
unfolding records_of
records-append a b h =
    let n : ℕ = length a / 8 in
    let e : length a ≡ n * 8 = omega arith in
    let p : (length (a ++ b) + 7) / 8 ≡ n + (length b + 7) / 8 = omega (arith, length-append a b) in
    let q : n ≡ (length a + 7) / 8 = omega arith in
    let l : n * 8 ≤ n * 8 = omega arith in
    ap (λ (x : ℕ). chop 8 x (a ++ b)) p
    ∙ chop-add 8 n ((length b + 7) / 8) (a ++ b)
    ∙ ap₂ (λ (x y : List (List ℕ)). x ++ y)
    (sym (chop-take 8 n (n * 8) (a ++ b) l) ∙ ap (chop 8 n) (take_at a b (n * 8) e) ∙ ap (λ (x : ℕ). chop 8 x a) q)
    (ap (chop 8 ((length b + 7) / 8)) (drop_at a b (n * 8) e))

-- nine bytes are a record and a cut one
pub nine-bytes : records_of (2 ∷ 0 ∷ 2 ∷ 1 ∷ 4 ∷ 0 ∷ 1 ∷ 0 ∷ 3 ∷ []) ≡ (2 ∷ 0 ∷ 2 ∷ 1 ∷ 4 ∷ 0 ∷ 1 ∷ 0 ∷ []) ∷ (3 ∷ []) ∷ []
unfolding records_of
nine-bytes = refl

-- records in turn and then others are all of them in turn
pub in-turn-append : (h : SheetHeld) (a b : List (List ℕ)) → in_turn h (a ++ b) ≡ in_turn (in_turn h a) b
in-turn-append h [] b = refl
in-turn-append h (rec ∷ a) b = in-turn-append (after_record h rec) a b

-- so for the bytes of whole records and what follows
pub in-turn-bytes : (h : SheetHeld) (a b : List ℕ) → length a % 8 ≡ 0 → in_turn (in_turn h (records_of a)) (records_of b) ≡ in_turn h (records_of (a ++ b))
in-turn-bytes h a b e = sym (ap (in_turn h) (records-append a b e) ∙ in-turn-append h (records_of a) (records_of b))

-- ---- turns

-- the whole records' bytes are whole records
whole-sized : (xs : List ℕ) → length (take (whole_bytes (length xs)) xs) ≡ whole_bytes (length xs)
whole-sized xs = length-take-le (whole_bytes (length xs)) xs (omega arith)

-- what waits after a turn is less than a record
pub turn-waits : (h : SheetHeld) (xs : List ℕ) → length (turn_of h xs).waiting < 8
unfolding turn_of
turn-waits h xs = omega (arith, length-drop (whole_bytes (length xs)) xs)

-- a turn and then one with more bytes is one turn with all of them
pub turn_more : (h : SheetHeld) (xs ys : List ℕ) → turn_of (turn_of h xs).held ((turn_of h xs).waiting ++ ys) ≡ turn_of h (xs ++ ys)
unfolding turn_of
turn_more h xs ys =
    let w : ℕ = whole_bytes (length xs) in
    let a : List ℕ = take w xs in
    let b : List ℕ = drop w xs ++ ys in
    let v : ℕ = whole_bytes (length b) in
    let s : length a ≡ w = whole-sized xs in
    let d : length a % 8 ≡ 0 = omega arith in
    let t : xs ++ ys ≡ a ++ b = ap (λ (z : List ℕ). z ++ ys) (sym (take-append-drop w xs)) ∙ append_assoc a (drop w xs) ys in
    let n : length a + v ≡ whole_bytes (length (a ++ b)) = omega (arith, length-append a b) in
    ap₂ between
    (in-turn-bytes h a (take v b) d ∙ ap (λ (z : List ℕ). in_turn h (records_of z)) (sym (take-append-add a b v) ∙ ap (λ (z : ℕ). take z (a ++ b)) n))
    (sym (drop-append-add a b v) ∙ ap (λ (z : ℕ). drop z (a ++ b)) n)
    ∙ ap (λ (z : List ℕ). turn_of h z) (sym t)

-- however the input comes in pieces, the turns come to one turn with all the bytes
pub turns-joined : (h : SheetHeld) (waiting : List ℕ) (pieces : List (List ℕ)) → length waiting < 8 → turns_of (between h waiting) pieces ≡ turn_of h (waiting ++ join pieces)
unfolding turns_of turn_of records_of
turns-joined h waiting [] l =
    let z : whole_bytes (length waiting) ≡ 0 = omega arith in
    sym (ap (turn_of h) (append-nil waiting) ∙ ap (λ (n : ℕ). between (in_turn h (records_of (take n waiting))) (drop n waiting)) z)
turns-joined h waiting (piece ∷ pieces) l =
    turns-joined (turn_of h (waiting ++ piece)).held (turn_of h (waiting ++ piece)).waiting pieces (turn-waits h (waiting ++ piece))
    ∙ turn_more h (waiting ++ piece) (join pieces)
    ∙ ap (turn_of h) (append_assoc waiting piece (join pieces))

-- a turn, and then the end of the input, take every record, a cut last one included
pub turn-ended : (h : SheetHeld) (xs : List ℕ) → at_end (turn_of h xs) ≡ in_turn h (records_of xs)
unfolding turn_of
turn-ended h xs =
    let w : ℕ = whole_bytes (length xs) in
    let s : length (take w xs) ≡ w = whole-sized xs in
    in-turn-bytes h (take w xs) (drop w xs) (omega arith) ∙ ap (λ (z : List ℕ). in_turn h (records_of z)) (take-append-drop w xs)

-- however the input comes in pieces, at its end its records are taken in turn, a cut last one included
pub pieces-in-turn : (h : SheetHeld) (pieces : List (List ℕ)) → at_end (turns_of (between h []) pieces) ≡ in_turn h (records_of (join pieces))
pieces-in-turn h pieces = ap at_end (turns-joined h [] pieces (omega arith)) ∙ turn-ended h (join pieces)

-- ---- what is held then

-- records in turn from what is reached
reached-in-turn : (h : SheetHeld) (recs : List (List ℕ)) → Reached h.settings h.cells → Reached (in_turn h recs).settings (in_turn h recs).cells
reached-in-turn h [] q = q
reached-in-turn h (rec ∷ recs) q = reached-in-turn (after_record h rec) recs (after_one rec q)

-- whatever the input, what is held after it is no sheet or an accepted one
pub input-holds : (before : List ℕ) (r : Settings) (after : List ℕ) → OfInput before r after → Holding r after
input-holds before r after o =
    subst (λ (h : SheetHeld). Holding h.settings h.cells) (sym o.leaves) (reached-holds (reached-in-turn (sheet_held refused before) (records_of o.input) at_first))
