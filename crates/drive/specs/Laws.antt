-- Laws of the program's loop: a record more, a turn more, and the end. Assumes nothing.
use Rattle.std.specs.Prelude.{◌≡◌, refl, List, [], ◌∷◌, ◌++◌, ℕ, zero, suc, min, ◌+◌, ◌-◌, ◌/◌, ◌≤◌, ◌<◌, length, get_or, take, drop, set}
use Rattle.std.proofs.Common.{sym, ap, ap₂, ◌∙◌, subst, not-suc-le-zero, arith, add-one, length-append, length-take, length-drop, length-take-le, take_at, drop_at, take-take, take-suc, take-suc-set, drop-set-lt, drop-drop, get_or-drop, take-add}
use Rattle.std.proofs.Math.Decide.{dec_le}
use Rattle.std.proofs.Math.Seq.{paste}
use Rattle.std.specs.List.{copy_within}
use Rattle.rules.specs.Accept.{refused}
use Rattle.rules.specs.Cells.{chop, join}
use Rattle.rules.specs.Records.{record_step}
use Rattle.rules.specs.Input.{SheetHeld, sheet_held, after_record, records_of, in_turn, OfInput, Between, between, whole_bytes, turn_of, turns_of, at_end, reading_of}
use Rattle.rules.specs.declared.Settings.{Settings}
use Rattle.laws.specs.Splice.{drop-take}
use Rattle.records.specs.Meaning.{Front}
use Rattle.records.specs.Laws.{front-part, front-all}
use Rattle.records.specs.InputLaws.{turns-joined, pieces-in-turn}
use Rattle.drive.specs.Meaning.{OfPieces}

-- ---- one record more

-- a record's end is 8 bytes on, or the end of the bytes
pub front-least : (n : ℕ) (xs : List ℕ) (a : ℕ) → Front n xs a → a ≡ min n (length xs)
front-least n xs a f = f.counted ∙ ap length f.part ∙ length-take n xs

-- where there are 8 bytes more
pub end_whole : (xs : List ℕ) (a : ℕ) → 8 ≤ length xs - a → Front 8 (drop a xs) (a + 8 - a)
end_whole xs a h =
    let e : 8 ≡ a + 8 - a = omega arith in
    subst (Front 8 (drop a xs)) e (front-part 8 (drop a xs) (omega (arith, length-drop a xs)))

-- where there are fewer
pub end-cut : (xs : List ℕ) (a : ℕ) → length xs - a < 8 → Front 8 (drop a xs) (length xs - a)
end-cut xs a h = subst (Front 8 (drop a xs)) (length-drop a xs) (front-all 8 (drop a xs) (omega (arith, length-drop a xs)))

-- a record obeyed, and then the records after it
pub piece-step : {h : SheetHeld} (xs : List ℕ) (a e left : ℕ) (r s : Settings) (cells ys : List ℕ) → h ≡ in_turn (sheet_held r cells) (chop 8 left (drop a xs)) → 0 < left → a < e → Front 8 (drop a xs) (e - a) →
    ◌≡◌ {A = Settings × List ℕ} (s, ys) ((record_step (take (e - a) (drop a xs)) r cells).settings, (record_step (take (e - a) (drop a xs)) r cells).cells) →
    h ≡ in_turn (sheet_held s ys) (chop 8 (left - 1) (drop e xs))
piece-step xs a e left r s cells ys q p l f o =
    let n : left ≡ suc (left - 1) = omega arith in
    let m : a + (e - a) ≡ e = omega arith in
    q ∙ ap (λ (k : ℕ). in_turn (sheet_held r cells) (chop 8 k (drop a xs))) n
    ∙ ap (λ (zs : List ℕ). in_turn (after_record (sheet_held r cells) (take 8 (drop a xs))) (chop 8 (left - 1) zs)) (sym f.rest ∙ drop-drop (e - a) a xs ∙ ap (λ (k : ℕ). drop k xs) m)
    ∙ ap (λ (rec : List ℕ). in_turn (after_record (sheet_held r cells) rec) (chop 8 (left - 1) (drop e xs))) (sym f.part)
    ∙ ap (λ (z : Settings × List ℕ). in_turn (sheet_held z.0 z.1) (chop 8 (left - 1) (drop e xs))) (sym o)

-- a record cut off the front, 8 bytes or all that there are
cut-off : (xs : List ℕ) (a : ℕ) → a ≡ min 8 (length xs) → Front 8 xs a
cut-off xs a e = go (dec_le 8 (length xs))
  where
    go : Dec (8 ≤ length xs) → Front 8 xs a
    go (yes h) = let q : 8 ≡ a = omega arith in subst (Front 8 xs) q (front-part 8 xs h)
    go (no h) = let q : length xs ≡ a = omega arith in subst (Front 8 xs) q (front-all 8 xs (omega arith))

-- it is the first record, and the records of the bytes after it are the others
pub first-record : (xs x rest : List ℕ) → xs ≡ x ++ rest → length x ≡ min 8 (length xs) → 0 < length xs → records_of xs ≡ x ∷ records_of rest
unfolding records_of
first-record xs x rest e l p =
    let f = cut-off xs (length x) l in
    let n : (length xs + 7) / 8 ≡ suc ((length rest + 7) / 8) = omega (arith, ap length e, length-append x rest) in
    ap (λ (k : ℕ). chop 8 k xs) n
    ∙ ap₂ (λ (a b : List ℕ). a ∷ chop 8 ((length rest + 7) / 8) b)
    (sym f.part ∙ ap (take (length x)) e ∙ take_at x rest (length x) refl)
    (sym f.rest ∙ ap (drop (length x)) e ∙ drop_at x rest (length x) refl)

-- no bytes have no records
pub no-record : (xs : List ℕ) → length xs ≡ 0 → records_of xs ≡ []
unfolding records_of
no-record [] e = refl
no-record (x ∷ xs) e = absurd (omega arith)

-- ---- the rest is kept

-- one byte more at the front
pub keep-step : (xs ys : List ℕ) (from i : ℕ) → from + i < length xs → i < length ys → take i ys ≡ take i (drop from xs) → drop i ys ≡ drop i xs →
    take (i + 1) (set ys i (get_or ys (from + i) 0)) ≡ take (i + 1) (drop from xs)
keep-step xs ys from i h l t d =
    let n : from + i ≡ i + from = omega arith in
    let b : i < length (drop from xs) = omega (arith, length-drop from xs) in
    ap (λ (k : ℕ). take k (set ys i (get_or ys (from + i) 0))) (add-one i)
    ∙ take-suc-set ys i (get_or ys (from + i) 0) l
    ∙ ap₂ (λ (zs : List ℕ) (z : ℕ). zs ++ (z ∷ [])) t
    (ap (λ (k : ℕ). get_or ys k 0) n ∙ sym (get_or-drop i ys from 0) ∙ ap (λ (zs : List ℕ). get_or zs from 0) d ∙ get_or-drop i xs from 0 ∙ ap (λ (k : ℕ). get_or xs k 0) (sym n) ∙ sym (get_or-drop from xs i 0))
    ∙ sym (take-suc (drop from xs) i 0 b)
    ∙ ap (λ (k : ℕ). take k (drop from xs)) (sym (add-one i))

-- and the bytes after it as they were
pub keep-after : (xs ys : List ℕ) (i v : ℕ) → drop i ys ≡ drop i xs → drop (i + 1) (set ys i v) ≡ drop (i + 1) xs
keep-after xs ys i v d = drop-set-lt (i + 1) ys i v (omega arith) ∙ sym (drop-drop 1 i ys) ∙ ap (drop 1) d ∙ drop-drop 1 i xs

-- ---- one turn more

-- the bytes moved to the front are then in front
pub rest-kept : (xs : List ℕ) (w n : ℕ) → n ≤ length (drop w xs) → take n (copy_within xs w (w + n) 0) ≡ take n (drop w xs)
rest-kept xs w n h =
    let e : w + n - w ≡ n = omega arith in
    ap (λ (k : ℕ). take n (paste xs 0 (drop w xs) k)) e ∙ take_at (take n (drop w xs)) (drop (0 + n) xs) n (length-take-le n (drop w xs) h)

-- what is obeyed and what is kept are a turn
pub turn-made : {g : SheetHeld} {rest : List ℕ} (h : SheetHeld) (xs : List ℕ) (hand : ℕ) → hand ≤ length xs → g ≡ in_turn h (records_of (take (whole_bytes hand) xs)) → rest ≡ take (hand - whole_bytes hand) (drop (whole_bytes hand) xs) →
    between g rest ≡ turn_of h (take hand xs)
unfolding turn_of
turn-made h xs hand l p q =
    let w : whole_bytes hand ≤ hand = omega arith in
    ap₂ between (p ∙ ap (λ (zs : List ℕ). in_turn h (records_of zs)) (sym (take-take (whole_bytes hand) hand xs w))) (q ∙ sym (drop-take (whole_bytes hand) (hand - whole_bytes hand) hand xs (omega arith)))
    ∙ ap (λ (n : ℕ). between (in_turn h (records_of (take (whole_bytes n) (take hand xs)))) (drop (whole_bytes n) (take hand xs))) (sym (length-take-le hand xs l))

-- a piece more is a turn more
turns_more : (b : Between) (pieces : List (List ℕ)) (piece : List ℕ) → turn_of (turns_of b pieces).held ((turns_of b pieces).waiting ++ piece) ≡ turns_of b (pieces ++ (piece ∷ []))
unfolding turns_of
turns_more b [] piece = refl
turns_more b (p ∷ pieces) piece = turns_more (turn_of b.held (b.waiting ++ p)) pieces piece

-- at first nothing was read
pub none_read : (xs : List ℕ) → OfPieces xs refused xs []
unfolding turns_of
none_read xs = record { pieces = []; leaves = refl }

-- ---- one reading more

-- a reading of no byte is the end of the input
pub reading-ended : {g : SheetHeld} (h : SheetHeld) (xs : List ℕ) (waiting count : ℕ) → count ≡ 0 → g ≡ in_turn h (records_of (take waiting xs)) →
    between g (take 0 xs) ≡ reading_of (between h (take waiting xs)) (take count (drop waiting xs))
reading-ended h xs waiting count z p =
    ap (λ (g : SheetHeld). between g []) p ∙ ap (λ (n : ℕ). reading_of (between h (take waiting xs)) (take n (drop waiting xs))) (sym z)

-- some bytes are a turn with those that wait
reading-some : (b : Between) (xs : List ℕ) → 0 < length xs → turn_of b.held (b.waiting ++ xs) ≡ reading_of b xs
reading-some b [] l = absurd (not-suc-le-zero l)
reading-some b (x ∷ xs) l = refl

-- so is a reading of some bytes
pub reading-turned : (h : SheetHeld) (xs : List ℕ) (waiting count : ℕ) → 0 < count → waiting + count ≤ length xs →
    turn_of h (take (waiting + count) xs) ≡ reading_of (between h (take waiting xs)) (take count (drop waiting xs))
reading-turned h xs waiting count p l =
    ap (turn_of h) (take-add waiting count xs)
    ∙ reading-some (between h (take waiting xs)) (take count (drop waiting xs)) (omega (arith, length-take-le count (drop waiting xs) (omega (arith, length-drop waiting xs)), length-drop waiting xs))

-- a reading of some bytes after those that wait, and its turn
pub piece-more : {before after : List ℕ} {r s : Settings} {ys rest old : List ℕ} (new : List ℕ) (waiting count : ℕ) → OfPieces before r after old → take waiting new ≡ old → 0 < count → waiting + count ≤ length new →
    between (sheet_held s ys) rest ≡ reading_of (between (sheet_held r after) (take waiting new)) (take count (drop waiting new)) → OfPieces before s ys rest
piece-more {before} {after} {r} new waiting count o e p l t = record {
  pieces = o.pieces ++ (take count (drop waiting new) ∷ []);
  leaves =
      t ∙ sym (reading-turned (sheet_held r after) new waiting count p l)
      ∙ ap (turn_of (sheet_held r after)) (take-add waiting count new ∙ ap (λ (zs : List ℕ). zs ++ take count (drop waiting new)) e)
      ∙ ap (λ (b : Between). turn_of b.held (b.waiting ++ take count (drop waiting new))) o.leaves
      ∙ turns_more _ o.pieces (take count (drop waiting new));
}

-- ---- the end

-- where the program stops, the whole records so far are an input
pub input-stopped : {before after waiting : List ℕ} {r : Settings} → OfPieces before r after waiting → OfInput before r after
unfolding turn_of
input-stopped {before} o = record {
  input = take (whole_bytes (length (join o.pieces))) (join o.pieces);
  leaves = ap (λ (b : Between). b.held) (o.leaves ∙ turns-joined (sheet_held refused before) [] o.pieces (omega arith));
}

-- where the input ends, all of it is
input-ended : {before after waiting ys : List ℕ} {r s : Settings} → OfPieces before r after waiting → sheet_held s ys ≡ in_turn (sheet_held r after) (records_of waiting) → OfInput before s ys
input-ended {before} o e = record {
  input = join o.pieces;
  leaves = e ∙ ap at_end o.leaves ∙ pieces-in-turn (sheet_held refused before) o.pieces;
}

-- after a reading the records so far are those of an input: all of it, where it has ended
pub input-read : {before after : List ℕ} {r s : Settings} {ys rest old : List ℕ} (new : List ℕ) (waiting count : ℕ) → OfPieces before r after old → take waiting new ≡ old → waiting + count ≤ length new →
    between (sheet_held s ys) rest ≡ reading_of (between (sheet_held r after) (take waiting new)) (take count (drop waiting new)) → OfInput before s ys
input-read {after = after} {r = r} new waiting zero o e l t =
    input-ended o (ap (λ (b : Between). b.held) t ∙ ap (λ (zs : List ℕ). in_turn (sheet_held r after) (records_of zs)) e)
input-read new waiting (suc n) o e l t = input-stopped (piece-more new waiting (suc n) o e (omega arith) l t)
