-- Laws of the cells of index blocks, one after the other: lengths, and one more written behind those before it. Assumes nothing.
use mathlib.Core.List.{List, [], ◌∷◌, ◌++◌, append_assoc, append-nil}
use Rattle.std.specs.Prelude.{◌≡◌, refl, ℕ, ◌+◌, ◌-◌, ◌*◌, ◌≤◌, ◌<◌, length, take, drop}
use Rattle.std.proofs.Common.{◌∙◌, ap₂, sym, arith, length-append, length-drop, drop_at, drop-drop, length-take-le, take_at}
use Rattle.std.proofs.Math.Path.{ap}
use borrow.Rule.Slice.PartMut.{put_mid}
use Rattle.std.proofs.lemmas.List.{length-map}
use Rattle.std.proofs.Math.Seq.{drop-length}
use Rattle.index.specs.Meaning.{cells_at}
use Rattle.laws.specs.Cut.{block-fits}
use Rattle.laws.specs.Index.{length-entry}
use Rattle.laws.specs.Lists.{length-tabulate}
use Rattle.laws.specs.Regions.{length-plus}
use Rattle.rules.specs.Batches.{entry_cells}
use Rattle.rules.specs.Cells.{tabulate}
use Rattle.rules.specs.Stage.{Entry}
use Rattle.moving.specs.Meaning.{RowFits, row_cells, slot_entries, slot_entry}
use Rattle.moving.specs.declared.route.Recorder.{Recorder}
use Rattle.moving.specs.SlotLaws.{slots-more, slots-none}

-- an index block has w cells
length-cells : (floor step w : ℕ) (e : Entry) → length (cells_at floor step w e) ≡ w
length-cells floor step w e = length-plus floor (entry_cells step w e) ∙ length-entry step w e

-- and so has each of a row
length-row : (floor step w : ℕ) (es : List Entry) → length (row_cells floor step w es) ≡ length es * w
unfolding row_cells
length-row floor step w [] = omega arith
length-row floor step w (e ∷ es) = length-append (cells_at floor step w e) (row_cells floor step w es) ∙ omega (arith, length-cells floor step w e, length-row floor step w es)

-- two rows, one after the other
row-append : (floor step w : ℕ) (es fs : List Entry) → row_cells floor step w (es ++ fs) ≡ row_cells floor step w es ++ row_cells floor step w fs
unfolding row_cells
row-append floor step w [] fs = refl
row-append floor step w (e ∷ es) fs =
    ap (λ (r : List ℕ). cells_at floor step w e ++ r) (row-append floor step w es fs) ∙ sym (append_assoc (cells_at floor step w e) (row_cells floor step w es) (row_cells floor step w fs))

-- each index block of a batch lies in it
pub slot-inside : {w floor step k : ℕ} {batch : List ℕ} (x slots : ℕ) → RowFits w floor step k batch → slots ≡ 2 * (k - 1) → x < slots → x * w + w ≤ length batch
slot-inside {w} {k = k} x slots p e h = omega (arith, block-fits w x (2 * (k - 1)) (rw e at h), p.exact)

-- ---- the batch of a route

module _ (floor step w k n : ℕ) (rs : List Recorder) where
  -- the cells of the first x index blocks
  abbrev pub front : ℕ → List ℕ
  front x = row_cells floor step w (slot_entries k n rs x)

  -- w for each
  pub length_front : (x : ℕ) → length (front x) ≡ x * w
  unfolding slot_entries
  length_front x = length-row floor step w (slot_entries k n rs x) ∙ ap (λ (m : ℕ). m * w) (length-map (tabulate x (λ i. i)) (slot_entry k n rs) ∙ length-tabulate x (λ i. i))

  -- none at first
  pub front-none : front 0 ≡ []
  unfolding row_cells
  front-none = ap (row_cells floor step w) (slots-none k n rs)

  -- one more at a time
  pub front-more : (x : ℕ) → front (x + 1) ≡ front x ++ cells_at floor step w (slot_entry k n rs x)
  unfolding row_cells
  front-more x =
      ap (row_cells floor step w) (slots-more k n rs x)
      ∙ row-append floor step w (slot_entries k n rs x) (slot_entry k n rs x ∷ [])
      ∙ ap (λ (r : List ℕ). front x ++ r) (append-nil (cells_at floor step w (slot_entry k n rs x)))

  -- no index block is written at first
  pub written_none : (batch : List ℕ) → batch ≡ front 0 ++ drop (0 * w) batch
  written_none batch =
      let z : 0 ≡ 0 * w = omega arith in
      ap₂ (λ (r : List ℕ) (m : ℕ). r ++ drop m batch) (sym front-none) z

  -- the index blocks written leave the length
  pub written-long : (x : ℕ) (batch : List ℕ) {xs : List ℕ} → x * w ≤ length batch → xs ≡ front x ++ drop (x * w) batch → length xs ≡ length batch
  written-long x batch h e = ap length e ∙ omega (arith, length-append (front x) (drop (x * w) batch), length_front x, length-drop (x * w) batch)

  module _ (x : ℕ) (batch : List ℕ) {xs : List ℕ} (fits : x * w + w ≤ length batch) (e : xs ≡ front x ++ drop (x * w) batch) where
    -- the next one has w cells
    pub next-long : length (take w (drop (x * w) xs)) ≡ w
    next-long = length-take-le w (drop (x * w) xs) (omega (arith, length-drop (x * w) xs, written-long x batch (omega arith) e))

    -- one more is written
    pub written-more : (c : List ℕ) (m : ℕ) → m ≡ w → c ≡ cells_at floor step m (slot_entry k n rs x) → put_mid (x * w) w xs c ≡ front (x + 1) ++ drop ((x + 1) * w) batch
    written-more c m q z =
        let d : List ℕ = cells_at floor step w (slot_entry k n rs x) in
        let p : x * w + w ≡ (x + 1) * w = omega arith in
        ap₂ (λ (s r : List ℕ). put_mid (x * w) w s r) e (z ∙ ap (λ (y : ℕ). cells_at floor step y (slot_entry k n rs x)) q)
        ∙ ap₂ (λ (s r : List ℕ). s ++ (d ++ drop w r)) (take_at (front x) (drop (x * w) batch) (x * w) (length_front x)) (drop_at (front x) (drop (x * w) batch) (x * w) (length_front x))
        ∙ ap (λ (r : List ℕ). front x ++ (d ++ r)) (drop-drop w (x * w) batch ∙ ap (λ (y : ℕ). drop y batch) p)
        ∙ sym (append_assoc (front x) d (drop ((x + 1) * w) batch))
        ∙ ap (λ (r : List ℕ). r ++ drop ((x + 1) * w) batch) (sym (front-more x))

  -- in the end the whole batch is written
  pub written_all : (x : ℕ) (batch : List ℕ) {xs : List ℕ} → length batch ≡ x * w → xs ≡ front x ++ drop (x * w) batch → xs ≡ front x
  written_all x batch l e = e ∙ ap (λ (r : List ℕ). front x ++ r) (ap (λ (m : ℕ). drop m batch) (sym l) ∙ drop-length batch) ∙ append-nil (front x)
