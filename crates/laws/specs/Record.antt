-- Laws of the values that the live blocks of a stage record: sizes, one value more, and what the index blocks say then. W is the weight of a full parity block. Assumes nothing.
use Rattle.std.specs.Prelude.{List, [], ◌∷◌, ◌≢◌, ◌≡◌, refl, ℕ, suc, ◌+◌, ◌%◌, ◌≤◌, ◌<◌, length, get_or, set, take}
use Rattle.std.proofs.Common.{◌∙◌, ap, ap₂, sym, le_of_suc-le-suc, not-suc-le-zero, arith}
use Rattle.std.proofs.Math.Decide.{ℕ_discrete}
use Rattle.laws.specs.Live.{live_block}
use Rattle.laws.specs.LiveBlock.{LiveAt, block-full, head, live_at, past, skip}
use Rattle.laws.specs.Stage.{Sized, raise-length, raise-low}
use Rattle.rules.specs.Cells.{Low, sum}
use Rattle.rules.specs.Search.{pick}
use Rattle.rules.specs.SearchLaws.{pick-elim, pick_no, pick_yes}
use Rattle.rules.specs.Stage.{Entry, closed, index, live_weights, raise, record_all, recorded, recorded_entries}

-- ---- sizes

-- a block that records a value keeps its cells
pub recorded-length : (L v : ℕ) (b : List ℕ) → length (recorded L v b) ≡ length b
recorded-length L v b = pick-elim (λ r. length r ≡ length b) (ℕ_discrete (sum b % 2) v) _ _ (λ e. refl) (λ e. raise-length L b)

-- and no level goes above L
recorded-low : (L v : ℕ) (b : List ℕ) → Low L b → Low L (recorded L v b)
recorded-low L v b h = pick-elim (Low L) (ℕ_discrete (sum b % 2) v) _ _ (λ e. h) (λ e. raise-low L b h)

-- the blocks keep their size
pub record-sized : (W w L : ℕ) (vs : List ℕ) (bs : List (List ℕ)) → Sized w L bs → Sized w L (record_all W L vs bs)
record-sized W w L vs [] h = tt
record-sized W w L [] (b ∷ bs) h = h
record-sized W w L (v ∷ vs) (b ∷ bs) h = pick-elim (Sized w L) (ℕ_discrete (sum b) W) _ _
    (λ e. (h.0, h.1, record-sized W w L (v ∷ vs) bs h.2)) (λ e. (recorded-length L v b ∙ h.0, recorded-low L v b h.1, record-sized W w L vs bs h.2))

-- as many entries as blocks that are not full
pub length-entries : (W L u : ℕ) (vs : List ℕ) (bs : List (List ℕ)) → length (recorded_entries W L u vs bs) ≡ length (live_weights W bs)
length-entries W L u vs [] = refl
length-entries W L u [] (b ∷ bs) = elim (ℕ_discrete (sum b) W) as (λ d. length (pick d (recorded_entries W L u [] bs) (index 0 ∷ recorded_entries W L u [] bs)) ≡ length (pick d (live_weights W bs) (sum b ∷ live_weights W bs))) [
  | yes e ↦ length-entries W L u [] bs
  | no e ↦ ap suc (length-entries W L u [] bs)
]
length-entries W L u (v ∷ vs) (b ∷ bs) =
    let M : List Entry = pick (ℕ_discrete (sum (recorded L v b)) W) closed (index u) ∷ recorded_entries W L (suc u) vs bs in
    elim (ℕ_discrete (sum b) W) as (λ d. length (pick d (recorded_entries W L u (v ∷ vs) bs) M) ≡ length (pick d (live_weights W bs) (sum b ∷ live_weights W bs))) [
      | yes e ↦ length-entries W L u (v ∷ vs) bs
      | no e ↦ ap suc (length-entries W L (suc u) vs bs)
    ]

-- ---- a block that records a value

-- one with that parity stays
pub recorded-same : (L v : ℕ) (b : List ℕ) → sum b % 2 ≡ v → recorded L v b ≡ b
recorded-same L v b h = pick_yes (ℕ_discrete (sum b % 2) v) b (raise L b) h

-- and one with another is raised
pub recorded-other : (L v : ℕ) (b : List ℕ) → sum b % 2 ≢ v → recorded L v b ≡ raise L b
recorded-other L v b h = pick_no (ℕ_discrete (sum b % 2) v) b (raise L b) h

-- ---- one value more

-- with no value the blocks stay
pub record-none : (W L : ℕ) (bs : List (List ℕ)) → record_all W L [] bs ≡ bs
record-none W L [] = refl
record-none W L (b ∷ bs) = refl

-- a full block stays, and takes no value
record-full : (W L : ℕ) (vs b : List ℕ) (bs : List (List ℕ)) → sum b ≡ W → record_all W L vs (b ∷ bs) ≡ b ∷ record_all W L vs bs
record-full W L [] b bs e = ap {B = List (List ℕ)} (λ r. b ∷ r) (sym (record-none W L bs))
record-full W L (v ∷ vs) b bs e = pick_yes (ℕ_discrete (sum b) W) _ _ e

module _ (W L : ℕ) where
  -- one value more, by where its block stands
  turn_at : {t : ℕ} {bs : List (List ℕ)} (vs : List ℕ) → LiveAt W t bs → t < length vs
      → record_all W L (take (suc t) vs) bs ≡ set (record_all W L (take t vs) bs) (live_block W t bs) (recorded L (get_or vs t 0) (get_or bs (live_block W t bs) []))
  turn_at [] r h = absurd (not-suc-le-zero h)
  turn_at (v ∷ vs) (head b bs n) h =
      pick_no (ℕ_discrete (sum b) W) _ _ n
      ∙ ap {B = List (List ℕ)} (λ r. recorded L v b ∷ r) (record-none W L bs)
      ∙ sym (ap (λ (j : ℕ). set (b ∷ bs) j (recorded L v (get_or (b ∷ bs) j []))) (pick_no (ℕ_discrete (sum b) W) _ _ n))
  turn_at {t} (v ∷ vs) (skip {bs = bs} b e r) h =
      record-full W L (take (suc t) (v ∷ vs)) b bs e
      ∙ ap {B = List (List ℕ)} (λ l. b ∷ l) (turn_at {t = t} {bs = bs} (v ∷ vs) r h)
      ∙ sym (ap₂ (λ (l : List (List ℕ)) (j : ℕ). set l j (recorded L (get_or (v ∷ vs) t 0) (get_or (b ∷ bs) j []))) (record-full W L (take t (v ∷ vs)) b bs e) (block-full W t b bs e))
  turn_at (v ∷ vs) (past {t} {bs} b n r) h =
      pick_no (ℕ_discrete (sum b) W) _ _ n
      ∙ ap {B = List (List ℕ)} (λ l. recorded L v b ∷ l) (turn_at vs r (le_of_suc-le-suc h))
      ∙ sym (ap₂ (λ (l : List (List ℕ)) (j : ℕ). set l j (recorded L (get_or vs t 0) (get_or (b ∷ bs) j []))) (pick_no (ℕ_discrete (sum b) W) _ _ n) (pick_no (ℕ_discrete (sum b) W) _ _ n))

  -- one value more is the t-th live block set to record it
  pub record-turn : (t : ℕ) (vs : List ℕ) (bs : List (List ℕ)) → t < length vs → t < length (live_weights W bs)
      → record_all W L (take (suc t) vs) bs ≡ set (record_all W L (take t vs) bs) (live_block W t bs) (recorded L (get_or vs t 0) (get_or bs (live_block W t bs) []))
  record-turn t vs bs h l = turn_at vs (live_at W t bs l) h

  -- the t-th live block is as it was, by where it stands
  ahead-at : {t : ℕ} {bs : List (List ℕ)} (vs : List ℕ) → LiveAt W t bs → get_or (record_all W L (take t vs) bs) (live_block W t bs) [] ≡ get_or bs (live_block W t bs) []
  ahead-at vs (head b bs n) = refl
  ahead-at {t} vs (skip {bs = bs} b e r) =
      ap₂ (λ (l : List (List ℕ)) (j : ℕ). get_or l j []) (record-full W L (take t vs) b bs e) (block-full W t b bs e)
      ∙ ahead-at vs r
      ∙ sym (ap (λ (j : ℕ). get_or (b ∷ bs) j []) (block-full W t b bs e))
  ahead-at [] (past b n r) = refl
  ahead-at (v ∷ vs) (past {t} {bs} b n r) =
      ap₂ (λ (l : List (List ℕ)) (j : ℕ). get_or l j []) (pick_no (ℕ_discrete (sum b) W) _ _ n) (pick_no (ℕ_discrete (sum b) W) _ _ n)
      ∙ ahead-at vs r
      ∙ sym (ap (λ (j : ℕ). get_or (b ∷ bs) j []) (pick_no (ℕ_discrete (sum b) W) _ _ n))

  -- until its value is recorded the t-th live block is as it was
  pub record-ahead : (t : ℕ) (vs : List ℕ) (bs : List (List ℕ)) → t < length (live_weights W bs) → get_or (record_all W L (take t vs) bs) (live_block W t bs) [] ≡ get_or bs (live_block W t bs) []
  record-ahead t vs bs l = ahead-at vs (live_at W t bs l)

  -- ---- what the index blocks say

  -- a full block has no index block
  entries-full : (u : ℕ) (vs b : List ℕ) (bs : List (List ℕ)) → sum b ≡ W → recorded_entries W L u vs (b ∷ bs) ≡ recorded_entries W L u vs bs
  entries-full u [] b bs e = pick_yes (ℕ_discrete (sum b) W) _ _ e
  entries-full u (v ∷ vs) b bs e = pick_yes (ℕ_discrete (sum b) W) _ _ e

  -- the t-th says its number, or is full, by where its block stands
  named-at : {t : ℕ} {bs : List (List ℕ)} (u : ℕ) (vs : List ℕ) (z : Entry) → LiveAt W t bs → t < length vs
      → get_or (recorded_entries W L u vs bs) t z ≡ pick (ℕ_discrete (sum (recorded L (get_or vs t 0) (get_or bs (live_block W t bs) []))) W) closed (index (u + t))
  named-at u [] z r h = absurd (not-suc-le-zero h)
  named-at u (v ∷ vs) z (head b bs n) h =
      let q : u ≡ u + 0 = omega arith in
      ap (λ (es : List Entry). get_or es 0 z) (pick_no (ℕ_discrete (sum b) W) _ _ n)
      ∙ ap₂ (λ (x j : ℕ). pick (ℕ_discrete (sum (recorded L v (get_or (b ∷ bs) j []))) W) closed (index x)) q (sym (pick_no (ℕ_discrete (sum b) W) _ _ n))
  named-at {t} u (v ∷ vs) z (skip {bs = bs} b e r) h =
      ap (λ (es : List Entry). get_or es t z) (entries-full u (v ∷ vs) b bs e)
      ∙ named-at {t = t} {bs = bs} u (v ∷ vs) z r h
      ∙ ap (λ (j : ℕ). pick (ℕ_discrete (sum (recorded L (get_or (v ∷ vs) t 0) (get_or (b ∷ bs) j []))) W) closed (index (u + t))) (sym (block-full W t b bs e))
  named-at u (v ∷ vs) z (past {t} {bs} b n r) h =
      let q : suc u + t ≡ u + suc t = omega arith in
      ap (λ (es : List Entry). get_or es (suc t) z) (pick_no (ℕ_discrete (sum b) W) _ _ n)
      ∙ named-at (suc u) vs z r (le_of_suc-le-suc h)
      ∙ ap₂ (λ (x j : ℕ). pick (ℕ_discrete (sum (recorded L (get_or vs t 0) (get_or (b ∷ bs) j []))) W) closed (index x)) q (sym (pick_no (ℕ_discrete (sum b) W) _ _ n))

  -- the index block of the t-th value has the number of its bit, or is full
  pub entry_named : (u t : ℕ) (vs : List ℕ) (bs : List (List ℕ)) (z : Entry) → t < length vs → t < length (live_weights W bs)
      → get_or (recorded_entries W L u vs bs) t z ≡ pick (ℕ_discrete (sum (recorded L (get_or vs t 0) (get_or bs (live_block W t bs) []))) W) closed (index (u + t))
  entry_named u t vs bs z h l = named-at u vs z (live_at W t bs l) h

  -- one past the values is 0, by where its block stands
  free-at : {t : ℕ} {bs : List (List ℕ)} (u : ℕ) (vs : List ℕ) (z : Entry) → LiveAt W t bs → length vs ≤ t → get_or (recorded_entries W L u vs bs) t z ≡ index 0
  free-at {t} u vs z (skip {bs = bs} b e r) h = ap (λ (es : List Entry). get_or es t z) (entries-full u vs b bs e) ∙ free-at u vs z r h
  free-at u [] z (head b bs n) h = ap (λ (es : List Entry). get_or es 0 z) (pick_no (ℕ_discrete (sum b) W) _ _ n)
  free-at u (v ∷ vs) z (head b bs n) h = absurd (not-suc-le-zero h)
  free-at u [] z (past {t} {bs} b n r) h = ap (λ (es : List Entry). get_or es (suc t) z) (pick_no (ℕ_discrete (sum b) W) _ _ n) ∙ free-at u [] z r (omega arith)
  free-at u (v ∷ vs) z (past {t} {bs} b n r) h = ap (λ (es : List Entry). get_or es (suc t) z) (pick_no (ℕ_discrete (sum b) W) _ _ n) ∙ free-at (suc u) vs z r (le_of_suc-le-suc h)

  -- the index block of a live block past the values is free
  pub entry_free : (u t : ℕ) (vs : List ℕ) (bs : List (List ℕ)) (z : Entry) → length vs ≤ t → t < length (live_weights W bs) → get_or (recorded_entries W L u vs bs) t z ≡ index 0
  entry_free u t vs bs z h l = free-at u vs z (live_at W t bs l) h
