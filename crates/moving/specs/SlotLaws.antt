-- Laws of what the index blocks of the batch say after a move: they are the entries of the rules, and one more at a time. Assumes nothing.
use mathlib.Core.List.{List, [], ◌∷◌, ◌++◌, map}
use Rattle.std.specs.Prelude.{◌≢◌, ◌≡◌, refl, replicate}
use Rattle.std.proofs.Common.{◌∙◌, le_of_suc-le-suc, not-suc-le-zero, add-one, length-append, get_or-append-add}
use Rattle.std.proofs.Math.Path.{ap, sym}
use Prim.Native.Nat.{ℕ, zero, suc, ◌+◌, ◌-◌, ◌*◌, ◌%◌, ◌^◌, ◌≤◌, ◌<◌}
use Rattle.std.proofs.Math.Decide.{dec_lt, ℕ_discrete}
use native.Mathlib.Omega.{arith}
use Rattle.std.proofs.Math.ListN.{length, get_or, length-map, length-replicate, get_or-append}
use Rattle.std.proofs.lemmas.List.{get_or-replicate}
use Rattle.std.proofs.Math.Seq.{ext_get_or}
use Rattle.index.specs.Meaning.{Holds}
use Rattle.laws.specs.Lists.{get_or-tabulate, length-tabulate, tabulate-more}
use Rattle.laws.specs.Live.{live, live_block}
use Rattle.laws.specs.LiveBlock.{live-block-in, live-block-open, live-block-sum}
use Rattle.laws.specs.Parts.{map-append}
use Rattle.laws.specs.Record.{entry_free, entry_named, length-entries, recorded-other, recorded-same}
use Rattle.laws.specs.Stage.{Sized, raise-sum}
use Rattle.rules.specs.Cells.{Low, sum, tabulate}
use Rattle.rules.specs.Search.{pick}
use Rattle.rules.specs.SearchLaws.{pick-elim, pick_no, pick_yes}
use Rattle.rules.specs.Stage.{Entry, closed, index, live_weights, recorded, recorded_entries}
use Rattle.moving.specs.Meaning.{Routed, mark, mark_at, named_entry, slot_entries, slot_entry}
use Rattle.moving.specs.declared.route.Mark.{Mark}
use Rattle.moving.specs.declared.route.Mark.TheVariants.{Filled, Raised, Stays}
use Rattle.moving.specs.declared.route.Recorder.{Recorder}
use Rattle.moving.specs.declared.route.Route.{Route}

-- ---- one entry more

-- none
pub slots-none : (k n : ℕ) (rs : List Recorder) → slot_entries k n rs 0 ≡ []
unfolding slot_entries
slots-none k n rs = refl

-- one more at the end
pub slots-more : (k n : ℕ) (rs : List Recorder) (x : ℕ) → slot_entries k n rs (x + 1) ≡ slot_entries k n rs x ++ (slot_entry k n rs x ∷ [])
unfolding slot_entries
slots-more k n rs x =
    ap (λ (y : ℕ). map (slot_entry k n rs) (tabulate y (λ i. i))) (add-one x)
    ∙ ap (map (slot_entry k n rs)) (tabulate-more x (λ i. i))
    ∙ map-append (slot_entry k n rs) (tabulate x (λ i. i)) (x ∷ [])

-- the number of a bit is at most k
named-holds : (k step w x : ℕ) (m : Mark) → x < k → k < suc step ^ w → Holds step w (named_entry x m)
named-holds k step w x Stays l h = omega arith
named-holds k step w x Raised l h = omega arith
named-holds k step w x Filled l h = tt

-- so are all numbers
pub slot-holds : (k n step w : ℕ) (rs : List Recorder) (x : ℕ) → k < suc step ^ w → Holds step w (slot_entry k n rs x)
unfolding slot_entry
slot-holds k n step w rs x h =
    pick-elim (Holds step w) (dec_lt x k) _ _
    (λ l. named-holds k step w x (mark_at rs x) l h)
    (λ l. pick-elim (Holds step w) (dec_lt x n) (index 0) closed (λ e. omega arith) (λ e. tt))

-- ---- they are the rules' entries

-- an element of a list that was mapped
get_or-mapped : {A B : Type 0} (f : A → B) (xs : List A) (x : ℕ) (d : A) (z : B) → x < length xs → get_or (map f xs) x z ≡ f (get_or xs x d)
get_or-mapped f [] x d z h = absurd (not-suc-le-zero h)
get_or-mapped f (y ∷ xs) zero d z h = refl
get_or-mapped f (y ∷ xs) (suc x) d z h = get_or-mapped f xs x d z (le_of_suc-le-suc h)

module _ (w L v x : ℕ) (b : List ℕ) (long : length b ≡ w) (low : Low L b) (n : sum b ≢ w * L) where
  -- a live block that is raised gains one level
  raised-sum : sum b % 2 ≢ v → sum (recorded L v b) ≡ suc (sum b)
  raised-sum o = ap sum (recorded-other L v b o) ∙ raise-sum L b low (λ e. n (e ∙ ap (λ (x : ℕ). x * L) long))

  -- its mark says what the index block does: full if the value fills it, else the bit's number
  mark-names : named_entry x (mark (w * L) (sum b) v) ≡ pick (ℕ_discrete (sum (recorded L v b)) (w * L)) closed (index (x + 1))
  unfolding mark
  mark-names = go (ℕ_discrete (sum b % 2) v) (ℕ_discrete (suc (sum b)) (w * L))
    where
      go : (d : Dec (sum b % 2 ≡ v)) (e : Dec (suc (sum b) ≡ w * L))
          → named_entry x (pick d Stays (pick e Filled Raised)) ≡ pick (ℕ_discrete (sum (recorded L v b)) (w * L)) closed (index (x + 1))
      go (yes q) e = sym (pick_no (ℕ_discrete (sum (recorded L v b)) (w * L)) _ _ (λ f. n (ap sum (sym (recorded-same L v b q)) ∙ f)))
      go (no o) (yes e) = sym (pick_yes (ℕ_discrete (sum (recorded L v b)) (w * L)) _ _ (raised-sum o ∙ e))
      go (no o) (no e) = sym (pick_no (ℕ_discrete (sum (recorded L v b)) (w * L)) _ _ (λ f. e (sym (raised-sum o) ∙ f)))

-- each of the blocks has its size
sized-at : (w L : ℕ) (bs : List (List ℕ)) (j : ℕ) → Sized w L bs → j < length bs → (length (get_or bs j []) ≡ w) × Low L (get_or bs j [])
sized-at w L [] j h l = absurd (not-suc-le-zero l)
sized-at w L (b ∷ bs) zero h l = (h.0, h.1)
sized-at w L (b ∷ bs) (suc j) h l = sized-at w L bs j h.2 (le_of_suc-le-suc l)

module _ (w L : ℕ) (vs : List ℕ) (bs : List (List ℕ)) (route : Route) (sized : Sized w L bs) (enough : length vs ≤ live (w * L) bs) (r : Routed (w * L) vs bs route) where
  -- as many entries as live blocks
  as_many : length (recorded_entries (w * L) L 1 vs bs) ≡ route.live
  unfolding live
  as_many = length-entries (w * L) L 1 vs bs ∙ sym r.live

  -- that of the x-th value has its number, or is full
  slot-named : (x : ℕ) → x < length vs → slot_entry (length vs) route.live route.recorders x ≡ get_or (recorded_entries (w * L) L 1 vs bs) x closed
  unfolding slot_entry live
  slot-named x h =
      let l : x < length (live_weights (w * L) bs) = omega arith in
      let b : List ℕ = get_or bs (live_block (w * L) x bs) [] in
      let s : (length b ≡ w) × Low L b = sized-at w L bs (live_block (w * L) x bs) sized (live-block-in (w * L) x bs l) in
      let m : mark_at route.recorders x ≡ mark (w * L) (sum b) (get_or vs x 0) = r.marks x h ∙ ap (λ (v : ℕ). mark (w * L) v (get_or vs x 0)) (live-block-sum (w * L) x bs l) in
      let n : sum b ≢ w * L = λ e. live-block-open (w * L) x bs l (live-block-sum (w * L) x bs l ∙ e) in
      let q : x + 1 ≡ 1 + x = omega arith in
      pick_yes (dec_lt x (length vs)) _ _ h
      ∙ ap (named_entry x) m
      ∙ mark-names w L (get_or vs x 0) x b s.0 s.1 n
      ∙ ap (λ (y : ℕ). pick (ℕ_discrete (sum (recorded L (get_or vs x 0) b)) (w * L)) closed (index y)) q
      ∙ sym (entry_named (w * L) L 1 x vs bs closed h l)

  -- one past the values is 0
  slot-free : (x : ℕ) → length vs ≤ x → x < route.live → slot_entry (length vs) route.live route.recorders x ≡ get_or (recorded_entries (w * L) L 1 vs bs) x closed
  unfolding slot_entry live
  slot-free x h l =
      pick_no (dec_lt x (length vs)) _ _ (λ e. omega arith)
      ∙ pick_yes (dec_lt x route.live) _ _ l
      ∙ sym (entry_free (w * L) L 1 x vs bs closed h (omega (arith, r.live)))

  -- one past the live blocks is full
  slot-full : (x : ℕ) → route.live ≤ x → slot_entry (length vs) route.live route.recorders x ≡ closed
  unfolding slot_entry
  slot-full x h = pick_no (dec_lt x (length vs)) _ _ (λ e. omega (arith, r.live)) ∙ pick_no (dec_lt x route.live) _ _ (λ e. omega arith)

  module _ (q : ℕ) where
    -- the entries of the rules: those of the live blocks, and full ones past them
    abbrev rules_entries : List Entry
    rules_entries = recorded_entries (w * L) L 1 vs bs ++ replicate (q - length (live_weights (w * L) bs)) closed

    -- each is the slot's
    slot_at : (x : ℕ) → x < q → Dec (x < length vs) → Dec (x < route.live) → slot_entry (length vs) route.live route.recorders x ≡ get_or rules_entries x closed
    slot_at x h (yes l) e = slot-named x l ∙ sym (get_or-append (recorded_entries (w * L) L 1 vs bs) _ closed x (omega (arith, as_many, r.live)))
    slot_at x h (no l) (yes m) = slot-free x (omega arith) m ∙ sym (get_or-append (recorded_entries (w * L) L 1 vs bs) _ closed x (omega (arith, as_many)))
    slot_at x h (no l) (no m) =
        let es : List Entry = recorded_entries (w * L) L 1 vs bs in
        let p : length es + (x - length es) ≡ x = omega (arith, as_many) in
        let c : x - length es < q - length (live_weights (w * L) bs) = omega (arith, as_many, length-entries (w * L) L 1 vs bs) in
        slot-full x (omega arith)
        ∙ sym (ap (λ (y : ℕ). get_or rules_entries y closed) (sym p) ∙ get_or-append-add es (replicate (q - length (live_weights (w * L) bs)) closed) (x - length es) closed ∙ get_or-replicate (q - length (live_weights (w * L) bs)) (x - length es) closed closed c)

    -- the slots say what the rules say
    pub slots-are : live (w * L) bs ≤ q → slot_entries (length vs) route.live route.recorders q ≡ rules_entries
    unfolding slot_entries live
    slots-are h =
        let f : ℕ → Entry = slot_entry (length vs) route.live route.recorders in
        let n : length (map f (tabulate q (λ x. x))) ≡ q = length-map (tabulate q (λ x. x)) f ∙ length-tabulate q (λ x. x) in
        ext_get_or closed (map f (tabulate q (λ x. x))) rules_entries
        (n ∙ sym (length-append (recorded_entries (w * L) L 1 vs bs) (replicate (q - length (live_weights (w * L) bs)) closed) ∙ omega (arith, length-entries (w * L) L 1 vs bs, length-replicate (q - length (live_weights (w * L) bs)) closed)))
        (λ x l.
        let m : x < q = omega arith in
        get_or-mapped f (tabulate q (λ y. y)) x 0 closed (omega (arith, length-tabulate q (λ y. y)))
        ∙ ap f (get_or-tabulate q x (λ y. y) m)
        ∙ slot_at x m (dec_lt x (length vs)) (dec_lt x route.live))
