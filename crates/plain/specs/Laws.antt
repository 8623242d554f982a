-- Laws of a scan: what one more block adds to what is known, and what a scan says of a reading and of a change. Assumes nothing.
use Rattle.std.specs.Prelude.{Bool, true, false, ◌≢◌, ◌≡◌, ℕ, zero, suc, ◌+◌, ◌-◌, ◌*◌, ◌%◌, ◌≤◌, ◌<◌, get_or, take, drop, replicate, set, Option, Some, None}
use mathlib.Core.List.{List, [], ◌∷◌, ◌++◌}
use Rattle.std.proofs.Common.{⊎_elim, ◌∙◌, eq-or-lt_of_le, le_of_suc-le-suc, le_refl, mul-pos, not-suc-le-zero, add-one, drop-cons, get_or-set_other, get_or-set_same, take-suc}
use Rattle.std.proofs.Math.Path.{ap, refl, subst, sym}
use Rattle.std.proofs.Math.Decide.{ℕ_discrete}
use native.Mathlib.Omega.{arith}
use Rattle.std.proofs.Math.ListN.{length}
use Rattle.std.proofs.lemmas.List.{get_or-replicate, set_at}
use Rattle.std.proofs.Math.Seq.{append_snoc}
use Rattle.laws.specs.Block.{Means, cycle-full, cycle-zero, state-means}
use Rattle.laws.specs.Cut.{block-fits, length-block, low-block, part-block}
use Rattle.laws.specs.Distinct.{Below, Distinct, covers, pigeon, pigeon-absent}
use Rattle.laws.specs.Lists.{length-tabulate, low-drop, low-take, sum-append, sum-replicate, tabulate-more}
use Rattle.laws.specs.Live.{run-keeps}
use Rattle.laws.specs.Packed.{empty-on}
use Rattle.laws.specs.PlainMaps.{bit-same, empty-view, same_bit, to-bit}
use Rattle.laws.specs.Stage.{absent-at}
use Rattle.cells.specs.Meaning.{RunFrom}
use Rattle.cells.specs.Laws.{past-full}
use Rattle.block.specs.StateLaws.{state-empty, state-full}
use Rattle.rules.specs.Accept.{most_bits}
use Rattle.rules.specs.Block.{State, active, broken, cells_of, cycle, empty, full, grown, next, state_of}
use Rattle.rules.specs.Cells.{Low, block, store, sum, tabulate}
use Rattle.rules.specs.Plain.{AllActive, AllOnCycle, BlocksOk, FullLast, HasBit, IsEmpty, NoRepeat, OnCycle, bit_of, blocks_ok?, carry_out, change, has_bit?, is_empty?, plan, plan_from, read, states, value_at, weight}
use Rattle.rules.specs.Search.{at, done, first, no_place_left, nowhere}
use Rattle.rules.specs.SearchLaws.{First, all_more, first-eq, hit, miss, pick-elim, pick_no, pick_yes}
use Rattle.rules.specs.Stage.{Absent}
use Rattle.rules.specs.Calls.{Pass, Refuse, as_check}
use Rattle.rules.specs.declared.Answer.{Answer}
use Rattle.rules.specs.declared.Answer.TheVariants.{BadSheet, Done}
use Rattle.plan.specs.declared.Look.{Look}
use Rattle.plan.specs.declared.Place as Looked
use Rattle.plan.specs.Meaning.{value_in, weight_in}
use Rattle.plain.specs.Meaning.{EmptyFrom, Free, Held, Place, PlaceOf, Scanned, block_at, block_found, closing, differing, distinct?, erase, free, held, look_of, none, parities, plan_in, some, step, step_in}
use Rattle.plain.specs.OrderLaws.{Ends, Ordered, order-ends, order-first, order-hole}

-- ---- one more block

-- a bit's block stays where the next block has another bit or none
held-skip : {st : ℕ → State} {i j : ℕ} {p : Option Looked.Place} → ¬ (HasBit i (st j)) → Held st i j p → Held st i (suc j) p
held-skip n (held p l e b) = held p (omega arith) e b
held-skip n (free b) = free (all_more b n)

-- ---- a list with one more number

-- what is in neither part is in no list of the two
absent-snoc : (i b : ℕ) (xs : List ℕ) → Absent i xs → i ≢ b → Absent i (xs ++ (b ∷ []))
absent-snoc i b [] o d = (d, tt)
absent-snoc i b (x ∷ xs) o d = (o.0, absent-snoc i b xs o.1 d)

-- what is not in the longer list is not in its front
absent-front : (i b : ℕ) (xs : List ℕ) → Absent i (xs ++ (b ∷ [])) → Absent i xs
absent-front i b [] o = tt
absent-front i b (x ∷ xs) o = (o.0, absent-front i b xs o.1)

-- nor is it its last number
absent-last : (i b : ℕ) (xs : List ℕ) → Absent i (xs ++ (b ∷ [])) → i ≢ b
absent-last i b [] o = o.0
absent-last i b (x ∷ xs) o = absent-last i b xs o.1

-- a number that is not in a list of distinct numbers makes one more
distinct_snoc : (b : ℕ) (xs : List ℕ) → Distinct xs → Absent b xs → Distinct (xs ++ (b ∷ []))
distinct_snoc b [] d o = (tt, tt)
distinct_snoc b (x ∷ xs) d o = (absent-snoc x b xs d.0 (λ e. o.0 (sym e)), distinct_snoc b xs d.1 o.1)

-- where no number of the longer list stands twice, none of its front does, and its last number is not there
distinct-front : (b : ℕ) (xs : List ℕ) → Distinct (xs ++ (b ∷ [])) → Distinct xs × Absent b xs
distinct-front b [] d = (tt, tt)
distinct-front b (x ∷ xs) d =
    let r = distinct-front b xs d.1 in
    ((absent-front x b xs d.0, r.0), (λ e. absent-last x b xs d.0 (sym e), r.1))

-- where no number stands twice, two places hold different numbers
distinct-at : (i j : ℕ) (xs : List ℕ) → i < j → j < length xs → Distinct xs → get_or xs i 0 ≢ get_or xs j 0
distinct-at i zero xs l h d = absurd (not-suc-le-zero l)
distinct-at i (suc j) [] l h d = absurd (not-suc-le-zero h)
distinct-at zero (suc j) (x ∷ xs) l h d = absent-at x j xs d.0 (le_of_suc-le-suc h)
distinct-at (suc i) (suc j) (x ∷ xs) l h d = distinct-at i j xs (le_of_suc-le-suc l) (le_of_suc-le-suc h) d.1

-- one more number below k
below-snoc : (k b : ℕ) (xs : List ℕ) → Below k xs → b < k → Below k (xs ++ (b ∷ []))
below-snoc k b [] h l = (l, tt)
below-snoc k b (x ∷ xs) h l = (h.0, below-snoc k b xs h.1 l)

-- ---- the search for a repeat

-- one more number that isn't b
pub absent_more : (b x : ℕ) (bits : List ℕ) → x < length bits → Absent b (take x bits) → ¬ (get_or bits x 0 ≡ b) → Absent b (take (x + 1) bits)
absent_more b x bits l o d =
    subst (λ (n : ℕ). Absent b (take n bits)) (sym (add-one x))
    (subst (Absent b) (sym (take-suc bits x 0 l)) (absent-snoc b (get_or bits x 0) (take x bits) o (λ e. d (sym e))))

-- one more number that no earlier one equals
pub distinct_more : (x : ℕ) (bits : List ℕ) → x < length bits → Distinct (take x bits) → Absent (get_or bits x 0) (take x bits) → Distinct (take (x + 1) bits)
distinct_more x bits l d o =
    subst (λ (n : ℕ). Distinct (take n bits)) (sym (add-one x))
    (subst Distinct (sym (take-suc bits x 0 l)) (distinct_snoc (get_or bits x 0) (take x bits) d o))

-- the answer where no number stands twice
pub differing-done : (bits : List ℕ) → Distinct bits → Done 0 ≡ differing bits
differing-done bits d = sym (pick_yes (distinct? bits) (Done 0) BadSheet d)

-- and where one does
pub differing-not : (i j : ℕ) (bits : List ℕ) → i < j → j < length bits → get_or bits i 0 ≡ get_or bits j 0 → BadSheet ≡ differing bits
differing-not i j bits l h e = sym (pick_no (distinct? bits) (Done 0) BadSheet (λ d. distinct-at i j bits l h d e))

-- the answer where the bits are k and the last block in use is full
pub closing-full : (f : Bool) (n k : ℕ) (a : Answer) → f ≡ true → n ≡ k → BadSheet ≡ closing f n k a
closing-full true n k a t e = sym (pick_yes (ℕ_discrete n k) BadSheet a e)
closing-full false n k a t e = let z : ◌≡◌ {A = ℕ} 0 1 = cc in absurd (omega arith)

-- where the last block in use is not full
pub closing-open : (f : Bool) (n k : ℕ) (a : Answer) → f ≡ false → a ≡ closing f n k a
closing-open true n k a t = let z : ◌≡◌ {A = ℕ} 0 1 = cc in absurd (omega arith)
closing-open false n k a t = refl

-- and where the bits are not k
pub closing-few : (f : Bool) (n k : ℕ) (a : Answer) → n ≢ k → a ≡ closing f n k a
closing-few true n k a d = sym (pick_no (ℕ_discrete n k) BadSheet a d)
closing-few false n k a d = refl

-- ---- what is known of the blocks below j

-- the bits of the active blocks below j
pub record Seen (k : ℕ) (st : ℕ → State) (j : ℕ) (bits : List ℕ) : Type 0 where
  pub below : Below k bits
  pub told : (i : ℕ) → Absent i bits → Free st j i
  pub free : (i : ℕ) → Free st j i → Absent i bits

-- the blocks below j are on cycles with no bit twice; each bit's block, and the bits seen
pub record Known (k : ℕ) (st : ℕ → State) (j : ℕ) (looked : List (Option Looked.Place)) (bits : List ℕ) : Type 0 where
  pub cycles : AllOnCycle j st
  pub apart : NoRepeat j st
  pub held : (i : ℕ) → i < k → Held st i j (get_or looked i None)
  pub seen : Seen k st j bits

-- nothing below 0
known-none : (k : ℕ) (st : ℕ → State) → k ≤ most_bits → Known k st 0 (replicate most_bits None) []
known-none k st h = record {
  cycles = λ j l. absurd (not-suc-le-zero l);
  apart = λ j l. absurd (not-suc-le-zero l);
  held = λ i l.
      let q : i < most_bits = omega arith in
      subst (Held st i 0) (sym (get_or-replicate most_bits i None None q)) (free (λ y z. absurd (not-suc-le-zero z)));
  seen = record { below = tt; told = λ i o y l. absurd (not-suc-le-zero l); free = λ i f. tt };
}

module _ {k : ℕ} {st : ℕ → State} {j : ℕ} {looked : List (Option Looked.Place)} {bits : List ℕ} (g : Known k st j looked bits) where
  -- one more block with no bit
  known-idle : OnCycle (st j) → ((i : ℕ) → ¬ (HasBit i (st j))) → Known k st (j + 1) looked bits
  known-idle o n = subst (λ (x : ℕ). Known k st x looked bits) (sym (add-one j)) record {
    cycles = all_more g.cycles o;
    apart = all_more g.apart (λ x l s. let r = bit-same (st x) (st j) s in n r.0 r.2);
    held = λ i l. held-skip (n i) (g.held i l);
    seen = record {
      below = g.seen.below;
      told = λ i a. all_more (g.seen.told i a) (n i);
      free = λ i f. g.seen.free i (λ y l. f y (omega arith));
    };
  }

  -- a full block
  pub known-full : st j ≡ full → Known k st (j + 1) looked bits
  known-full q = known-idle (subst OnCycle (sym q) tt) (λ i h. subst (HasBit i) q h)

  -- an empty block
  known-empty : st j ≡ empty → Known k st (j + 1) looked bits
  known-empty q = known-idle (subst OnCycle (sym q) tt) (λ i h. subst (HasBit i) q h)

  module _ (b v : ℕ) (q : st j ≡ active b v) where
    -- each bit's block, with block j
    held_more : b < length looked → Free st j b → (i : ℕ) → i < k → Dec (i ≡ b) → Held st i (suc j) (get_or (set looked b (Some (block_at j v))) i None)
    held_more lp f i l (yes c) =
        let h : Held st b (suc j) (Some (block_at j v)) = held (block_at j v) (le_refl (suc j)) q f in
        subst (λ (x : ℕ). Held st x (suc j) (get_or (set looked b (Some (block_at j v))) x None)) (sym c)
        (subst (Held st b (suc j)) (sym (get_or-set_same looked b (Some (block_at j v)) None lp)) h)
    held_more lp f i l (no d) =
        let n : ¬ (HasBit i (st j)) = λ h. d (subst (HasBit i) q h) in
        subst (Held st i (suc j)) (sym (get_or-set_other looked b i (Some (block_at j v)) None d)) (held-skip n (g.held i l))

    -- the bits seen, with that of block j
    seen_more : b < k → Absent b bits → Seen k st (suc j) (bits ++ (b ∷ []))
    seen_more l o = record {
      below = below-snoc k b bits g.seen.below l;
      told = λ i a. all_more (g.seen.told i (absent-front i b bits a)) (λ h. absent-last i b bits a (subst (HasBit i) q h));
      free = λ i f. absent-snoc i b bits (g.seen.free i (λ y z. f y (omega arith))) (λ c. f j (le_refl (suc j)) (subst (HasBit i) (sym q) c));
    }

    -- an active block whose bit no earlier one holds
    known-active : b < k → b < length looked → Absent b bits → Known k st (j + 1) (set looked b (Some (block_at j v))) (bits ++ (b ∷ []))
    known-active l lp o = subst (λ (x : ℕ). Known k st x (set looked b (Some (block_at j v))) (bits ++ (b ∷ []))) (sym (add-one j)) record {
      cycles = all_more g.cycles (subst OnCycle (sym q) tt);
      apart = all_more g.apart (λ x z s.
          let r = bit-same (st x) (st j) s in
          g.seen.told b o x z (subst (λ (i : ℕ). HasBit i (st x)) (subst (HasBit r.0) q r.2) r.1));
      held = λ i z. held_more lp (g.seen.told b o) i z (ℕ_discrete i b);
      seen = seen_more l o;
    }

-- empty blocks up to the last
pub known-rest : {k m : ℕ} {st : ℕ → State} {j : ℕ} {looked : List (Option Looked.Place)} {bits : List ℕ} → j ≤ m → ((y : ℕ) → j ≤ y → y < m → st y ≡ empty)
    → Known k st j looked bits → Known k st m looked bits
known-rest {k} {m} {st} {j} {looked} {bits} l h = run-keeps (λ y. Known k st y looked bits) j m l (λ y a b g. known-empty g (h y a b))

-- ---- what is known where the bits noted differ

-- the bits of the active blocks below j: where they differ all is known of those blocks, and they differ where no two of the m blocks have one bit
pub record Noted (k m : ℕ) (st : ℕ → State) (j : ℕ) (looked : List (Option Looked.Place)) (bits : List ℕ) : Type 0 where
  pub known : Distinct bits → Known k st j looked bits
  pub differ : NoRepeat m st → Distinct bits

-- nothing below 0
pub noted-none : (k m : ℕ) (st : ℕ → State) → k ≤ most_bits → Noted k m st 0 (replicate most_bits None) []
noted-none k m st h = record { known = λ d. known-none k st h; differ = λ a. tt }

module _ {k m : ℕ} {st : ℕ → State} {j : ℕ} {looked : List (Option Looked.Place)} {bits : List ℕ} (g : Noted k m st j looked bits) where
  -- blocks with no bit
  pub noted-on : {x : ℕ} → (Known k st j looked bits → Known k st x looked bits) → Noted k m st x looked bits
  noted-on f = record { known = λ d. f (g.known d); differ = g.differ }

  -- an active block
  pub noted-active : (b v : ℕ) → st j ≡ active b v → j < m → b < k → b < length looked → Noted k m st (j + 1) (set looked b (Some (block_at j v))) (bits ++ (b ∷ []))
  noted-active b v q h l lp = record {
    known = λ d. let r = distinct-front b bits d in known-active (g.known r.0) b v q l lp r.1;
    differ = λ a.
        let d = g.differ a in
        distinct_snoc b bits d ((g.known d).seen.free b (λ y z c. a j h y z (same_bit b (st y) (st j) c (to-bit q))));
  }

-- ---- all k bits

module _ {k m : ℕ} {st : ℕ → State} {looked : List (Option Looked.Place)} {bits : List ℕ} (g : Known k st m looked bits) (d : Distinct bits) where
  -- where k bits are seen, all have active blocks
  seen_all : length bits ≡ k → AllActive k m st
  seen_all e i l = go (g.held i l)
    where
      go : {p : Option Looked.Place} → Held st i m p → (j : ℕ) × (j < m) × HasBit i (st j)
      go (held p q h f) = (p.block, q, to-bit h)
      go (free f) = absurd (omega (arith, pigeon-absent k i bits l (g.seen.free i f) d g.seen.below))

  -- and where all have, k bits are seen
  all_seen : AllActive k m st → length bits ≡ k
  all_seen a = omega (
    arith,
    pigeon k bits d g.seen.below,
    covers k bits (λ i l o. let q = a i l in g.seen.told i o q.0 q.1 q.2),
  )

-- ---- what a scan says

-- a look that refuses blocks that break the rules
refused-is : (k L m : ℕ) (xs : List ℕ) (r : Look) → r.answer ≡ BadSheet → ¬ (BlocksOk k L m xs) → Scanned k L m xs r
refused-is k L m xs r f n = record {
  answer = f ∙ sym (pick_no (blocks_ok? k L m xs) (Done 0) BadSheet n);
  first = λ q. absurd (n q);
  bits = λ q. absurd (n q);
}

-- a block is on no cycle
pub scan-broken : (k L m j : ℕ) (xs : List ℕ) (r : Look) → r.answer ≡ BadSheet → j < m → states k L xs j ≡ broken → Scanned k L m xs r
scan-broken k L m j xs r f l q = refused-is k L m xs r f (λ h. subst OnCycle q (h.0 j l))

-- an empty block stands before one that isn't empty
pub scan-hole : (k L m j : ℕ) (xs : List ℕ) (r : Look) → r.answer ≡ BadSheet → j < m → states k L xs j ≡ empty
    → ¬ ((y : ℕ) → j + 1 ≤ y → y < m → IsEmpty (states k L xs y)) → Scanned k L m xs r
scan-hole k L m j xs r f l q n = refused-is k L m xs r f (λ h. n (λ y a b. empty-on m (states k L xs) h.2.0 y b j (omega arith) (subst IsEmpty (sym q) tt)))

-- the number of the first empty block, which is m where there is none
abbrev pub Numbered : Option Looked.Place → ℕ → ℕ → Type 0
Numbered (Some p) m e = (e ≡ p.block) × (p.block < m)
Numbered None m e = e ≡ m

-- by that number it is the first
first-numbered : {P : ℕ → Type 0} {m e : ℕ} (w : Option Looked.Place) → Numbered w m e → Place P m m e → First P m (block_found w)
first-numbered {P} {m} (Some p) h (some x l q b) = subst (λ (y : ℕ). First P m (at y)) h.0 (hit x l q b)
first-numbered (Some p) h (none b) = absurd (omega arith)
first-numbered None h (some x l q b) = absurd (omega arith)
first-numbered None h (none b) = miss b

-- k + 1 bits are noted: the search for a repeat finds one
pub scan-crowded : (k L m : ℕ) (xs bits : List ℕ) (r : Look) {j : ℕ} {looked : List (Option Looked.Place)} → r.answer ≡ differing bits → Noted k m (states k L xs) j looked bits
    → length bits ≡ k + 1 → Scanned k L m xs r
scan-crowded k L m xs bits r f g e =
    let n : ¬ (Distinct bits) = λ d. omega (arith, e, pigeon k bits d (g.known d).seen.below) in
    refused-is k L m xs r (f ∙ pick_no (distinct? bits) (Done 0) BadSheet n) (λ o. n (g.differ o.1))

module _ (k L m : ℕ) (xs bits : List ℕ) {e : ℕ} {f : Bool} {looked : List (Option Looked.Place)} (g : Noted k m (states k L xs) m looked bits) (o : Ordered (states k L xs) m m e f) where
  -- the search for a repeat decides, unless all k bits have active blocks and the last block in use is full
  scan-repeats : (w : Option Looked.Place) → Numbered w m e → (Distinct bits → ¬ (FullLast k m (states k L xs))) → Scanned k L m xs (look_of (differing bits) looked w)
  scan-repeats w h n =
      pick-elim (λ a. Scanned k L m xs (look_of a looked w)) (distinct? bits) (Done 0) BadSheet
      (λ d. record {
        answer = sym (pick_yes (blocks_ok? k L m xs) (Done 0) BadSheet ((g.known d).cycles, (g.known d).apart, (order-hole o, n d)));
        first = λ r. first-numbered w h (order-first o);
        bits = λ r. (g.known d).held;
      })
      (λ d. refused-is k L m xs (look_of BadSheet looked w) refl (λ b. d (g.differ b.1)))

  -- k bits are noted, and the last block in use is full
  scan-full-last : (w : Option Looked.Place) → length bits ≡ k → f ≡ true → Scanned k L m xs (look_of BadSheet looked w)
  scan-full-last w c t = refused-is k L m xs (look_of BadSheet looked w) refl (λ b.
      let d = g.differ b.1 in
      b.2.1 (seen_all (g.known d) d c, subst (Ends (states k L xs) m) t (order-ends o)))

  -- not k bits are noted
  not-full-last : length bits ≢ k → Distinct bits → ¬ (FullLast k m (states k L xs))
  not-full-last n d p = n (all_seen (g.known d) d p.0)

-- the search for a repeat decides, but where k bits are noted and the last block in use is full
pub scan-decided : (k L m n : ℕ) (xs bits : List ℕ) {e : ℕ} (f : Bool) {looked : List (Option Looked.Place)} (w : Option Looked.Place) → Noted k m (states k L xs) m looked bits
    → Ordered (states k L xs) m m e f → Numbered w m e → length bits ≡ n → Scanned k L m xs (look_of (closing f n k (differing bits)) looked w)
scan-decided k L m n xs bits true {looked} w g o h t =
    pick-elim (λ a. Scanned k L m xs (look_of a looked w)) (ℕ_discrete n k) BadSheet (differing bits)
    (λ c. scan-full-last k L m xs bits g o w (t ∙ c) refl)
    (λ c. scan-repeats k L m xs bits g o w h (not-full-last k L m xs bits g o (λ q. c (sym t ∙ q))))
scan-decided k L m n xs bits false w g o h t =
    scan-repeats k L m xs bits g o w h (λ d p. order-ends o p.1)

-- ---- what its answer tells

-- a refusal does not pass
refuse-pass : {a : Answer} {A : Type 0} → Refuse a ≡ Pass → A
refuse-pass e = let z : ◌≡◌ {A = ℕ} 0 1 = cc in absurd (omega arith)

module _ {k L m : ℕ} {xs : List ℕ} {r : Look} (h : Scanned k L m xs r) where
  -- an answer that passes is Done, of stage 0, and the blocks keep the rules
  pub scanned-sound : as_check r.answer ≡ Pass → BlocksOk k L m xs × (r.answer ≡ Done 0)
  scanned-sound t =
      pick-elim (λ a. r.answer ≡ a → BlocksOk k L m xs × (r.answer ≡ Done 0)) (blocks_ok? k L m xs) (Done 0) BadSheet
      (λ b e. (b, e)) (λ n e. refuse-pass (sym (ap as_check e) ∙ t)) h.answer

-- ---- the state of a block, from its part of the cells

-- block j lies within the cells
pub block-end : (k m j n : ℕ) → m * k ≤ n → j < m → j * k + k ≤ n
block-end k m j n h l = omega (arith, block-fits k j m l)

-- what a look at that part says of block j
pub part-state : (k L : ℕ) (xs : List ℕ) (j : ℕ) (s : State) → j * k + k ≤ length xs
    → s ≡ state_of (length (take (j * k + k - j * k) (drop (j * k) xs))) L (take (j * k + k - j * k) (drop (j * k) xs)) → states k L xs j ≡ s
unfolding states
part-state k L xs j s h e =
    sym (e ∙ ap (λ (b : List ℕ). state_of (length b) L b) (part-block k xs j) ∙ ap (λ (n : ℕ). state_of n L (block k xs j)) (length-block k xs j h))

-- ---- runs of full and of empty blocks

module _ (k L m : ℕ) (xs : List ℕ) (two : 2 ≤ k) (g : 0 < L) (fits : m * k ≤ length xs) (low : Low L xs) where
  -- a block that weighs what a full one does is full
  heavy-state : (y : ℕ) → y < m → sum (block k xs y) ≡ k * L → states k L xs y ≡ full
  unfolding states
  heavy-state y l e =
      let n : length (block k xs y) ≡ k = length-block k xs y (block-end k m y (length xs) fits l) in
      ap (λ (z : ℕ). state_of z L (block k xs y)) (sym n)
      ∙ sym (state-full L (block k xs y) (sum (block k xs y)) refl (omega arith) g (low-block L k xs y low) (e ∙ ap (λ (z : ℕ). z * L) (sym n)))

  -- and one that weighs nothing is empty
  light-state : (y : ℕ) → y < m → sum (block k xs y) ≡ 0 → states k L xs y ≡ empty
  unfolding states
  light-state y l e =
      let n : length (block k xs y) ≡ k = length-block k xs y (block-end k m y (length xs) fits l) in
      ap (λ (z : ℕ). state_of z L (block k xs y)) (sym n)
      ∙ sym (state-empty L (block k xs y) (sum (block k xs y)) refl (omega arith) g (low-block L k xs y low) e)

  -- full blocks are passed over in runs
  pub past_all : (P : ℕ → Type 0) {j r : ℕ} → j ≤ r → r ≤ m → RunFrom k L xs j r → ((y : ℕ) → y < m → states k L xs y ≡ full → P y → P (y + 1)) → P j → P r
  past_all P {j} {r} a b f s = run-keeps P j r a (λ y c d. s y (omega arith) (heavy-state y (omega arith) (past-full k L j r xs low f y c d)))

  -- an empty block and blocks after it that weigh nothing are all empty
  pub empty-rest : {j : ℕ} → states k L xs j ≡ empty → EmptyFrom k xs (j + 1) m → (y : ℕ) → j ≤ y → y < m → states k L xs y ≡ empty
  empty-rest e h y a b = ⊎_elim (λ q. ap (states k L xs) (sym q) ∙ e) (λ q. light-state y b (h y (omega arith) b)) (eq-or-lt_of_le a)

  -- and every empty block weighs nothing
  pub rest-weights : {from : ℕ} → ((y : ℕ) → from ≤ y → y < m → IsEmpty (states k L xs y)) → EmptyFrom k xs from m
  unfolding states
  rest-weights h y a b =
      let e : Means k L empty (block k xs y) = subst (λ (s : State). Means k L s (block k xs y)) (empty-view (states k L xs y) (h y a b)) (state-means k L (omega arith) g (block k xs y)) in
      ap sum e ∙ sum-replicate k 0 ∙ omega arith

-- ---- a block as a part lent on

-- it has k cells
pub part_length : (k : ℕ) (xs : List ℕ) (j : ℕ) → j * k + k ≤ length xs → length (take (j * k + k - j * k) (drop (j * k) xs)) ≡ k
part_length k xs j h = ap length (part-block k xs j) ∙ length-block k xs j h

-- and none of them is above L
pub part_low : (k L : ℕ) (xs : List ℕ) (j : ℕ) → Low L xs → Low L (take (j * k + k - j * k) (drop (j * k) xs))
part_low k L xs j h = low-take L (j * k + k - j * k) (drop (j * k) xs) (low-drop L (j * k) xs h)

-- the bit of an active block is one of the k bits, and its weight is less than a full block's
pub active-below : (k L : ℕ) (xs : List ℕ) (j b v : ℕ) → 0 < k → 0 < L → states k L xs j ≡ active b v → (b < k) × (v < k * L)
unfolding states
active-below k L xs j b v h g e = let q : Means k L (active b v) (block k xs j) = subst (λ (s : State). Means k L s (block k xs j)) e (state-means k L h g (block k xs j)) in (q.0, q.2)

-- ---- the place of a change, and a reading

-- the cells of a block after its next step
grown-cells : (k L i v : ℕ) → i ≤ k → (d : Dec (suc v ≡ k * L)) → cells_of k L (grown d i v) ≡ cycle k L i (v + 1)
grown-cells k L i v l (yes e) = sym (cycle-full k L i l) ∙ ap (cycle k L i) (sym e ∙ sym (add-one v))
grown-cells k L i v l (no e) = ap (cycle k L i) (sym (add-one v))

module _ (k L m i : ℕ) (xs : List ℕ) (h : 0 < k) (g : 0 < L) (b : i < k) where
  -- what block j's state says of its cells
  block-means : (j : ℕ) (s : State) → states k L xs j ≡ s → Means k L s (block k xs j)
  unfolding states
  block-means j s e = subst (λ (t : State). Means k L t (block k xs j)) e (state-means k L h g (block k xs j))

  -- the change of a bit that has a block: its next step
  own_block : {p : ℕ} → First (λ y. HasBit i (states k L xs y)) m (at p) → (v : ℕ) → states k L xs p ≡ active i v → change k L m i xs ≡ done (store k xs p (cycle k L i (v + 1)))
  unfolding change plan
  own_block {p} f v e =
      let st = states k L xs in
      let d = ℕ_discrete (suc v) (k * L) in
      ap (λ r. carry_out k L xs (plan_from (k * L) st i r (first (λ y. is_empty? (st y)) m))) (first-eq (λ y. has_bit? i (st y)) m f)
      ∙ ap (λ (s : State). done (store k xs p (cells_of k L (next (k * L) s)))) e
      ∙ ap (λ (c : List ℕ). done (store k xs p c)) (grown-cells k L i v (omega arith) d)

  -- the change of a bit that has none: a new step in the first empty block
  new-block : {p : ℕ} → First (λ y. HasBit i (states k L xs y)) m nowhere → First (λ y. IsEmpty (states k L xs y)) m (at p) → change k L m i xs ≡ done (store k xs p (cycle k L i 1))
  unfolding change plan
  new-block f q =
      let st = states k L xs in
      ap (λ r. carry_out k L xs (plan_from (k * L) st i r (first (λ y. is_empty? (st y)) m))) (first-eq (λ y. has_bit? i (st y)) m f)
      ∙ ap (λ r. carry_out k L xs (plan_from (k * L) st i nowhere r)) (first-eq (λ y. is_empty? (st y)) m q)

  -- the change of a bit that has none where no block is empty
  no_block : First (λ y. HasBit i (states k L xs y)) m nowhere → First (λ y. IsEmpty (states k L xs y)) m nowhere → change k L m i xs ≡ no_place_left
  unfolding change plan
  no_block f q =
      let st = states k L xs in
      ap (λ r. carry_out k L xs (plan_from (k * L) st i r (first (λ y. is_empty? (st y)) m))) (first-eq (λ y. has_bit? i (st y)) m f)
      ∙ ap (λ r. carry_out k L xs (plan_from (k * L) st i nowhere r)) (first-eq (λ y. is_empty? (st y)) m q)

  -- an empty block is the step of weight 0 on any cycle
  empty-cells : (j : ℕ) → IsEmpty (states k L xs j) → block k xs j ≡ cycle k L i 0
  empty-cells j n = block-means j empty (empty-view (states k L xs j) n) ∙ sym (cycle-zero k L i (omega arith))

  -- a bit's block and the first empty block give the place of the change
  place_is : (w : Option Looked.Place) {p : Option Looked.Place} → Held (states k L xs) i m p → First (λ y. IsEmpty (states k L xs y)) m (block_found w) → PlaceOf k L m i xs (step_in p w)
  place_is w (held p l q f) n =
      let c : Means k L (active i p.weight) (block k xs p.block) = block-means p.block (active i p.weight) q in
      step p.block p.weight l c.2 c.3 (own_block (hit p.block l (to-bit q) f) p.weight q)
  place_is w (free f) n = go w n
    where
      go : (w : Option Looked.Place) → First (λ y. IsEmpty (states k L xs y)) m (block_found w) → PlaceOf k L m i xs (step_in None w)
      go (Some p) (hit x l e z) = step x 0 l (mul-pos h g) (empty-cells x e) (new-block (miss f) (hit x l e z))
      go None (miss z) = erase (no_block (miss f) (miss z))

-- a bit's weight gives its reading
read_is : (k L m i : ℕ) (xs : List ℕ) {p : Option Looked.Place} → Held (states k L xs) i m p → read k L m xs i ≡ weight_in p % 2
unfolding read bit_of
read_is k L m i xs (held p l q f) =
    let st = states k L xs in
    ap (value_at (k * L) st) (first-eq (λ y. has_bit? i (st y)) m (hit p.block l (to-bit q) f)) ∙ ap (λ (s : State). weight (k * L) s % 2) q
read_is k L m i xs (free f) = let st = states k L xs in ap (value_at (k * L) st) (first-eq (λ y. has_bit? i (st y)) m (miss f))

-- the place that a scan gives is the place of the change
pub scanned-place : (k L m i : ℕ) (xs : List ℕ) (s : Look) → 2 ≤ k → 1 ≤ L → m * k ≤ length xs → i < k → Scanned k L m xs s → as_check s.answer ≡ Pass → PlaceOf k L m i xs (plan_in s i)
scanned-place k L m i xs s h g l b c e = place_is k L m i xs (omega arith) g b s.free (c.bits (scanned-sound c e).0 i b) (c.first (scanned-sound c e).0)

-- the value that a scan gives is the reading
pub scanned-read : (k L m i : ℕ) (xs : List ℕ) (s : Look) → Scanned k L m xs s → as_check s.answer ≡ Pass → i < k → read k L m xs i ≡ value_in s.bits i
scanned-read k L m i xs s c e b = read_is k L m i xs (c.bits (scanned-sound c e).0 i b)

-- ---- the values of the bits, one by one

-- one more value in the sum
pub parities-sum : (i : ℕ) (bits : List (Option Looked.Place)) → sum (parities (i + 1) bits) ≡ sum (parities i bits) + value_in bits i
parities-sum i bits =
    ap (λ (n : ℕ). sum (parities n bits)) (add-one i) ∙ ap sum (tabulate-more i (value_in bits)) ∙ sum-append (parities i bits) (value_in bits i ∷ []) ∙ omega arith

-- one more value at the front of the output
pub parities-set : (i : ℕ) (bits : List (Option Looked.Place)) (out : List ℕ) → i < length out → set (parities i bits ++ drop i out) i (value_in bits i) ≡ parities (i + 1) bits ++ drop (i + 1) out
parities-set i bits out l =
    let f : ℕ → ℕ = value_in bits in
    ap (λ (r : List ℕ). set (tabulate i f ++ r) i (f i)) (drop-cons out i 0 l)
    ∙ set_at (tabulate i f) (get_or out i 0) (drop (suc i) out) (f i) i (length-tabulate i f)
    ∙ sym (append_snoc (tabulate i f) (f i) (drop (suc i) out))
    ∙ ap (λ (r : List ℕ). r ++ drop (suc i) out) (sym (tabulate-more i f))
    ∙ ap (λ (n : ℕ). parities n bits ++ drop n out) (sym (add-one i))
