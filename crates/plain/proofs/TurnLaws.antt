-- Laws of a turn of the scan: the block that comes, and what is known past it. Assumes nothing.
use Rattle.std.specs.Prelude.{Bool, true, false, ◌≡◌, ℕ, ◌+◌, ◌*◌, ◌≤◌, ◌<◌, ◌++◌, List, [], ◌∷◌, length, set, take, Option, Some}
use Rattle.std.proofs.Common.{◌∙◌, add-one, ap, arith, subst, sym, take-suc-set}
use Rattle.rules.specs.Block.{State, active, empty, full}
use Rattle.rules.specs.Plain.{IsEmpty, states}
use Rattle.rules.specs.declared.Answer.{Answer}
use Rattle.rules.specs.declared.Answer.TheVariants.{BadSheet}
use Rattle.cells.specs.declared.blocks.Blocks.{Blocks}
use Rattle.block.specs.Meaning.{as_state}
use Rattle.block.specs.States.{After, GivesState}
use Rattle.block.specs.declared.BlockState.{BlockState}
use Rattle.block.specs.declared.BlockState.TheVariants.{Empty, Full, Active}
use Rattle.block.specs.declared.states.States.{States}
use Rattle.plan.specs.declared.Look.{Look}
use Rattle.plan.specs.declared.Place.{Place}
use Rattle.plain.specs.Laws.{Known, Noted, Numbered, active-below, empty-rest, known-full, known-rest, noted-active, noted-on, past_all, rest-weights, scan-crowded, scan-decided, scan-hole}
use Rattle.plain.specs.Meaning.{EmptyFrom, Scanned, block_at, closing, differing, look_of}
use Rattle.plain.specs.OrderLaws.{Ordered, order-active, order-empty, order-full}

-- the states of the blocks
abbrev pub states_of : Blocks → ℕ → State
states_of b = states b.len b.top b.cells.now

-- what is known where block j comes, of state s, and the iterator goes on at another number
pub record Turn (b : Blocks) (looked : List (Option Place)) (bits : List ℕ) (f : Bool) (j : ℕ) (s : BlockState) (to : ℕ) : Type 0 where
  pub inside : j < b.count
  pub state : as_state s ≡ states_of b j
  pub noted : Noted b.len b.count (states_of b) j looked bits
  pub ordered : Ordered (states_of b) b.count j b.count f
  pub on : After b (j + 1) s to

-- the block that an iterator gives, where this is known of the blocks below it
pub turn-begun : (b : Blocks) (from to : States) {looked : List (Option Place)} {bits : List ℕ} {f : Bool} (j : ℕ) (s : BlockState) → from.blocks ≡ b
    → Noted b.len b.count (states_of b) from.at looked bits → Ordered (states_of b) b.count from.at b.count f → GivesState from (Some (j, s)) to → Turn b looked bits f j s to.at
turn-begun b from to j s e n o g = record {
  inside = rw (g.0, ← e) g.1;
  state = rw (g.0, ← e) g.2;
  noted = rw g.0 n;
  ordered = rw g.0 o;
  on = rw (g.0, ← e) g.4;
}

module _ {b : Blocks} {looked : List (Option Place)} {bits : List ℕ} {f : Bool} {j : ℕ} {s : BlockState} {to : ℕ} (two : 2 ≤ b.len) (g : 1 ≤ b.top) (t : Turn b looked bits f j s to) where
  -- past a full block and the full ones that follow it at once
  pub turn-full : s ≡ Full → Noted b.len b.count (states_of b) to looked bits × Ordered (states_of b) b.count to b.count true
  turn-full q =
      let e : states_of b j ≡ full = sym t.state ∙ ap as_state q in
      let run : After b (j + 1) Full to = subst (λ (x : BlockState). After b (j + 1) x to) q t.on in (
        noted-on t.noted (λ k. past_all b.len b.top b.count b.cells.now two g b.inside b.low (λ y. Known b.len (states_of b) y looked bits) run.0 run.1 run.2 (λ y l q h. known-full h q) (known-full k e)),
        past_all b.len b.top b.count b.cells.now two g b.inside b.low (λ y. Ordered (states_of b) b.count y b.count true) run.0 run.1 run.2 (λ y l q h. order-full h l q) (order-full t.ordered t.inside e),
      )

  module _ (q : s ≡ Empty) where
    is-empty : states_of b j ≡ empty
    is-empty = sym t.state ∙ ap as_state q

    -- an empty block after which not all are
    pub turn-hole : (r : Look) → r.answer ≡ BadSheet → ¬ (EmptyFrom b.len b.cells.now (j + 1) b.count) → Scanned b.len b.top b.count b.cells.now r
    turn-hole r a n = scan-hole b.len b.top b.count j b.cells.now r a t.inside is-empty (λ h. n (rest-weights b.len b.top b.count b.cells.now two g b.inside b.low h))

    -- an empty block after which all are
    pub turn-rest : EmptyFrom b.len b.cells.now (j + 1) b.count → Noted b.len b.count (states_of b) b.count looked bits × Ordered (states_of b) b.count b.count j f
    turn-rest h =
        let rest = empty-rest b.len b.top b.count b.cells.now two g b.inside b.low is-empty h in
        (noted-on t.noted (known-rest (omega (arith, t.inside)) rest), order-empty t.ordered t.inside (λ y l m. subst IsEmpty (sym (rest y l m)) tt))

  module _ (bit v : ℕ) (q : s ≡ Active bit v) where
    is-active : states_of b j ≡ active bit v
    is-active = sym t.state ∙ ap as_state q

    -- the bit of an active block is one of the k bits, and its weight is less than a full block's
    pub turn-below : (bit < b.len) × (v < b.len * b.top)
    turn-below = active-below b.len b.top b.cells.now j bit v (omega (arith, two)) g is-active

    -- past an active block, whose bit is noted
    pub turn-active : (noted : List ℕ) (n : ℕ) (p : Place) → bits ≡ take n noted → n < length noted → b.len ≤ length looked → p ≡ block_at j v
        → Noted b.len b.count (states_of b) to (set looked bit (Some p)) (take (n + 1) (set noted n bit)) × Ordered (states_of b) b.count to b.count false
    turn-active noted n p h w l e =
        let on : to ≡ j + 1 = subst (λ (x : BlockState). After b (j + 1) x to) q t.on in
        let more : bits ++ (bit ∷ []) ≡ take (n + 1) (set noted n bit) = ap (λ (r : List ℕ). r ++ (bit ∷ [])) h ∙ rw (add-one n, take-suc-set noted n bit w) in
        (rw (on, e, ← more) (noted-active t.noted bit v is-active t.inside turn-below.0 (omega (arith, turn-below.0, l))), rw on (order-active t.ordered t.inside is-active))

-- what is known where the pass is left
pub data Over (b : Blocks) (looked : List (Option Place)) (bits : List ℕ) (f : Bool) (w : Option Place) : Type 0 where
  -- of every block, and the first empty one
  all : (e : ℕ) → Noted b.len b.count (states_of b) b.count looked bits → Ordered (states_of b) b.count b.count e f → Numbered w b.count e → Over b looked bits f w
  -- k + 1 bits are noted
  crowded : (j : ℕ) → Noted b.len b.count (states_of b) j looked bits → length bits ≡ b.len + 1 → f ≡ false → Over b looked bits f w

-- the search for a repeat, and the look at the last block in use, decide then
pub over-decided : {b : Blocks} {looked : List (Option Place)} {bits : List ℕ} {f : Bool} {w : Option Place} → Over b looked bits f w → (n : ℕ) → length bits ≡ n
    → (a : Answer) → a ≡ closing f n b.len (differing bits) → Scanned b.len b.top b.count b.cells.now (look_of a looked w)
over-decided {b} {looked} {bits} {f} {w} (all e g o h) n t a q =
    subst (λ (x : Answer). Scanned b.len b.top b.count b.cells.now (look_of x looked w)) (sym q) (scan-decided b.len b.top b.count n b.cells.now bits f w g o h t)
over-decided {b} {looked} {bits} {f} {w} (crowded j g t z) n l a q =
    scan-crowded b.len b.top b.count b.cells.now bits (look_of a looked w) (q ∙ ap (λ (x : Bool). closing x n b.len (differing bits)) z) g t
