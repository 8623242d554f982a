-- Laws of a block as a part of the cells, of blocks passed over in runs, and of the later stage. Assumes nothing.
use Rattle.std.specs.Prelude.{List, [], ◌∷◌, ◌++◌, ◌≡◌, refl, drop, length, take}
use Rattle.std.proofs.Common.{◌∙◌, sym, subst, ap₂, mul-le-mul_left, pow-suc, drop-drop}
use Rattle.std.proofs.Math.Path.{ap}
use Prim.Native.Nat.{◌*◌, ◌+◌, ◌-◌, ◌/◌, ◌<◌, ◌^◌, ◌≤◌, suc, zero, ℕ}
use Rattle.std.proofs.Math.Decide.{dec_le}
use native.Mathlib.Omega.{arith}
use Rattle.laws.specs.Index.{pow-pos'}
use Rattle.laws.specs.Live.{count-full, count-more, run-keeps}
use Rattle.cells.specs.declared.blocks.Blocks.{Blocks}
use Rattle.cells.specs.declared.blocks.LiveBlocks.{LiveBlocks}
use Rattle.cells.specs.Live.{FirstLive, FullFrom, GivesLive}
use Rattle.std.specs.Iterator.{Drains}
use Rattle.cells.specs.Meaning.{RunFrom}
use Rattle.cells.specs.Laws.{past-full}
use Rattle.rules.specs.Cells.{Low, chop, store}
use Rattle.rules.specs.Search.{Found, at, done, nowhere, pick}
use Rattle.rules.specs.SearchLaws.{pick_no, pick_yes}
use Rattle.rules.specs.Stage.{live_weights}
use Rattle.rules.specs.Staged.{later, live_count, move_to, parity_count, parity_length}
use Rattle.parity.specs.Meaning.{later_from, later_left, moved}

-- ---- a block as a part of the cells, from j times w to j times w + w

-- the part put back as b is the cells with block j set to b
pub part-store : (w : ℕ) (xs : List ℕ) (j : ℕ) (b : List ℕ) → take (j * w) xs ++ (b ++ drop (j * w + w - j * w) (drop (j * w) xs)) ≡ store w xs j b
unfolding store
part-store w xs j b =
    let q : j * w + w - j * w ≡ w = omega arith in
    ap (λ (n : ℕ). take (j * w) xs ++ (b ++ drop n (drop (j * w) xs))) q
    ∙ ap (λ (r : List ℕ). take (j * w) xs ++ (b ++ r)) (drop-drop w (j * w) xs)

-- ---- blocks that are passed over in runs

-- full blocks passed over count nothing
pub count_past : (len L from to : ℕ) (cells : List ℕ) → Low L cells → from ≤ to → RunFrom len L cells from to
    → length (live_weights (len * L) (chop len to cells)) ≡ length (live_weights (len * L) (chop len from cells))
count_past len L from to cells l h f =
    run-keeps (λ x. length (live_weights (len * L) (chop len x cells)) ≡ length (live_weights (len * L) (chop len from cells))) from to h
    (λ x a b e. count-full (len * L) len x cells (past-full len L from to cells l f x a b) ∙ e) refl

-- how many of the first n blocks are live
abbrev passed : Blocks → ℕ → ℕ
passed b n = length (live_weights (b.len * b.top) (chop b.len n b.cells.now))

-- full blocks that the look for live ones passes count nothing
count_full_from : (b : Blocks) (from to : ℕ) → from ≤ to → FullFrom b from to → passed b to ≡ passed b from
count_full_from b from to h f = run-keeps (λ x. passed b x ≡ passed b from) from to h (λ x l m e. count-full (b.len * b.top) b.len x b.cells.now (f x l m) ∙ e) refl

-- the look gives the live blocks that are left, each once
count-drained : (s : LiveBlocks) (xs : List (ℕ × ℕ)) → Drains GivesLive s xs → passed s.blocks s.blocks.count ≡ passed s.blocks s.at + length xs
count-drained s [] (u, (t, e, g)) =
    let f : FullFrom s.blocks s.at s.blocks.count = subst (λ (r : LiveBlocks). FullFrom r.blocks r.at r.blocks.count) (sym e) g.0 in
    omega (arith, count_full_from s.blocks s.at s.blocks.count s.inside f)
count-drained s (x ∷ xs) (u, (t, (j, g, y), z)) =
    let f : FirstLive s.blocks s.at x.0 x.1 = g.0 in
    let a : passed s.blocks x.0 ≡ passed s.blocks s.at = count_full_from s.blocks s.at x.0 f.after f.passed in
    let m = count-more (s.blocks.len * s.blocks.top) s.blocks.len x.0 s.blocks.cells.now (λ e. f.live (f.weighs ∙ e)) in
    let r : passed j.blocks j.blocks.count ≡ passed j.blocks j.at + length xs = count-drained j xs (u, (t, y, z)) in
    let q : passed s.blocks s.blocks.count ≡ passed s.blocks (x.0 + 1) + length xs =
    sym (ap (λ (b : Blocks). passed b b.count) g.1.0) ∙ r ∙ ap₂ (λ (b : Blocks) (n : ℕ). passed b n + length xs) g.1.0 g.1.1 in
    omega (arith, q, m, a)

-- so many of all blocks are live as the look from the first one on gives
pub count-all : (b : Blocks) (s : LiveBlocks) (xs : List (ℕ × ℕ)) → s.blocks ≡ b → s.at ≡ 0 → Drains GivesLive s xs → length xs ≡ length (live_weights (b.len * b.top) (chop b.len b.count b.cells.now))
count-all b s xs e z d =
    let n : passed b b.count ≡ passed b 0 + length xs = sym (ap (λ (c : Blocks). passed c c.count) e) ∙ count-drained s xs d ∙ ap₂ (λ (c : Blocks) (a : ℕ). passed c a + length xs) e z in
    omega (arith, n)

-- ---- the later stage

-- it is the later stage of the rules
pub later-is : (s m L d : ℕ) (xs vs : List ℕ) → later s m L d xs vs ≡ moved s m L xs vs (later_left s m L d xs)
unfolding later_left
later-is s m L zero xs vs = refl
later-is s m L (suc d) xs vs =
    elim (dec_le (2 ^ s) (live_count s m L d xs)) as (λ t. pick t (done (move_to s m L d xs vs)) (later s m L d xs vs) ≡ moved s m L xs vs (pick t (at d) (later_left s m L d xs)))
    [ yes e ↦ refl | no e ↦ later-is s m L d xs vs ]

-- the next stage has twice as many parity blocks
count-twice : (s m d : ℕ) → suc d ≤ s - 1 → 2 * parity_count s m (suc d) ≡ parity_count s m d
count-twice s m d h =
    let e : s - 1 - d ≡ suc (s - 1 - suc d) = omega arith in
    omega (arith, ap (λ (x : ℕ). m * 2 ^ x) e, ap (λ (x : ℕ). m * x) (pow-suc 2 (s - 1 - suc d)))

-- told by the count of parity blocks it is the same
pub later-from : (s m L d : ℕ) (xs : List ℕ) → d ≤ s - 1 → later_from (2 ^ s) L (parity_count s m d) d xs ≡ later_left s m L d xs
unfolding later_left later_from
later-from s m L zero xs h = refl
later-from s m L (suc d) xs h =
    ap (λ (c : ℕ). pick (dec_le (2 ^ s) (length (live_weights (parity_length d * L) (chop (parity_length d) c xs)))) (at d) (later_from (2 ^ s) L c d xs)) (count-twice s m d h)
    ∙ ap (λ (r : Found). pick (dec_le (2 ^ s) (live_count s m L d xs)) (at d) r) (later-from s m L d xs (omega arith))

-- ---- the later stage as a search by halves

-- blocks of fewer than 4 cells: no stage is left
pub later-stop : (k L c d : ℕ) (xs : List ℕ) → parity_length d < 4 → later_from k L c d xs ≡ nowhere
unfolding later_from
later-stop k L c zero xs h = refl
later-stop k L c (suc d) xs h = absurd (omega (arith, pow-pos' 2 d (omega arith)))

-- blocks of 4 cells and more: a stage is left, whose parity blocks are half as long and twice as many, in as many cells
pub record Halved (d len c : ℕ) : Type 0 where
  pub some : 0 < d
  pub half : len / 2 ≡ parity_length (d - 1)
  pub cells : 2 * c * (len / 2) ≡ c * len
  pub blocks : 2 * c ≤ c * len

pub halved : (d len c : ℕ) → len ≡ parity_length d → 4 ≤ len → Halved d len c
halved zero len c e h = absurd (omega arith)
halved (suc d) len c e h =
    let p : suc d - 1 ≡ d = omega arith in
    let q : 2 * (len / 2) ≡ len = omega arith in
    let r : 2 * c * (len / 2) ≡ c * len = omega (arith, ap (λ (x : ℕ). c * x) q) in
    record { some = omega arith; half = omega (arith, ap (λ (x : ℕ). 2 ^ x) p); cells = r; blocks = omega (arith, mul-le-mul_left {m = 1} {n = len / 2} (2 * c) (omega arith)) }

module _ (k L c d len : ℕ) (xs : List ℕ) (e : len ≡ parity_length d) (h : 4 ≤ len) where
  later-turn : later_from k L c d xs ≡ pick (dec_le k (length (live_weights (len / 2 * L) (chop (len / 2) (2 * c) xs)))) (at (d - 1)) (later_from k L (2 * c) (d - 1) xs)
  unfolding later_from
  later-turn =
      let g : Halved d len c = halved d len c e h in
      let q : d ≡ suc (d - 1) = omega arith in
      ap (λ (x : ℕ). later_from k L c x xs) q
      ∙ ap (λ (w : ℕ). pick (dec_le k (length (live_weights (w * L) (chop w (2 * c) xs)))) (at (d - 1)) (later_from k L (2 * c) (d - 1) xs)) (sym g.half)

  -- enough of them are live: that stage; else it goes on from there
  pub later-here : k ≤ length (live_weights (len / 2 * L) (chop (len / 2) (2 * c) xs)) → later_from k L c d xs ≡ at (d - 1)
  later-here l = later-turn ∙ pick_yes (dec_le k (length (live_weights (len / 2 * L) (chop (len / 2) (2 * c) xs)))) _ _ l

  pub later-on : {r : Found} → length (live_weights (len / 2 * L) (chop (len / 2) (2 * c) xs)) < k → r ≡ later_from k L (2 * c) (d - 1) xs → r ≡ later_from k L c d xs
  later-on l q = q ∙ sym (later-turn ∙ pick_no (dec_le k (length (live_weights (len / 2 * L) (chop (len / 2) (2 * c) xs)))) _ _ (λ g. omega arith))
