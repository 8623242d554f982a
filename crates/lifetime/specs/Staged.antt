-- Laws of staged sheets, over what the cells mean: every change, the move, and the count of demand 3. Assumes nothing.
use mathlib.Core.List.{List, ◌++◌}
use Rattle.std.specs.Prelude.{◌≢◌, ◌⊎◌, ◌≡◌, replicate}
use Rattle.std.proofs.Common.{inl, ◌∙◌, mul-le-mul_right}
use Rattle.std.proofs.Math.Logic.{inr}
use Rattle.std.proofs.Math.Path.{ap, ap₂, refl, subst, sym}
use Prim.Native.Nat.{◌%◌, ◌*◌, ◌+◌, ◌-◌, ◌<◌, ◌^◌, ◌≤◌, suc, zero, zero-le, ℕ}
use Rattle.std.proofs.Math.Decide.{dec_le, ℕ_discrete}
use Rattle.std.proofs.Math.Nat.{le_refl, mod-lt, sub-zero}
use native.Mathlib.Omega.{arith}
use Rattle.std.proofs.Math.ListN.{get_or, length, length-append, length-replicate}
use Rattle.std.proofs.Math.Pow.{pow_pos}
use Rattle.laws.specs.Chop.{chop-join, chop-sized, join-chop, length-chop, length-join, length-record, low-join, sum-join, sums-chop}
use Rattle.laws.specs.Halve.{plain-live}
use Rattle.laws.specs.Lists.{get_or-tabulate, length-tabulate, sum-replicate}
use Rattle.laws.specs.Parity.{count-width, even-width, half-live, half-power, stage0-few}
use Rattle.laws.specs.Record.{length-entries, record-sized}
use Rattle.laws.specs.Stage.{Forth, Sized, Used, full-sums, names-few, record-le, sums, used-append}
use Rattle.lifetime.specs.Move.{Bits, entries-even, entries-names, entries-read, entries-used, indexes-pad}
use Rattle.lifetime.specs.Up.{record-up, up-join}
use Rattle.lifetime.specs.Within.{InLaw, Stands, in-law}
use Rattle.rules.specs.Cells.{Low, Rises, chop, join, sum, tabulate}
use Rattle.rules.specs.Search.{Result, done, no_place_left}
use Rattle.rules.specs.SearchLaws.{pick-elim, pick_no, pick_yes}
use Rattle.rules.specs.Stage.{Entry, Names, Within, beyond, change_within, closed, indexes, live_weights, record_all, recorded_entries, stay, value_of, weight_of}
use Rattle.rules.specs.Staged.{Sheet, after, change, from_stage0, from_staged, later, move_to, parity_blocks, parity_count, parity_length, read, stage0, staged}
use Rattle.laws.specs.PlainSheet as P
use Rattle.rules.specs.Plain as R

-- ---- accepted sheets and the law of a change

bits-tabulate : (n : ℕ) (f : ℕ → ℕ) → ((y : ℕ) → f y < 2) → Bits (tabulate n f)
bits-tabulate zero f h = tt
bits-tabulate (suc n) f h = (h 0, bits-tabulate n (λ j. f (suc j)) (λ y. h (suc y)))

after_two : (i : ℕ) (f : ℕ → ℕ) → ((y : ℕ) → f y < 2) → (y : ℕ) → after i f y < 2
after_two i f h y = pick-elim (λ r. r < 2) (ℕ_discrete y i) _ _ (λ e. omega arith) (λ e. h y)

-- how many stages are left
abbrev pub stages_left : ℕ → Sheet → ℕ
stages_left s (stage0 xs) = s - 1
stages_left s (staged d xs es) = d

-- the cells of the m blocks
abbrev pub block_cells : Sheet → List ℕ
block_cells (stage0 xs) = xs
block_cells (staged d xs es) = xs

-- the sum of their levels
abbrev pub levels : Sheet → ℕ
levels x = sum (block_cells x)

module _ (s m L : ℕ) where
  -- a stage from 1 up that keeps its rules, in use
  pub record StagedFits (d : ℕ) (xs : List ℕ) (es : List Entry) : Type 0 where
    pub stage : d < s - 1
    pub long : length xs ≡ m * 2 ^ s
    pub low : Low L xs
    pub stands : Stands (2 ^ s) (parity_length d) L (parity_blocks s m d xs) es
    pub full : length es ≡ 2 * (2 ^ s - 1)
    pub used : Used es

  -- a sheet that keeps the rules of its stage
  abbrev pub Fits : Sheet → Type 0
  Fits (stage0 xs) = P.Accepted (2 ^ s) L m (m * 2 ^ s) xs
  Fits (staged d xs es) = StagedFits d xs es

  -- the entries of one stage only go forth
  abbrev pub Forward : Sheet → Sheet → Type 0
  Forward x (stage0 ys) = Unit {0}
  Forward (stage0 xs) (staged d ys fs) = Unit {0}
  Forward (staged e xs es) (staged d ys fs) = (d < e) ⊎ ((d ≡ e) × Forth es fs)

  forward-later : (x y : Sheet) → stages_left s y < stages_left s x → Forward x y
  forward-later x (stage0 ys) h = tt
  forward-later (stage0 xs) (staged d ys fs) h = tt
  forward-later (staged e xs es) (staged d ys fs) h = inl h

  -- what a change of bit i that is made does
  pub record Changed (i : ℕ) (x y : Sheet) : Type 0 where
    pub forward : Forward x y
    pub fits : Fits y
    pub flips : read s m L y i ≡ 1 - read s m L x i
    pub keeps : (b : ℕ) → b < 2 ^ s → b ≢ i → read s m L y b ≡ read s m L x b
    pub rises : Rises (block_cells x) (block_cells y)
    pub onward : stages_left s y ≤ stages_left s x
    -- a stage is paid for with k - 1 levels
    pub pays : levels y + (2 ^ s - 1) * stages_left s y ≤ suc (levels x + (2 ^ s - 1) * stages_left s x)

  -- what a change comes to: it is so, or the levels of the m blocks are nearly all raised
  abbrev pub ReplyLaw : ℕ → Sheet → Result Sheet → Type 0
  ReplyLaw i x (done y) = Changed i x y
  ReplyLaw i x no_place_left = m * 2 ^ s * L ≤ levels x + (2 ^ s - 1) * (2 * L)

  -- the numbers of a stage that is moved to, and what it reads
  module _ (d : ℕ) (xs vs : List ℕ) (pos : 0 < s) (h : d < s - 1) (long : length xs ≡ m * 2 ^ s) (low : Low L xs) (lv : length vs ≡ 2 ^ s) (bits : Bits vs)
      (enough : 2 ^ s ≤ length (live_weights (parity_length d * L) (parity_blocks s m d xs))) (fits : length (live_weights (parity_length d * L) (parity_blocks s m d xs)) ≤ 2 * (2 ^ s - 1)) where
    size : Sized (parity_length d) L (parity_blocks s m d xs)
    size = chop-sized (parity_length d) L (parity_count s m d) xs (omega (arith, count-width s m d (omega arith) pos)) low

    new : List (List ℕ)
    new = record_all (parity_length d * L) L vs (parity_blocks s m d xs)

    new-size : Sized (parity_length d) L new
    unfolding new
    new-size = record-sized (parity_length d * L) (parity_length d) L vs (parity_blocks s m d xs) size

    new-length : length new ≡ parity_count s m d
    unfolding new
    new-length = length-record (parity_length d * L) L vs (parity_blocks s m d xs) ∙ length-chop (parity_length d) (parity_count s m d) xs

    -- cut again, the cells give the blocks recorded
    cut_again : parity_blocks s m d (join new) ≡ new
    cut_again = chop-join (parity_length d) L (parity_count s m d) new new-size new-length

    new-indexes : (n : ℕ) → indexes (recorded_entries (parity_length d * L) L 1 vs (parity_blocks s m d xs) ++ replicate n closed) ≡ indexes (recorded_entries (parity_length d * L) L 1 vs (parity_blocks s m d xs))
    new-indexes n = indexes-pad n (recorded_entries (parity_length d * L) L 1 vs (parity_blocks s m d xs))

    abbrev pad : ℕ
    pad = 2 * (2 ^ s - 1) - length (live_weights (parity_length d * L) (parity_blocks s m d xs))

    move-fits : Fits (move_to s m L d xs vs)
    unfolding new
    move-fits = record {
      stage = h;
      long = length-join (parity_length d) L new new-size ∙ ap (λ (x : ℕ). x * parity_length d) new-length ∙ count-width s m d (omega arith) pos;
      low = low-join (parity_length d) L new new-size;
      stands = record {
        sized = subst (Sized (parity_length d) L) (sym cut_again) new-size;
        even = ap length (new-indexes pad) ∙ entries-even (parity_length d * L) L 1 vs (parity_blocks s m d xs) ∙ ap (λ (r : List (List ℕ)). length (live_weights (parity_length d * L) r)) (sym cut_again);
        names = subst (Names (2 ^ s)) (sym (new-indexes pad)) (entries-names (parity_length d * L) L (2 ^ s) 0 vs (parity_blocks s m d xs) (omega arith));
      };
      full = length-append (recorded_entries (parity_length d * L) L 1 vs (parity_blocks s m d xs)) (replicate pad closed)
          ∙ omega (arith, length-replicate pad closed, length-entries (parity_length d * L) L 1 vs (parity_blocks s m d xs));
      used = used-append (recorded_entries (parity_length d * L) L 1 vs (parity_blocks s m d xs)) (replicate pad closed)
          (entries-used (parity_length d * L) L 0 vs (parity_blocks s m d xs) (omega (arith, pow_pos s)) (omega (arith, pow_pos s)));
    }

    move-reads : (y : ℕ) → y < 2 ^ s → read s m L (move_to s m L d xs vs) y ≡ get_or vs y 0
    unfolding new read
    move-reads y l =
        ap₂ (λ (ts : List ℕ) (r : List (List ℕ)). weight_of (suc y) ts (live_weights (parity_length d * L) r) % 2) (new-indexes pad) cut_again
        ∙ entries-read (parity_length d) L (even-width L d) y 0 vs (parity_blocks s m d xs) bits size (omega arith) zero-le (omega arith)
        ∙ ap (λ (x : ℕ). get_or vs x 0) (sub-zero y)

    move-rises : Rises xs (block_cells (move_to s m L d xs vs))
    move-rises = subst (λ (r : List ℕ). Rises r (join (record_all (parity_length d * L) L vs (parity_blocks s m d xs)))) (join-chop (parity_length d) (parity_count s m d) xs (long ∙ sym (count-width s m d (omega arith) pos)))
        (up-join (record-up (parity_length d * L) L vs (parity_blocks s m d xs)))

    move-pays : levels (move_to s m L d xs vs) ≤ sum xs + 2 ^ s
    unfolding new
    move-pays = omega (arith, sum-join new, record-le (parity_length d * L) L vs (parity_blocks s m d xs), sums-chop (parity_length d) (parity_count s m d) xs (long ∙ sym (count-width s m d (omega arith) pos)))

  -- where a search for a later stage ends
  abbrev LaterLaw : List ℕ → List ℕ → ℕ → Result Sheet → Type 0
  LaterLaw xs vs d (done y) = Fits y × (Rises xs (block_cells y) × (stages_left s y < d)) × ((b : ℕ) → b < 2 ^ s → read s m L y b ≡ get_or vs b 0) × (levels y + (2 ^ s - 1) * stages_left s y ≤ suc (sum xs + (2 ^ s - 1) * d))
  LaterLaw xs vs d no_place_left = length (live_weights (parity_length 0 * L) (parity_blocks s m 0 xs)) < 2 ^ s

  module _ (xs vs : List ℕ) (pos : 0 < s) (long : length xs ≡ m * 2 ^ s) (low : Low L xs) (lv : length vs ≡ 2 ^ s) (bits : Bits vs) where
    weaken : (d : ℕ) (r : Result Sheet) → LaterLaw xs vs d r → LaterLaw xs vs (suc d) r
    weaken d (done y) h = (h.0, (h.1.0, omega (arith, h.1.1)), h.2, omega (arith, h.3))
    weaken d no_place_left h = h

    later-law : (d : ℕ) → d ≤ s - 1 → length (live_weights (parity_length d * L) (parity_blocks s m d xs)) < 2 ^ s → LaterLaw xs vs d (later s m L d xs vs)
    later-law zero h l = l
    later-law (suc d) h l = pick-elim (LaterLaw xs vs (suc d)) (dec_le (2 ^ s) (length (live_weights (parity_length d * L) (parity_blocks s m d xs)))) _ _
        (λ e. let f : length (live_weights (parity_length d * L) (parity_blocks s m d xs)) ≤ 2 * (2 ^ s - 1) = omega (arith, half-live s m L d xs h pos long low) in (
          move-fits d xs vs pos h long low lv bits e f,
          (move-rises d xs vs pos h long low lv bits e f, omega arith),
          move-reads d xs vs pos h long low lv bits e f,
          omega (arith, pow_pos s, move-pays d xs vs pos h long low lv bits e f),
        ))
        (λ e. weaken d (later s m L d xs vs) (later-law d (omega arith) (omega arith)))

  few-live : (xs : List ℕ) → 0 < s → length xs ≡ m * 2 ^ s → length (live_weights (parity_length 0 * L) (parity_blocks s m 0 xs)) < 2 ^ s → m * 2 ^ s * L ≤ sum xs + (2 ^ s - 1) * (2 * L)
  few-live xs pos long l =
      let W : ℕ = parity_length 0 * L in
      let c : parity_count s m 0 * W ≤ sums (parity_blocks s m 0 xs) + length (live_weights W (parity_blocks s m 0 xs)) * W =
      subst (λ (n : ℕ). n * W ≤ sums (parity_blocks s m 0 xs) + length (live_weights W (parity_blocks s m 0 xs)) * W) (length-chop (parity_length 0) (parity_count s m 0) xs) (full-sums W (parity_blocks s m 0 xs)) in
      omega (
        arith,
        c,
        sums-chop (parity_length 0) (parity_count s m 0) xs (long ∙ sym (count-width s m 0 zero-le pos)),
        ap (λ (x : ℕ). x * L) (count-width s m 0 zero-le pos),
        mul-le-mul_right {m = length (live_weights W (parity_blocks s m 0 xs))} {n = 2 ^ s - 1} W (omega arith),
      )

  -- a reading is 0 or 1
  pub read-two : (x : Sheet) (y : ℕ) → read s m L x y < 2
  unfolding read
  read-two (stage0 xs) y = P.read-two (2 ^ s) L m xs y
  read-two (staged d xs es) y = mod-lt (weight_of (suc y) (indexes es) (live_weights (parity_length d * L) (parity_blocks s m d xs))) (omega arith)

  -- a move is a change
  module _ (i : ℕ) (x : Sheet) (xs : List ℕ) (here : i < 2 ^ s) (pos : 0 < s) (long : length xs ≡ m * 2 ^ s) (low : Low L xs) (same : block_cells x ≡ xs)
      (bound : stages_left s x ≤ s - 1) (few : length (live_weights (parity_length (stages_left s x) * L) (parity_blocks s m (stages_left s x) xs)) < 2 ^ s) where
    abbrev values : List ℕ
    values = tabulate (2 ^ s) (after i (read s m L x))

    abbrev f : ℕ → ℕ
    f = after i (read s m L x)

    convert : (r : Result Sheet) → LaterLaw xs values (stages_left s x) r → ReplyLaw i x r
    convert (done y) h = record {
      fits = h.0;
      rises = subst (λ (r : List ℕ). Rises r (block_cells y)) (sym same) h.1.0;
      onward = omega (arith, h.1.1);
      forward = forward-later x y h.1.1;
      flips = h.2 i here ∙ get_or-tabulate (2 ^ s) i f here ∙ pick_yes (ℕ_discrete i i) _ _ refl;
      keeps = λ b l d. h.2 b l ∙ get_or-tabulate (2 ^ s) b f l ∙ pick_no (ℕ_discrete b i) _ _ d;
      pays = omega (arith, h.3, ap sum same);
    }
    convert no_place_left h = omega (arith, few-live xs pos long h, ap sum same)

    moved : ReplyLaw i x (later s m L (stages_left s x) xs values)
    moved = convert (later s m L (stages_left s x) xs values) (later-law xs values pos long low (length-tabulate (2 ^ s) f) (bits-tabulate (2 ^ s) f (after_two i (read s m L x) (read-two x))) (stages_left s x) bound few)

  -- ---- the law of every change

  module _ (i : ℕ) (here : i < 2 ^ s) (g : 0 < L) (pos : 1 < s) (room : 2 ^ s ≤ m) where
    from-stage0-law : (xs : List ℕ) → Fits (stage0 xs) → (a : Result (List ℕ)) → P.AnswerLaw (2 ^ s) L m (m * 2 ^ s) i xs a → (a ≡ no_place_left → length (live_weights (2 ^ s * L) (chop (2 ^ s) m xs)) < 2 ^ s)
        → ReplyLaw i (stage0 xs) (from_stage0 s m L xs (tabulate (2 ^ s) (after i (read s m L (stage0 xs)))) a)
    unfolding read
    from-stage0-law xs w (done ys) h q = record { fits = h.stays; rises = h.rises; onward = le_refl (s - 1); forward = tt; flips = h.flips; keeps = λ b l d. h.keeps b d; pays = omega (arith, h.adds) }
    from-stage0-law xs w no_place_left h q = moved i (stage0 xs) xs here (omega arith) w.long w.low refl (le_refl (s - 1)) (stage0-few s m L xs (omega arith) (q refl))

    from-staged-law : (d : ℕ) (xs : List ℕ) (es : List Entry) → StagedFits d xs es → (a : Within) → InLaw (2 ^ s) (parity_length d) L i (parity_blocks s m d xs) es a
        → ReplyLaw i (staged d xs es) (from_staged s m L d xs (tabulate (2 ^ s) (after i (read s m L (staged d xs es)))) a)
    unfolding read
    from-staged-law d xs es w (stay bs es') h =
        let n : length bs ≡ parity_count s m d = h.long ∙ length-chop (parity_length d) (parity_count s m d) xs in
        let z : Sized (parity_length d) L bs = h.stands.sized in
        let q : parity_blocks s m d (join bs) ≡ bs = chop-join (parity_length d) L (parity_count s m d) bs z n in
        let r : (y : ℕ) → value_of (parity_length d * L) (parity_blocks s m d (join bs)) es' y ≡ value_of (parity_length d * L) bs es' y = λ y. ap (λ (c : List (List ℕ)). value_of (parity_length d * L) c es' y) q in
        let e : parity_count s m d * parity_length d ≡ m * 2 ^ s = count-width s m d (omega (arith, w.stage)) (omega arith) in
        record {
          fits = record {
            stage = w.stage;
            long = length-join (parity_length d) L bs z ∙ ap (λ (x : ℕ). x * parity_length d) n ∙ e;
            low = low-join (parity_length d) L bs z;
            stands = subst (λ (c : List (List ℕ)). Stands (2 ^ s) (parity_length d) L c es') (sym q) h.stands;
            full = h.same ∙ w.full;
            used = h.used w.used;
          };
          onward = le_refl d;
          forward = inr (refl, h.forth);
          rises = subst (λ (r : List ℕ). Rises r (join bs)) (join-chop (parity_length d) (parity_count s m d) xs (w.long ∙ sym e)) (up-join h.up);
          flips = r i ∙ h.flips;
          keeps = λ b l c. r b ∙ h.keeps b c;
          pays = omega (arith, sum-join bs, h.adds, sums-chop (parity_length d) (parity_count s m d) xs (w.long ∙ sym e));
        }
    from-staged-law d xs es w beyond h =
        let l : length (indexes es) < 2 ^ s = names-few (2 ^ s) i (indexes es) w.stands.names here h.0 h.1 in
        moved i (staged d xs es) xs here (omega arith) w.long w.low refl (omega (arith, w.stage)) (omega (arith, w.stands.even))

    -- the law of every change: a new sheet that reads so, or no place and few levels left
    pub reply-law : (x : Sheet) → Fits x → ReplyLaw i x (change s m L i x)
    unfolding change
    reply-law (stage0 xs) w =
        let k : ℕ = 2 ^ s in
        let two : 1 < k = omega (arith, half-power s (omega arith), pow_pos (s - 1)) in
        let ev : k * L % 2 ≡ 0 = ap (λ (x : ℕ). x * L % 2) (sym (half-power s (omega arith))) ∙ omega arith in
        from-stage0-law xs w (R.change k L m i xs) (P.answer-all k L m (m * k) two g ev (le_refl (m * k)) i here xs w)
        (λ e. plain-live k L m (m * k) two g ev (le_refl (m * k)) i here xs w (P.no-place-how k L m (m * k) two g ev (le_refl (m * k)) i here xs w e))
    reply-law (staged d xs es) w = from-staged-law d xs es w (change_within (parity_length d * L) L i (parity_blocks s m d xs) es)
        (in-law (2 ^ s) (parity_length d) L i (parity_blocks s m d xs) es w.stands (even-width L d) here)

-- ---- runs

pub data Run (s m L : ℕ) : ℕ → Sheet → Type 0 where
  begin : Run s m L 0 (stage0 (replicate (m * 2 ^ s) 0))
  more : (c i : ℕ) (x y : Sheet) → Run s m L c x → i < 2 ^ s → change s m L i x ≡ done y → Run s m L (suc c) y

module _ (s m L : ℕ) (g : 0 < L) (pos : 1 < s) (room : 2 ^ s ≤ m) where
  pub run-law : {c : ℕ} {x : Sheet} → Run s m L c x → Fits s m L x × (levels x + (2 ^ s - 1) * stages_left s x ≤ c + (2 ^ s - 1) * (s - 1))
  run-law begin = (
    P.start (2 ^ s) L m (m * 2 ^ s) (omega (arith, half-power s (omega arith), pow_pos (s - 1))) g
        (ap (λ (x : ℕ). x * L % 2) (sym (half-power s (omega arith))) ∙ omega arith) (le_refl (m * 2 ^ s)),
    omega (arith, sum-replicate (m * 2 ^ s) 0),
  )
  run-law (more c i x y r h e) =
      let w : Fits s m L x × (levels x + (2 ^ s - 1) * stages_left s x ≤ c + (2 ^ s - 1) * (s - 1)) = run-law r in
      let z : Changed s m L i x y = subst (ReplyLaw s m L i x) e (reply-law s m L i h g pos room x w.0) in
      (z.fits, omega (arith, w.1, z.pays))

  -- demand 3, staged: Erase is not answered before m k L - (k - 1)(2 L + s - 1) changes were accepted
  pub staged-late : (c i : ℕ) (x : Sheet) → Run s m L c x → i < 2 ^ s → change s m L i x ≡ no_place_left → m * 2 ^ s * L - (2 ^ s - 1) * (2 * L + (s - 1)) ≤ c
  staged-late c i x r h e =
      let w : Fits s m L x × (levels x + (2 ^ s - 1) * stages_left s x ≤ c + (2 ^ s - 1) * (s - 1)) = run-law r in
      let z : m * 2 ^ s * L ≤ levels x + (2 ^ s - 1) * (2 * L) = subst (ReplyLaw s m L i x) e (reply-law s m L i h g pos room x w.0) in
      omega (arith, w.1)
