-- Laws of the turns of the scan of one stage, on cells: what a turn does, how a stage breaks the rules, and what the scan answers. Assumes nothing.
use mathlib.Core.List.{List, [], ◌∷◌, ◌++◌, append_assoc, append-nil, map}
use Rattle.std.specs.Prelude.{◌≢◌, ◌≡◌, refl, drop, get_or, length, Some, None, IsSome, IsNone}
use Rattle.std.proofs.Common.{◌∙◌, subst, sym, add-one, length-append}
use Rattle.std.proofs.Math.Path.{ap}
use Prim.Native.Nat.{ℕ, suc, ◌+◌, ◌-◌, ◌*◌, ◌≤◌, ◌<◌}
use Rattle.std.proofs.Math.Decide.{ℕ_discrete}
use native.Mathlib.Omega.{arith}
use Rattle.std.proofs.lemmas.List.{length-map}
use Rattle.laws.specs.Chop.{length-chop}
use Rattle.laws.specs.Live.{chop-snoc, count-more, run-keeps}
use Rattle.laws.specs.LiveBlock.{weights-append}
use Rattle.laws.specs.Parts.{chop-add, map-append}
use Rattle.index.specs.Meaning.{ClosedFrom, NextIndex, entry_at, next-at, next-nowhere, said}
use Rattle.index.specs.declared.Region.{Region}
use Rattle.rules.specs.Accept.{most_bits}
use Rattle.rules.specs.Cells.{block, chop, sum}
use Rattle.rules.specs.SearchLaws.{pick_yes}
use Rattle.rules.specs.Stage.{Entry, Names, closed, index, indexes, live_weights}
use Rattle.stage.specs.Laws.{home-nowhere, home-there, passed-free, passed-full, passed_none, passed-own}
use Rattle.stage.specs.LiveLaws.{indexes-append, names_at, names-once}
use Rattle.stage.specs.Meaning.{Passed, ScanAt, StageScanned, Turn, begun, right, wrong, broken, entries_in, with_free, with_own}
use Rattle.plan.specs.declared.Look.{Look}
use Rattle.plan.specs.declared.Place.{Place}

-- ---- one more block

-- one more parity block
blocks_more : (len j : ℕ) (cells : List ℕ) → chop len (j + 1) cells ≡ chop len j cells ++ (block len cells j ∷ [])
blocks_more len j cells = ap (λ (n : ℕ). chop len n cells) (add-one j) ∙ chop-snoc len j cells

-- all parity blocks have more weights than those before a block that isn't full
more-weights : (W len j n : ℕ) (cells : List ℕ) → j < n → sum (block len cells j) ≢ W → length (live_weights W (chop len j cells)) < length (live_weights W (chop len n cells))
more-weights W len j n cells h o =
    let d : ℕ = n - (j + 1) in
    let q : n ≡ j + 1 + d = omega arith in
    let bs : List (List ℕ) = chop len (j + 1) cells in
    let cs : List (List ℕ) = chop len d (drop ((j + 1) * len) cells) in
    let e : length (live_weights W (chop len n cells)) ≡ length (live_weights W bs ++ live_weights W cs) =
    ap (λ (m : ℕ). length (live_weights W (chop len m cells))) q ∙ ap (λ (r : List (List ℕ)). length (live_weights W r)) (chop-add len (j + 1) d cells) ∙ ap length (weights-append W bs cs) in
    omega (arith, length-append (live_weights W bs) (live_weights W cs), count-more W len j cells o)

module _ (region : Region) (batch : List ℕ) where
  -- one more index block
  entries-more : (x : ℕ) → entries_in region (x + 1) batch ≡ entries_in region x batch ++ (entry_at region batch x ∷ [])
  entries-more x = ap (λ (n : ℕ). entries_in region n batch) (add-one x) ∙ ap (map (said region.floor region.step region.width)) (chop-snoc region.width x batch) ∙ map-append (said region.floor region.step region.width) (chop region.width x batch) (block region.width batch x ∷ [])

  -- how many they are
  length-entries : (x : ℕ) → length (entries_in region x batch) ≡ x
  length-entries x = length-map (chop region.width x batch) (said region.floor region.step region.width) ∙ length-chop region.width x batch

  -- the indexes past index block x, of q
  past_it : ℕ → ℕ → List ℕ
  past_it q x = indexes (entries_in region (q - (x + 1)) (drop ((x + 1) * region.width) batch))

  -- index block x among all of them
  among : (q x u : ℕ) → x < q → entry_at region batch x ≡ index u → indexes (entries_in region q batch) ≡ indexes (entries_in region x batch) ++ (u ∷ past_it q x)
  unfolding past_it
  among q x u h e =
      let d : ℕ = q - (x + 1) in
      let p : q ≡ x + 1 + d = omega arith in
      let es : List Entry = entries_in region x batch in
      let fs : List Entry = entries_in region d (drop ((x + 1) * region.width) batch) in
      ap (λ (n : ℕ). indexes (entries_in region n batch)) p
      ∙ ap (λ (r : List (List ℕ)). indexes (map (said region.floor region.step region.width) r)) (chop-add region.width (x + 1) d batch)
      ∙ ap indexes (map-append (said region.floor region.step region.width) (chop region.width (x + 1) batch) (chop region.width d (drop ((x + 1) * region.width) batch)))
      ∙ indexes-append (entries_in region (x + 1) batch) fs
      ∙ ap (λ (r : List Entry). indexes r ++ indexes fs) (entries-more x ∙ ap (λ (y : Entry). es ++ (y ∷ [])) e)
      ∙ ap (λ (r : List ℕ). r ++ indexes fs) (indexes-append es (index u ∷ []))
      ∙ append_assoc (indexes es) (u ∷ []) (indexes fs)

module _ (stage cell k W : ℕ) where
  -- a full parity block is passed
  block-passed : (len j : ℕ) (cells : List ℕ) (es : List Entry) (s : Look) → Passed stage cell k W (chop len j cells) es s → sum (block len cells j) ≡ W → Passed stage cell k W (chop len (j + 1) cells) es s
  block-passed len j cells es s g e =
      subst (λ (bs : List (List ℕ)). Passed stage cell k W bs es s) (sym (blocks_more len j cells))
      (subst (λ (fs : List Entry). Passed stage cell k W (chop len j cells ++ (block len cells j ∷ [])) fs s) (append-nil es)
      (passed-full stage cell k W (chop len j cells) es s g (block len cells j ∷ []) [] (pick_yes (ℕ_discrete (sum (block len cells j)) W) _ _ e) refl))

  -- a full index block is passed
  entry-passed : (region : Region) (batch : List ℕ) (bs : List (List ℕ)) (s : Look) (x : ℕ) → Passed stage cell k W bs (entries_in region x batch) s → entry_at region batch x ≡ closed → Passed stage cell k W bs (entries_in region (x + 1) batch) s
  entry-passed region batch bs s x g e =
      subst (λ (es : List Entry). Passed stage cell k W bs es s) (sym (entries-more region batch x))
      (subst (λ (cs : List (List ℕ)). Passed stage cell k W cs (entries_in region x batch ++ (entry_at region batch x ∷ [])) s) (append-nil bs)
      (passed-full stage cell k W bs (entries_in region x batch) s g [] (entry_at region batch x ∷ []) refl (ap (λ (y : Entry). indexes (y ∷ [])) e)))

  -- full index blocks are passed
  entries-passed : (region : Region) (batch : List ℕ) (bs : List (List ℕ)) (s : Look) (x y : ℕ) → x ≤ y → ClosedFrom region batch x y → Passed stage cell k W bs (entries_in region x batch) s → Passed stage cell k W bs (entries_in region y batch) s
  entries-passed region batch bs s x y h c g = run-keeps (λ n. Passed stage cell k W bs (entries_in region n batch) s) x y h (λ z a b p. entry-passed region batch bs s z p (c z a b)) g

-- ---- the index block found

-- what an index block found says
found : {region : Region} {batch : List ℕ} {q from x u : ℕ} → NextIndex region batch q from (Some (x, u)) → (from ≤ x) × (x < q) × ClosedFrom region batch from x × (entry_at region batch x ≡ index u)
found (next-at x u a b c e) = (a, b, c, e)

-- what none found says
found_none : {region : Region} {batch : List ℕ} {q from : ℕ} → NextIndex region batch q from None → ClosedFrom region batch from q
found_none (next-nowhere c) = c

-- ---- turns

-- a scan begins with nothing passed
pub scan-begun : {stage k W count len : ℕ} {cells : List ℕ} {region : Region} {batch : List ℕ} {q : ℕ} → k ≤ most_bits → ScanAt stage k W count len cells region batch q 0 0 (begun stage region.cell)
scan-begun {stage} {k} {W} {region = region} h = record { few = h; in_cells = omega arith; in-batch = omega arith; passed = passed_none stage region.cell k W }

module _ {stage k W count len : ℕ} {cells : List ℕ} {region : Region} {batch : List ℕ} {q j x : ℕ} {s : Look} (h : ScanAt stage k W count len cells region batch q j x s) where
  -- it stands past full index blocks as well
  moved : {y : ℕ} → x ≤ y → y ≤ q → ClosedFrom region batch x y → ScanAt stage k W count len cells region batch q j y s
  moved {y} a b c = record { few = h.few; in_cells = h.in_cells; in-batch = b; passed = entries-passed stage region.cell k W region batch (chop len j cells) s x y a c h.passed }

  module _ {v : ℕ} (l : j < count) (m : v ≡ sum (block len cells j)) where
    -- a full parity block is passed
    pub turn-full : v ≡ W → ScanAt stage k W count len cells region batch q (j + 1) x s
    turn-full e = record { few = h.few; in_cells = omega arith; in-batch = h.in-batch; passed = block-passed stage region.cell k W len j cells (entries_in region x batch) s h.passed (sym m ∙ e) }

    -- for one that isn't, the next index block is taken up
    pub turn-begun : v ≢ W → {y u : ℕ} → NextIndex region batch q x (Some (y, u)) → Turn stage k W count len cells region batch q j y u v s
    turn-begun n {y} {u} f =
        let o : (x ≤ y) × (y < q) × ClosedFrom region batch x y × (entry_at region batch y ≡ index u) = found f in
        record { here = moved o.0 (omega arith) o.2; a_block = l; an-index = o.1; weight = m; live = n; entry = o.3 }

    -- and where there is none, fewer index blocks than parity blocks aren't full
    pub too_few : v ≢ W → NextIndex region batch q x None → {s' : Look} → s' ≡ broken → StageScanned stage region.cell k W (chop len count cells) (entries_in region q batch) s'
    too_few n f b = wrong b (λ ok.
        let a : length (indexes (entries_in region q batch)) ≡ length (live_weights W (chop len j cells)) = (moved h.in-batch (omega arith) (found_none f)).passed.as_many in
        omega (arith, ok.0, more-weights W len j count cells l (λ z. n (m ∙ z))))

  -- past the last parity block no index block may be left
  pub left-over : count ≤ j → {y u : ℕ} → NextIndex region batch q x (Some (y, u)) → {s' : Look} → s' ≡ broken → StageScanned stage region.cell k W (chop len count cells) (entries_in region q batch) s'
  left-over l {y} {u} f p = wrong p (λ ok.
      let g : (x ≤ y) × (y < q) × ClosedFrom region batch x y × (entry_at region batch y ≡ index u) = found f in
      let n : j ≡ count = omega (arith, h.in_cells) in
      let m : length (indexes (entries_in region y batch)) ≡ length (live_weights W (chop len count cells)) = (moved g.0 (omega arith) g.2).passed.as_many ∙ ap (λ (i : ℕ). length (live_weights W (chop len i cells))) n in
      let o : length (indexes (entries_in region q batch)) ≡ length (indexes (entries_in region y batch) ++ (u ∷ past_it region batch q y)) = ap length (among region batch q y u g.1 g.3) in
      omega (arith, ok.0, length-append (indexes (entries_in region y batch)) (u ∷ past_it region batch q y)))

  -- where none is left the scan has found all
  pub scan-ended : count ≤ j → NextIndex region batch q x None → StageScanned stage region.cell k W (chop len count cells) (entries_in region q batch) s
  scan-ended l f =
      let n : j ≡ count = omega (arith, h.in_cells) in
      right (subst (λ (i : ℕ). Passed stage region.cell k W (chop len i cells) (entries_in region q batch) s) n (moved h.in-batch (omega arith) (found_none f)).passed)

-- full parity blocks are passed
pub turn-past : {stage k W count len : ℕ} {cells : List ℕ} {region : Region} {batch : List ℕ} {q j x : ℕ} {s : Look} → ScanAt stage k W count len cells region batch q j x s
    → {r : ℕ} → j ≤ r → r ≤ count → ((y : ℕ) → j ≤ y → y < r → sum (block len cells y) ≡ W) → ScanAt stage k W count len cells region batch q r x s
turn-past {stage} {k} {W} {count} {len} {cells} {region} {batch} {q} {j} {x} {s} h {r} a b f =
    run-keeps (λ y. ScanAt stage k W count len cells region batch q y x s) j r a
    (λ y c d g. turn-full g {v = sum (block len cells y)} (omega arith) refl (f y c d)) h

module _ {stage k W count len : ℕ} {cells : List ℕ} {region : Region} {batch : List ℕ} {q j x u v : ℕ} {s : Look} (t : Turn stage k W count len cells region batch q j x u v s) where
  -- the turn ends with both blocks passed
  turned : (y : ℕ) (s' : Look) → u ≡ y → Passed stage region.cell k W (chop len j cells ++ (block len cells j ∷ [])) (entries_in region x batch ++ (index y ∷ [])) s'
      → ScanAt stage k W count len cells region batch q (j + 1) (x + 1) s'
  turned y s' z r = record {
    few = t.here.few;
    in_cells = omega (arith, t.a_block);
    in-batch = omega (arith, t.an-index);
    passed =
        subst (λ (bs : List (List ℕ)). Passed stage region.cell k W bs (entries_in region (x + 1) batch) s') (sym (blocks_more len j cells))
        (subst (λ (es : List Entry). Passed stage region.cell k W (chop len j cells ++ (block len cells j ∷ [])) es s')
        (sym (entries-more region batch x ∙ ap (λ (z : Entry). entries_in region x batch ++ (z ∷ [])) (t.entry ∙ ap index z))) r);
  }

  -- the parity block isn't full
  live-block : sum (block len cells j) ≢ W
  live-block e = t.live (t.weight ∙ e)

  -- the block of the turn
  abbrev met : Place
  met = record { block = j; slot = x; weight = v }

  -- a free block
  pub turn-free : u ≡ 0 → ScanAt stage k W count len cells region batch q (j + 1) (x + 1) (with_free s met)
  turn-free z = turned 0 _ z (passed-free stage region.cell k W (chop len j cells) (entries_in region x batch) s t.here.passed (block len cells j) live-block met
      (sym (length-chop len j cells)) (sym (length-entries region batch x)) t.weight)

  -- a bit's
  pub turn-own : (i : ℕ) → u ≡ suc i → i < k → IsNone (get_or s.bits i None) → ScanAt stage k W count len cells region batch q (j + 1) (x + 1) (with_own s i met)
  turn-own i z l a =
      let g : Passed stage region.cell k W (chop len j cells) (entries_in region x batch) s = t.here.passed in
      let m : i < most_bits = omega (arith, t.here.few) in
      turned (suc i) _ z (passed-own stage region.cell k W (chop len j cells) (entries_in region x batch) s g (block len cells j) live-block met
      (sym (length-chop len j cells)) (sym (length-entries region batch x)) t.weight i l m (home-nowhere (g.homes i m) a))

  -- an index exceeds k
  pub too-great : {s' : Look} → k < u → s' ≡ broken → StageScanned stage region.cell k W (chop len count cells) (entries_in region q batch) s'
  too-great l b = wrong b (λ ok.
      omega (arith, names_at k u (indexes (entries_in region x batch)) _ (subst (Names k) (among region batch q x u t.an-index t.entry) ok.1)))

  -- two are equal and not 0
  pub twice : {s' : Look} (i : ℕ) → u ≡ suc i → i < k → IsSome (get_or s.bits i None) → s' ≡ broken → StageScanned stage region.cell k W (chop len count cells) (entries_in region q batch) s'
  twice i z l p b = wrong b (λ ok.
      let r : List ℕ = past_it region batch q x in
      let g : Passed stage region.cell k W (chop len j cells) (entries_in region x batch) s = t.here.passed in
      home-there (g.homes i (omega (arith, t.here.few))) p
      (names-once k i (indexes (entries_in region x batch)) r
      (subst (λ (y : ℕ). Names k (indexes (entries_in region x batch) ++ (y ∷ r))) z (subst (Names k) (among region batch q x u t.an-index t.entry) ok.1))))
