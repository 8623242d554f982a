-- Kind 1's batches are a way to store the index blocks. Assumes nothing.
use mathlib.Core.List.{List, [], ◌++◌, ◌∷◌, map}
use Rattle.std.specs.Prelude.{◌≢◌, ◌≡◌, drop, length, replicate}
use Rattle.std.proofs.Common.{inl, inr, ◌∙◌, le_refl, mul-pos, arith, drop_of_length-le, length-drop, take-append-drop, pow_pos, drop_at, length-take-le, take_at}
use Rattle.std.proofs.Math.Path.{ap, ap₂, refl, subst, sym}
use Prim.Native.Nat.{◌*◌, ◌+◌, ◌-◌, ◌<◌, ◌^◌, ◌≤◌, suc, zero, ℕ}
use Rattle.std.proofs.Math.Decide.{dec_lt}
use Rattle.std.proofs.Math.Nat.{mul-le-mul_right, pow-zero, sub_self}
use Rattle.std.proofs.Math.ListN.{length-append, take}
use Rattle.std.proofs.lemmas.List.{length-map, length-replicate}
use Rattle.std.proofs.Math.Seq.{drop-append-add, drop-drop}
use Rattle.laws.specs.Chop.{chop-join, chop-sized, join-chop, length-chop, length-join, low-join}
use Rattle.laws.specs.Cut.{length-block, length-store, low-block, low-store, store_other, store-past, store-rises, store_same}
use Rattle.laws.specs.Index.{NumberFits, digits_low, digits-zero, entry-stored, length_digits, num-digits, number-zero, stored-entry}
use Rattle.laws.specs.Parity.{count-width}
use Rattle.laws.specs.Lists.{drop-replicate, low-append, low-drop, low-replicate, low-take, rises-append, rises-full, rises-same, rises-zero, sum-append, sum-replicate, take-replicate}
use Rattle.laws.specs.Stage.{Forth, Sized, Used, close, end, name, same}
use Rattle.laws.specs.PlainSheet.{blocks-lawful, lawful-blocks}
use Rattle.lifetime.specs.Storage.{Storage}
use Rattle.rules.specs.Batches.{batch, decode, digits, entry_cells, entry_of, index_cells, number, sheet_at, write}
use Rattle.rules.specs.Cells.{Low, Rises, block, chop, join, same?, store, sum}
use Rattle.rules.specs.Plain.{Spare}
use Rattle.rules.specs.Search.{Found, at, first, nowhere}
use Rattle.rules.specs.SearchLaws.{First, first-is, first-unique, hit, miss, pick-elim}
use Rattle.rules.specs.Stage.{Entry, Names, closed, index, indexes}
use Rattle.rules.specs.Staged.{Sheet, SheetOk, parity_count, parity_length, stage0, staged}
use Rattle.lifetime.specs.Staged as S

-- ---- entries and their cells

-- every number fits
abbrev pub AllFit : ℕ → ℕ → List Entry → Type 0
AllFit L w [] = Unit {0}
AllFit L w (e ∷ es) = NumberFits L w e × AllFit L w es

-- where w digits hold k + 2 numbers, every index fits
pub all_fit : (k L w : ℕ) (es : List Entry) → k + 2 ≤ suc L ^ w → Names k (indexes es) → AllFit L w es
all_fit k L w [] p h = tt
all_fit k L w (closed ∷ es) p h = (tt, all_fit k L w es p h)
all_fit k L w (index zero ∷ es) p h = (omega arith, all_fit k L w es p h)
all_fit k L w (index (suc b) ∷ es) p h = (omega (arith, h.0), all_fit k L w es p h.2)

-- so each is stored in w cells of at most L
pub stored-sized : (L w : ℕ) (es : List Entry) → AllFit L w es → Sized w L (map (entry_cells L w) es)
stored-sized L w [] h = tt
stored-sized L w (closed ∷ es) h = (length-replicate w L, low-replicate L w L (le_refl L), stored-sized L w es h.1)
stored-sized L w (index u ∷ es) h = (length_digits (suc L) w u, digits_low L w u (omega (arith, h.0)), stored-sized L w es h.1)

-- and is read back
pub entries-stored : (L w : ℕ) (es : List Entry) → AllFit L w es → map (entry_of L w) (map (entry_cells L w) es) ≡ es
entries-stored L w [] h = refl
entries-stored L w (e ∷ es) h = ap₂ (λ (x : Entry) (r : List Entry). x ∷ r) (entry-stored L w e h.0) (entries-stored L w es h.1)

-- a number other than 0 has a cell above 0
num-zero : (q : ℕ) (b : List ℕ) → sum b ≡ 0 → number q b ≡ 0
unfolding number
num-zero q [] h = refl
num-zero q (x ∷ b) h =
    let e : x ≡ 0 = omega arith in
    let f : sum b ≡ 0 = omega arith in
    ap₂ (λ (y r : ℕ). y * q ^ length b + r) e (num-zero q b f) ∙ omega arith

-- a number in use has a cell above 0
pub used-sum : (L w : ℕ) (es : List Entry) → 0 < L → 0 < w → AllFit L w es → Used es → 0 < sum (join (map (entry_cells L w) es))
used-sum L w [] g p f h = absurd h
used-sum L w (closed ∷ es) g p f h = omega (arith, sum-append (replicate w L) (join (map (entry_cells L w) es)), sum-replicate w L, mul-pos p g)
used-sum L w (index zero ∷ es) g p f h = omega (arith, sum-append (digits (suc L) w 0) (join (map (entry_cells L w) es)), used-sum L w es g p f.1 h)
used-sum L w (index (suc u) ∷ es) g p f h =
    let d : List ℕ = digits (suc L) w (suc u) in
    let n : sum d ≢ 0 = λ e. let z : suc u ≡ 0 = sym (num-digits (suc L) w (suc u) (omega arith) (omega (arith, f.0))) ∙ num-zero (suc L) d e in omega arith in
    omega (arith, sum-append d (join (map (entry_cells L w) es)))

-- and a cell above 0 makes a number other than 0, or a full index block
sum-used : (L w : ℕ) (bs : List (List ℕ)) → Sized w L bs → 0 < sum (join bs) → Used (map (entry_of L w) bs)
unfolding entry_of
sum-used L w [] z h = absurd (omega arith)
sum-used L w (b ∷ bs) z h = pick-elim (λ e. Used (e ∷ map (entry_of L w) bs)) (same? b (replicate w L)) _ _ (λ q. tt)
    (λ q. go (number (suc L) b) refl (λ h. sum-used L w bs z.2 h))
  where
    go : (u : ℕ) → number (suc L) b ≡ u → (0 < sum (join bs) → Used (map (entry_of L w) bs)) → Used (index u ∷ map (entry_of L w) bs)
    go zero e f = f (omega (arith, sum-append b (join bs), number-zero (suc L) b (omega arith) e))
    go (suc u) e f = tt

-- cells of entries that go forth do not fall
pub forth-rises : (L w : ℕ) {es fs : List Entry} → Forth es fs → AllFit L w es → Rises (join (map (entry_cells L w) es)) (join (map (entry_cells L w) fs))
forth-rises L w end h = rises-same []
forth-rises L w (same e {es} {fs} r) h =
    rises-append (entry_cells L w e) (entry_cells L w e) (join (map (entry_cells L w) es)) (join (map (entry_cells L w) fs)) refl (rises-same (entry_cells L w e)) (forth-rises L w r h.1)
forth-rises L w (name u {es} {fs} r) h =
    rises-append (digits (suc L) w 0) (digits (suc L) w u) (join (map (entry_cells L w) es)) (join (map (entry_cells L w) fs))
    (length_digits (suc L) w 0 ∙ sym (length_digits (suc L) w u))
    (rises-zero (digits (suc L) w 0) (digits (suc L) w u) (ap sum (digits-zero (suc L) w) ∙ sum-replicate w 0 ∙ omega arith)) (forth-rises L w r h.1)
forth-rises L w (close u {es} {fs} r) h =
    let n : length (digits (suc L) w u) ≡ w = length_digits (suc L) w u in
    rises-append (digits (suc L) w u) (replicate w L) (join (map (entry_cells L w) es)) (join (map (entry_cells L w) fs)) (n ∙ sym (length-replicate w L))
    (subst (λ (x : ℕ). Rises (digits (suc L) w u) (replicate x L)) n (rises-full L (digits (suc L) w u) (digits_low L w u (omega (arith, h.0))))) (forth-rises L w r h.1)

-- blocks are read and stored back
pub stored-blocks : (L w : ℕ) (bs : List (List ℕ)) → Sized w L bs → map (entry_cells L w) (map (entry_of L w) bs) ≡ bs
stored-blocks L w [] h = refl
stored-blocks L w (b ∷ bs) h = ap₂ (λ (x : List ℕ) (r : List (List ℕ)). x ∷ r) (stored-entry L w b h.1 h.0) (stored-blocks L w bs h.2)

-- ---- decoding what was written

module _ (s m L w n : ℕ) (g : 0 < L) (pos : 1 < s) (fit : 2 ^ s + 2 ≤ suc L ^ w) (room : m * 2 ^ s + (s - 1) * (2 * (2 ^ s - 1) * w) ≤ n) where
  abbrev B : ℕ
  B = 2 * (2 ^ s - 1) * w

  wide : 0 < w
  wide = go w refl
    where
      go : (v : ℕ) → w ≡ v → 0 < v
      go zero e = absurd (omega (arith, fit, ap (λ (x : ℕ). suc L ^ x) e, pow-zero (suc L)))
      go (suc v) e = omega arith

  decode-at : (f : List ℕ) {r : Found} → First (λ d. 0 < sum (batch s m w f d)) (s - 1) r → decode s m L w f ≡ sheet_at s m L w f r
  unfolding decode
  decode-at f h = ap (sheet_at s m L w f) (first-unique (λ i l x. x) (λ i l x. x) (first-is (λ d. dec_lt 0 (sum (batch s m w f d))) (s - 1)) h)

  -- no batch of a later stage has a cell above 0
  below : (f : List ℕ) (d : ℕ) → d < S.stages_left s (decode s m L w f) → ¬ (0 < sum (batch s m w f d))
  unfolding decode
  below f d l = go (first-is (λ d. dec_lt 0 (sum (batch s m w f d))) (s - 1)) l
    where
      go : {r : Found} → First (λ d. 0 < sum (batch s m w f d)) (s - 1) r → d < S.stages_left s (sheet_at s m L w f r) → ¬ (0 < sum (batch s m w f d))
      go (hit e le h b) q = b d q
      go (miss b) q = b d q

  module _ (f : List ℕ) (long : length f ≡ n) where
    tail : length (drop (m * 2 ^ s) f) ≡ n - m * 2 ^ s
    tail = length-drop (m * 2 ^ s) f ∙ ap (λ (x : ℕ). x - m * 2 ^ s) long

    in-batch : (j : ℕ) → j < s - 1 → j * B + B ≤ length (drop (m * 2 ^ s) f)
    in-batch j l = omega (arith, tail, mul-le-mul_right {m = suc j} {n = s - 1} B l)

    batch-of : (xs r : List ℕ) (d : ℕ) → length xs ≡ m * 2 ^ s → batch s m w (xs ++ r) d ≡ block B r (s - 2 - d)
    unfolding batch
    batch-of xs r d e = ap (λ (c : List ℕ). block B c (s - 2 - d)) (drop_at xs r (m * 2 ^ s) e)

    batch-is : (d : ℕ) → batch s m w f d ≡ block B (drop (m * 2 ^ s) f) (s - 2 - d)
    unfolding batch
    batch-is d = refl

    write-stage0 : (xs : List ℕ) → length xs ≡ m * 2 ^ s → s - 1 ≤ S.stages_left s (decode s m L w f) → decode s m L w (write s m L w f (stage0 xs)) ≡ stage0 xs
    write-stage0 xs e l = decode-at (xs ++ drop (m * 2 ^ s) f) (miss (λ d q h. below f d (omega arith)
        (subst (λ (b : List ℕ). 0 < sum b) (batch-of xs (drop (m * 2 ^ s) f) d e ∙ sym (batch-is d)) h)))
        ∙ ap stage0 (take_at xs (drop (m * 2 ^ s) f) (m * 2 ^ s) e)

    module _ (d : ℕ) (xs : List ℕ) (es : List Entry) (y : S.StagedFits s m L d xs es) where
      new : List ℕ
      new = join (map (entry_cells L w) es)

      fits : AllFit L w es
      fits = all_fit (2 ^ s) L w es fit y.stands.names

      new-length : length new ≡ B
      unfolding new
      new-length = length-join w L (map (entry_cells L w) es) (stored-sized L w es fits) ∙ ap (λ (x : ℕ). x * w) (length-map es (entry_cells L w) ∙ y.full)

      abbrev rest : List ℕ
      rest = store B (drop (m * 2 ^ s) f) (s - 2 - d) new

      place : (s - 2 - d) * B + B ≤ length (drop (m * 2 ^ s) f)
      place = in-batch (s - 2 - d) (omega arith)

      now : batch s m w (xs ++ rest) d ≡ new
      now = batch-of xs rest d y.long ∙ store_same B (drop (m * 2 ^ s) f) (s - 2 - d) place new new-length

      others : (i : ℕ) → i < d → batch s m w (xs ++ rest) i ≡ batch s m w f i
      others i l = batch-of xs rest i y.long
          ∙ store_other B (drop (m * 2 ^ s) f) (s - 2 - d) place new new-length (s - 2 - i) (omega (arith, y.stage)) ∙ sym (batch-is i)

      write-staged : d ≤ S.stages_left s (decode s m L w f) → decode s m L w (write s m L w f (staged d xs es)) ≡ staged d xs es
      unfolding new
      write-staged l =
          decode-at (xs ++ rest) (hit d y.stage (subst (λ (b : List ℕ). 0 < sum b) (sym now) (used-sum L w es g wide fits y.used))
          (λ i q h. below f i (omega arith) (subst (λ (b : List ℕ). 0 < sum b) (others i q) h)))
          ∙ ap₂ (λ (a : List ℕ) (b : List Entry). staged d a b) (take_at xs rest (m * 2 ^ s) y.long)
          (ap (λ (b : List ℕ). map (entry_of L w) (chop w (2 * (2 ^ s - 1)) b)) now
          ∙ ap (map (entry_of L w)) (chop-join w L (2 * (2 ^ s - 1)) (map (entry_cells L w) es) (stored-sized L w es fits) (length-map es (entry_cells L w) ∙ y.full))
          ∙ entries-stored L w es fits)

      length-staged : length (write s m L w f (staged d xs es)) ≡ n
      unfolding new
      length-staged = length-append xs rest ∙ omega (arith, y.long, length-store B (drop (m * 2 ^ s) f) (s - 2 - d) place new new-length, tail)

      -- the batch's cells do not fall
      batch-rises : Low L f → S.Fits s m L (decode s m L w f) → S.Forward s m L (decode s m L w f) (staged d xs es) → Rises (batch s m w f d) new
      unfolding decode new
      batch-rises low fits q = go (first-is (λ d. dec_lt 0 (sum (batch s m w f d))) (s - 1)) fits q
        where
          dark : ¬ (0 < sum (batch s m w f d)) → Rises (batch s m w f d) (join (map (entry_cells L w) es))
          dark h = rises-zero (batch s m w f d) (join (map (entry_cells L w) es)) (omega arith)

          lit : S.StagedFits s m L d (take (m * 2 ^ s) f) (map (entry_of L w) (chop w (2 * (2 ^ s - 1)) (batch s m w f d)))
              → Forth (map (entry_of L w) (chop w (2 * (2 ^ s - 1)) (batch s m w f d))) es → Rises (batch s m w f d) (join (map (entry_cells L w) es))
          lit x r =
              let b : List ℕ = batch s m w f d in
              let E : ℕ = 2 * (2 ^ s - 1) in
              let n : length b ≡ E * w = ap length (batch-is d) ∙ length-block B (drop (m * 2 ^ s) f) (s - 2 - d) place in
              let lb : Low L b = subst (Low L) (sym (batch-is d)) (low-block L B (drop (m * 2 ^ s) f) (s - 2 - d) (low-drop L (m * 2 ^ s) f low)) in
              let z : join (map (entry_cells L w) (map (entry_of L w) (chop w E b))) ≡ b = ap join (stored-blocks L w (chop w E b) (chop-sized w L E b (omega arith) lb)) ∙ join-chop w E b n in
              subst (λ (c : List ℕ). Rises c (join (map (entry_cells L w) es))) z (forth-rises L w r (all_fit (2 ^ s) L w (map (entry_of L w) (chop w E b)) fit x.stands.names))

          go : {r : Found} → First (λ d. 0 < sum (batch s m w f d)) (s - 1) r → S.Fits s m L (sheet_at s m L w f r) → S.Forward s m L (sheet_at s m L w f r) (staged d xs es)
              → Rises (batch s m w f d) (join (map (entry_cells L w) es))
          go (hit e l h b) x (inl c) = dark (b d c)
          go (hit e l h b) x (inr c) =
              lit (subst (λ (e : ℕ). S.StagedFits s m L e (take (m * 2 ^ s) f) (map (entry_of L w) (chop w (2 * (2 ^ s - 1)) (batch s m w f e)))) (sym c.0) x)
              (subst (λ (e : ℕ). Forth (map (entry_of L w) (chop w (2 * (2 ^ s - 1)) (batch s m w f e))) es) (sym c.0) c.1)
          go (miss b) x c = dark (b d y.stage)

      staged-rises : Low L f → S.Fits s m L (decode s m L w f) → S.Forward s m L (decode s m L w f) (staged d xs es) → Rises (take (m * 2 ^ s) f) xs
          → Rises f (write s m L w f (staged d xs es))
      unfolding new
      staged-rises low fits q r = subst (λ (c : List ℕ). Rises c (xs ++ rest)) (take-append-drop (m * 2 ^ s) f)
          (rises-append (take (m * 2 ^ s) f) xs (drop (m * 2 ^ s) f) rest (length-take-le (m * 2 ^ s) f (omega arith) ∙ sym y.long) r
          (store-rises B (drop (m * 2 ^ s) f) (s - 2 - d) place new new-length (subst (λ (c : List ℕ). Rises c new) (batch-is d) (batch-rises low fits q))))

      staged-low : Low L f → Low L (write s m L w f (staged d xs es))
      unfolding new
      staged-low low = low-append L xs rest y.low (low-store L B (drop (m * 2 ^ s) f) (s - 2 - d) new (low-drop L (m * 2 ^ s) f low) (low-join w L (map (entry_cells L w) es) (stored-sized L w es fits)))

  -- no cell falls, and none is above L
  pub write-rises : (f : List ℕ) → length f ≡ n → (y : Sheet) → Low L f → S.Fits s m L (decode s m L w f) → S.Fits s m L y → S.Forward s m L (decode s m L w f) y → Rises (take (m * 2 ^ s) f) (S.block_cells y)
      → Rises f (write s m L w f y)
  write-rises f e (stage0 xs) low x h q r = subst (λ (c : List ℕ). Rises c (xs ++ drop (m * 2 ^ s) f)) (take-append-drop (m * 2 ^ s) f)
      (rises-append (take (m * 2 ^ s) f) xs (drop (m * 2 ^ s) f) (drop (m * 2 ^ s) f) (length-take-le (m * 2 ^ s) f (omega arith) ∙ sym h.long) r (rises-same (drop (m * 2 ^ s) f)))
  write-rises f e (staged d xs es) low x h q r = staged-rises f e d xs es h low x q r

  pub write_low : (f : List ℕ) → length f ≡ n → (y : Sheet) → Low L f → S.Fits s m L y → Low L (write s m L w f y)
  write_low f e (stage0 xs) low h = low-append L xs (drop (m * 2 ^ s) f) h.low (low-drop L (m * 2 ^ s) f low)
  write_low f e (staged d xs es) low h = staged-low f e d xs es h low

  -- the spare cells stay
  front-off : (xs r : List ℕ) (x : ℕ) → length xs ≡ m * 2 ^ s → drop (m * 2 ^ s + x) (xs ++ r) ≡ drop x r
  front-off xs r x e = ap (λ (a : ℕ). drop (a + x) (xs ++ r)) (sym e) ∙ drop-append-add xs r x

  pub write-spare : (f : List ℕ) → length f ≡ n → (y : Sheet) → S.Fits s m L y → drop (m * 2 ^ s + (s - 1) * B) (write s m L w f y) ≡ drop (m * 2 ^ s + (s - 1) * B) f
  unfolding new
  write-spare f e (stage0 xs) h = front-off xs (drop (m * 2 ^ s) f) ((s - 1) * B) h.long ∙ drop-drop ((s - 1) * B) (m * 2 ^ s) f
  write-spare f e (staged d xs es) h =
      front-off xs (rest f e d xs es h) ((s - 1) * B) h.long
      ∙ store-past B (drop (m * 2 ^ s) f) (s - 2 - d) (place f e d xs es h) (new f e d xs es h) (new-length f e d xs es h) ((s - 1) * B)
      (omega (arith, mul-le-mul_right {m = suc (s - 2 - d)} {n = s - 1} B (omega arith)))
      ∙ drop-drop ((s - 1) * B) (m * 2 ^ s) f

  cells-decode : (f : List ℕ) → S.block_cells (decode s m L w f) ≡ take (m * 2 ^ s) f
  unfolding decode
  cells-decode f = go (first (λ d. dec_lt 0 (sum (batch s m w f d))) (s - 1))
    where
      go : (r : Found) → S.block_cells (sheet_at s m L w f r) ≡ take (m * 2 ^ s) f
      go (at d) = refl
      go nowhere = refl

  -- what is written back is read back
  pub decode-write : (f : List ℕ) → length f ≡ n → (y : Sheet) → S.Fits s m L y → S.stages_left s y ≤ S.stages_left s (decode s m L w f) → decode s m L w (write s m L w f y) ≡ y
  decode-write f e (stage0 xs) h l = write-stage0 f e xs h.long l
  decode-write f e (staged d xs es) h l = write-staged f e d xs es h l

  pub length-write : (f : List ℕ) → length f ≡ n → (y : Sheet) → S.Fits s m L y → length (write s m L w f y) ≡ n
  length-write f e (stage0 xs) h = length-append xs (drop (m * 2 ^ s) f) ∙ omega (arith, h.long, tail f e)
  length-write f e (staged d xs es) h = length-staged f e d xs es h

  -- ---- runs

  zeros : (d j : ℕ) → s - 2 - d ≡ j → j * B + B ≤ n - m * 2 ^ s → batch s m w (replicate n 0) d ≡ replicate B 0
  unfolding batch block
  zeros d j e p =
      ap (λ (x : ℕ). take B (drop (x * B) (drop (m * 2 ^ s) (replicate n 0)))) e
      ∙ ap (λ (r : List ℕ). take B (drop (j * B) r)) (drop-replicate (m * 2 ^ s) n 0 (omega arith))
      ∙ ap (take B) (drop-replicate (j * B) (n - m * 2 ^ s) 0 (omega arith))
      ∙ take-replicate B (n - m * 2 ^ s - j * B) 0 (omega arith)

  blank : decode s m L w (replicate n 0) ≡ stage0 (replicate (m * 2 ^ s) 0)
  blank = decode-at (replicate n 0) (miss (λ d l. empty d l)) ∙ ap stage0 (take-replicate (m * 2 ^ s) n 0 (omega arith))
    where
      empty : (d : ℕ) → d < s - 1 → ¬ (0 < sum (batch s m w (replicate n 0) d))
      empty d l h =
          let N : ℕ = n - m * 2 ^ s in
          let j : ℕ = s - 2 - d in
          let p : j * B + B ≤ N = omega (arith, mul-le-mul_right {m = suc j} {n = s - 1} B (omega arith)) in
          let e : batch s m w (replicate n 0) d ≡ replicate B 0 = zeros d j refl p in
          omega (arith, ap sum e, sum-replicate B 0)

  -- kind 1's way to store the entries keeps what the stages ask of it
  pub kind_1 : Storage s m L n (decode s m L w) (write s m L w) (Spare (m * 2 ^ s + index_cells s w) n)
  kind_1 = record {
    blank = blank;
    clean = drop-replicate (m * 2 ^ s + (s - 1) * B) n 0 room;
    back = λ f e c. decode-write f e;
    long = λ f e c. length-write f e;
    low = λ f e c. write_low f e;
    keeps = λ f e c x y h q. write-spare f e y h ∙ c;
    cells = cells-decode;
    rises = λ f e c. write-rises f e;
  }

  -- ---- the sheet rules in the words of 01

  tail-short : (f : List ℕ) → length f ≡ n → length (take (m * 2 ^ s) f) ≡ m * 2 ^ s
  tail-short f e = length-take-le (m * 2 ^ s) f (omega arith)

  sheet-fits : (f : List ℕ) → length f ≡ n → Low L f → {r : Found} → First (λ d. 0 < sum (batch s m w f d)) (s - 1) r → SheetOk s m L (sheet_at s m L w f r) → S.Fits s m L (sheet_at s m L w f r)
  sheet-fits f e low (miss b) ok = record {
    long = tail-short f e;
    low = low-take L (m * 2 ^ s) f low;
    lawful = blocks-lawful (2 ^ s) L m (take (m * 2 ^ s) f) (pow_pos s) g ok;
    packed = ok.2;
    spare = drop_of_length-le (take (m * 2 ^ s) f) {i = m * 2 ^ s} (omega (arith, tail-short f e)) ∙ ap (λ (x : ℕ). replicate x 0) (sym (sub_self (m * 2 ^ s)));
  }
  sheet-fits f e low (hit d l h b) ok =
      let E : ℕ = 2 * (2 ^ s - 1) in
      let c : List ℕ = batch s m w f d in
      let p : (s - 2 - d) * B + B ≤ length (drop (m * 2 ^ s) f) = in-batch f e (s - 2 - d) (omega arith) in
      let n : length c ≡ E * w = ap length (batch-is f e d) ∙ length-block B (drop (m * 2 ^ s) f) (s - 2 - d) p in
      let lc : Low L c = subst (Low L) (sym (batch-is f e d)) (low-block L B (drop (m * 2 ^ s) f) (s - 2 - d) (low-drop L (m * 2 ^ s) f low)) in
      record {
        stage = l;
        long = tail-short f e;
        low = low-take L (m * 2 ^ s) f low;
        stands = record {
          sized = chop-sized (parity_length d) L (parity_count s m d) (take (m * 2 ^ s) f) (omega (arith, tail-short f e, count-width s m d (omega arith) (omega arith))) (low-take L (m * 2 ^ s) f low);
          even = ok.0;
          names = ok.1;
        };
        full = length-map (chop w E c) (entry_of L w) ∙ length-chop w E c;
        used = sum-used L w (chop w E c) (chop-sized w L E c (omega arith) lc) (subst (λ (x : List ℕ). 0 < sum x) (sym (join-chop w E c n)) h);
      }

  -- a sheet that keeps the rules means one that the stages accept
  pub sound-fits : (f : List ℕ) → length f ≡ n → Low L f → SheetOk s m L (decode s m L w f) → S.Fits s m L (decode s m L w f)
  unfolding decode
  sound-fits f e low ok = sheet-fits f e low (first-is (λ d. dec_lt 0 (sum (batch s m w f d))) (s - 1)) ok

-- and back
pub fits-sound : (s m L : ℕ) (x : Sheet) → S.Fits s m L x → SheetOk s m L x
fits-sound s m L (stage0 xs) h = lawful-blocks (2 ^ s) L m xs h.lawful h.packed
fits-sound s m L (staged d xs es) h = (h.stands.even, h.stands.names)
