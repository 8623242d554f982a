-- Laws of the scan of one stage: what one more parity block does to what the scan holds, and how a stage breaks the rules.
-- Assumes nothing.
use Rattle.std.specs.Prelude.{List, [], ◌∷◌, ◌++◌, ◌≢◌, ◌≡◌, refl, ℕ, suc, ◌*◌, ◌≤◌, ◌<◌, get_or, length, set, Option, Some, None, IsSome, IsNone}
use Rattle.std.proofs.Common.{append-nil, ◌∙◌, ap, subst, sym, mul-le-mul, arith, length-append, length-set, get_or-set_other, get_or-set_same}
use Rattle.std.specs.Option.{option_or}
use Rattle.std.proofs.lemmas.Bool.{false≢true, true≢false}
use Rattle.std.proofs.Math.Decide.{ℕ_discrete}
use Rattle.std.proofs.lemmas.List.{get_or-replicate}
use Rattle.std.proofs.Math.ListN.{get_or-append}
use Rattle.std.proofs.Math.Seq.{get_or-append_seam}
use Rattle.laws.specs.Cut.{block-fits, blocks-cells, length-block, low-block}
use Rattle.laws.specs.Lists.{sum_low}
use Rattle.laws.specs.Live.{live_block}
use Rattle.laws.specs.LiveBlock.{live-block-append, live-block-last, weights-append}
use Rattle.laws.specs.Stage.{absent-at}
use Rattle.index.specs.declared.Region.{Region}
use Rattle.rules.specs.Accept.{most_bits}
use Rattle.rules.specs.Cells.{block, sum}
use Rattle.rules.specs.SearchLaws.{pick_no}
use Rattle.rules.specs.Stage.{Absent, Entry, Names, index, indexes, live_weights}
use Rattle.stage.specs.LiveLaws.{absent-append, indexes-append, names-free, names-new, open-entry-append, open-entry-last}
use Rattle.cells.specs.declared.blocks.Blocks.{Blocks}
use Rattle.stage.specs.Meaning.{FirstAt, Home, Passed, ScanFits, StageFits, begun, has, has_not, open_entry, with_free, with_own}
use Rattle.plan.specs.declared.Look.{Look}
use Rattle.plan.specs.declared.Place.{Place}

-- ---- what a stage asks keeps its numbers small

module _ {len count : ℕ} {region : Region} {k L : ℕ} {cells batch : List ℕ} (f : StageFits len count region k L cells batch) where
  -- a stage has at most 32,768 parity blocks
  pub count_most : count ≤ 32768
  count_most = omega (arith, blocks-cells len count f.long, f.inside, f.short)

  -- and none weighs more than as many cells as there can be bits, of 255 levels
  pub weight-most : L ≤ 255 → (j v : ℕ) → j < count → v ≡ sum (block len cells j) → v ≤ 16320
  weight-most g j v h e =
      let n : length (block len cells j) ≡ len = length-block len cells j (omega (arith, block-fits len j count h, f.inside)) in
      let l : sum (block len cells j) ≤ len * L = subst (λ (x : ℕ). sum (block len cells j) ≤ x * L) n (sum_low L (block len cells j) (low-block L len cells j f.low)) in
      omega (arith, mul-le-mul f.brief g)

-- parity blocks that lie in the cells are as the laws ask
pub fits-of : {b : Blocks} {region : Region} {k : ℕ} {batch : List ℕ} → ScanFits b region k batch → StageFits b.len b.count region k b.top b.cells.now batch
fits-of {b} f = record { bits = f.bits; few = f.few; long = f.long; brief = f.brief; inside = b.inside; short = b.short; level = f.level; low = b.low; indexed = f.indexed }

-- ---- the first rank of a number

-- more numbers at the end do not move it
first-append : (u t : ℕ) (ts rs : List ℕ) → FirstAt u ts t → FirstAt u (ts ++ rs) t
first-append u t ts rs f = record {
  inside = omega (arith, length-append ts rs, f.inside);
  there = get_or-append ts rs 0 t f.inside ∙ f.there;
  earlier = λ x l e. f.earlier x l (sym (get_or-append ts rs 0 x (omega (arith, f.inside))) ∙ e);
}

-- a number that was not there is first where it is put
first-last : (u : ℕ) (ts : List ℕ) → Absent u ts → FirstAt u (ts ++ (u ∷ [])) (length ts)
first-last u ts o = record {
  inside = omega (arith, length-append ts (u ∷ []));
  there = get_or-append_seam ts u [] 0;
  earlier = λ x l e. absent-at u x ts o l (sym e ∙ get_or-append ts (u ∷ []) 0 x l);
}

-- ---- a number's block, with more blocks at the end

-- equal numbers for the block
place_same : {j j' x x' v v' : ℕ} → j ≡ j' → x ≡ x' → v ≡ v' → ◌≡◌ {A = Place} (record { block = j; slot = x; weight = v }) (record { block = j'; slot = x'; weight = v' })
place_same a b c = cc

module _ (W u : ℕ) (bs : List (List ℕ)) (es : List Entry) (as_many : length (indexes es) ≡ length (live_weights W bs)) where
  -- it stays, or stays away
  home-more : (cs : List (List ℕ)) (fs : List Entry) (o : Option Place) → (Absent u (indexes es) → Absent u (indexes fs))
      → Home W u bs es o → Home W u (bs ++ cs) (es ++ fs) o
  home-more cs fs o a (has t f) =
      let l : t < length (live_weights W bs) = omega (arith, f.inside) in
      let p : live_block W t (bs ++ cs) ≡ live_block W t bs = live-block-append W t bs cs l in
      let x : open_entry t (es ++ fs) ≡ open_entry t es = open-entry-append t es fs f.inside in
      let v : get_or (live_weights W (bs ++ cs)) t 0 ≡ get_or (live_weights W bs) t 0 =
      ap (λ (ws : List ℕ). get_or ws t 0) (weights-append W bs cs) ∙ get_or-append (live_weights W bs) (live_weights W cs) 0 t l in
      subst (λ (q : Place). Home W u (bs ++ cs) (es ++ fs) (Some q)) (place_same p x v)
      (has t (subst (λ (ts : List ℕ). FirstAt u ts t) (sym (indexes-append es fs)) (first-append u t (indexes es) (indexes fs) f)))
  home-more cs fs o a (has_not n) =
      has_not (subst (Absent u) (sym (indexes-append es fs)) (absent-append u (indexes es) (indexes fs) n (a n)))

  -- it is the last, where none had the number before
  home-new : (b : List ℕ) → sum b ≢ W → Absent u (indexes es) → (p : Place) → p.block ≡ length bs → p.slot ≡ length es → p.weight ≡ sum b
      → Home W u (bs ++ (b ∷ [])) (es ++ (index u ∷ [])) (Some p)
  home-new b n a p j x v =
      let e : live_weights W (bs ++ (b ∷ [])) ≡ live_weights W bs ++ (sum b ∷ []) =
      weights-append W bs (b ∷ []) ∙ ap (λ (r : List ℕ). live_weights W bs ++ r) (pick_no (ℕ_discrete (sum b) W) _ _ n) in
      subst (λ (q : Place). Home W u (bs ++ (b ∷ [])) (es ++ (index u ∷ [])) (Some q))
      (place_same (ap (λ (t : ℕ). live_block W t (bs ++ (b ∷ []))) as_many ∙ live-block-last W b bs n ∙ sym j) (open-entry-last u es ∙ sym x)
      (ap (λ (t : ℕ). get_or (live_weights W (bs ++ (b ∷ []))) t 0) as_many ∙ ap (λ (ws : List ℕ). get_or ws (length (live_weights W bs)) 0) e ∙ get_or-append_seam (live_weights W bs) (sum b) [] 0 ∙ sym v))
      (has (length (indexes es)) (subst (λ (ts : List ℕ). FirstAt u ts (length (indexes es))) (sym (indexes-append es (index u ∷ []))) (first-last u (indexes es) a)))

-- a number that has a block stands in the list
pub home-there : {W u : ℕ} {bs : List (List ℕ)} {es : List Entry} {o : Option Place} → Home W u bs es o → IsSome o → ¬ Absent u (indexes es)
home-there {u = u} {es = es} (has t f) e a = absent-at u t (indexes es) a f.inside (sym f.there)
home-there (has_not n) e a = false≢true e

-- and one that has none does not
pub home-nowhere : {W u : ℕ} {bs : List (List ℕ)} {es : List Entry} {o : Option Place} → Home W u bs es o → IsNone o → Absent u (indexes es)
home-nowhere (has t f) e = absurd (true≢false e)
home-nowhere (has_not n) e = n

-- ---- what the scan holds, with more blocks at the end

-- nothing is passed at first
pub passed_none : (stage cell k W : ℕ) → Passed stage cell k W [] [] (begun stage cell)
passed_none stage cell k W = record {
  answer = refl;
  batch = refl;
  long = refl;
  as_many = refl;
  names = tt;
  homes = λ i l. subst (Home W (suc i) [] []) (sym (get_or-replicate most_bits i None None l)) (has_not tt);
  free = has_not tt;
}

module _ (stage cell k W : ℕ) (bs : List (List ℕ)) (es : List Entry) (s : Look) (g : Passed stage cell k W bs es s) where
  -- full ones change nothing
  pub passed-full : (cs : List (List ℕ)) (fs : List Entry) → live_weights W cs ≡ [] → indexes fs ≡ [] → Passed stage cell k W (bs ++ cs) (es ++ fs) s
  passed-full cs fs c f =
      let ts : indexes (es ++ fs) ≡ indexes es = indexes-append es fs ∙ ap (λ (r : List ℕ). indexes es ++ r) f ∙ append-nil (indexes es) in
      let ws : live_weights W (bs ++ cs) ≡ live_weights W bs = weights-append W bs cs ∙ ap (λ (r : List ℕ). live_weights W bs ++ r) c ∙ append-nil (live_weights W bs) in
      record {
        answer = g.answer;
        batch = g.batch;
        long = g.long;
        as_many = ap length ts ∙ g.as_many ∙ sym (ap length ws);
        names = subst (Names k) (sym ts) g.names;
        homes = λ i l. home-more W (suc i) bs es g.as_many cs fs _ (λ a. subst (Absent (suc i)) (sym f) tt) (g.homes i l);
        free = home-more W 0 bs es g.as_many cs fs _ (λ a. subst (Absent 0) (sym f) tt) g.free;
      }

  -- a parity block and an index block that aren't full, and the place made of them
  module _ (b : List ℕ) (n : sum b ≢ W) (p : Place) (j : p.block ≡ length bs) (x : p.slot ≡ length es) (v : p.weight ≡ sum b) where
    -- there is one more of each
    one_more : (u : ℕ) → length (indexes (es ++ (index u ∷ []))) ≡ length (live_weights W (bs ++ (b ∷ [])))
    one_more u =
        let e : length (live_weights W (b ∷ [])) ≡ 1 = ap length (pick_no (ℕ_discrete (sum b) W) _ _ n) in
        let ts : length (indexes (es ++ (index u ∷ []))) ≡ length (indexes es ++ (u ∷ [])) = ap length (indexes-append es (index u ∷ [])) in
        let ws : length (live_weights W (bs ++ (b ∷ []))) ≡ length (live_weights W bs ++ live_weights W (b ∷ [])) = ap length (weights-append W bs (b ∷ [])) in
        omega (arith, length-append (indexes es) (u ∷ []), length-append (live_weights W bs) (live_weights W (b ∷ [])), g.as_many)

    -- the first free one stays; where there was none, it is the new one
    free_at : (o : Option Place) → Home W 0 bs es o → Home W 0 (bs ++ (b ∷ [])) (es ++ (index 0 ∷ [])) (option_or o (Some p))
    free_at (Some q) h = home-more W 0 bs es g.as_many (b ∷ []) (index 0 ∷ []) (Some q) (λ a. absurd (home-there h refl a)) h
    free_at None h = home-new W 0 bs es g.as_many b n (home-nowhere h refl) p j x v

    -- a free one
    pub passed-free : Passed stage cell k W (bs ++ (b ∷ [])) (es ++ (index 0 ∷ [])) (with_free s p)
    passed-free = record {
      answer = g.answer;
      batch = g.batch;
      long = g.long;
      as_many = one_more 0;
      names = subst (Names k) (sym (indexes-append es (index 0 ∷ []))) (names-free k (indexes es) g.names);
      homes = λ i l. home-more W (suc i) bs es g.as_many (b ∷ []) (index 0 ∷ []) _ (λ o. (λ e. omega arith, tt)) (g.homes i l);
      free = free_at s.free g.free;
    }

    -- a bit's number, and each other bit's
    own_at : (i : ℕ) → i < most_bits → Absent (suc i) (indexes es) → (y : ℕ) → y < most_bits → Dec (y ≡ i)
        → Home W (suc y) (bs ++ (b ∷ [])) (es ++ (index (suc i) ∷ [])) (get_or (set s.bits i (Some p)) y None)
    own_at i h a y l (yes e) =
        subst (λ (z : ℕ). Home W (suc z) (bs ++ (b ∷ [])) (es ++ (index (suc i) ∷ [])) (get_or (set s.bits i (Some p)) z None)) (sym e)
        (subst (Home W (suc i) (bs ++ (b ∷ [])) (es ++ (index (suc i) ∷ []))) (sym (get_or-set_same s.bits i (Some p) None (omega (arith, g.long))))
        (home-new W (suc i) bs es g.as_many b n a p j x v))
    own_at i h a y l (no e) =
        subst (Home W (suc y) (bs ++ (b ∷ [])) (es ++ (index (suc i) ∷ []))) (sym (get_or-set_other s.bits i y (Some p) None e))
        (home-more W (suc y) bs es g.as_many (b ∷ []) (index (suc i) ∷ []) _ (λ r. (λ q. e (omega arith), tt)) (g.homes y l))

    -- a bit's
    pub passed-own : (i : ℕ) → i < k → i < most_bits → Absent (suc i) (indexes es)
        → Passed stage cell k W (bs ++ (b ∷ [])) (es ++ (index (suc i) ∷ [])) (with_own s i p)
    passed-own i h m a = record {
      answer = g.answer;
      batch = g.batch;
      long = length-set s.bits i (Some p) ∙ g.long;
      as_many = one_more (suc i);
      names = subst (Names k) (sym (indexes-append es (index (suc i) ∷ []))) (names-new k i (indexes es) g.names h a);
      homes = λ y l. own_at i m a y l (ℕ_discrete y i);
      free = home-more W 0 bs es g.as_many (b ∷ []) (index (suc i) ∷ []) _ (λ r. (λ e. omega arith, tt)) g.free;
    }
