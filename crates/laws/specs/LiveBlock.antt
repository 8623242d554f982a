-- Laws of the t-th block that isn't full: its number, its weight, and that block set; and the weights of lists put one after the other. Assumes nothing.
use Rattle.std.specs.Prelude.{List, [], ◌∷◌, ◌++◌, ◌≢◌, ◌≡◌, refl, ℕ, zero, suc, ◌<◌, length, get_or, set}
use Rattle.std.proofs.Common.{◌∙◌, ap, subst, sym, suc-le-suc, zero-le, le_of_suc-le-suc, not-suc-le-zero}
use Rattle.std.proofs.Math.Decide.{ℕ_discrete}
use Rattle.laws.specs.Live.{live_block}
use Rattle.rules.specs.Cells.{sum}
use Rattle.rules.specs.Search.{pick}
use Rattle.rules.specs.SearchLaws.{pick_no, pick_yes}
use Rattle.rules.specs.Stage.{live_weights, raise, raise_live}

-- the weights of two lists of blocks
pub weights-append : (W : ℕ) (bs cs : List (List ℕ)) → live_weights W (bs ++ cs) ≡ live_weights W bs ++ live_weights W cs
weights-append W [] cs = refl
weights-append W (b ∷ bs) cs = go (ℕ_discrete (sum b) W) (weights-append W bs cs)
  where
    go : (d : Dec (sum b ≡ W)) → live_weights W (bs ++ cs) ≡ live_weights W bs ++ live_weights W cs
        → pick d (live_weights W (bs ++ cs)) (sum b ∷ live_weights W (bs ++ cs)) ≡ pick d (live_weights W bs) (sum b ∷ live_weights W bs) ++ live_weights W cs
    go (yes e) r = r
    go (no e) r = ap {B = List ℕ} (λ l. sum b ∷ l) r

-- a full block is passed over in the count
pub block-full : (W t : ℕ) (b : List ℕ) (bs : List (List ℕ)) → sum b ≡ W → live_block W t (b ∷ bs) ≡ suc (live_block W t bs)
block-full W zero b bs e = pick_yes (ℕ_discrete (sum b) W) _ _ e
block-full W (suc t) b bs e = pick_yes (ℕ_discrete (sum b) W) _ _ e

-- and in the raise
raise-full : (W L t : ℕ) (b : List ℕ) (bs : List (List ℕ)) → sum b ≡ W → raise_live W L t (b ∷ bs) ≡ b ∷ raise_live W L t bs
raise-full W L zero b bs e = pick_yes (ℕ_discrete (sum b) W) _ _ e
raise-full W L (suc t) b bs e = pick_yes (ℕ_discrete (sum b) W) _ _ e

-- where the t-th stands: at the head, past a full block, or past another that isn't full
pub data LiveAt (W : ℕ) : ℕ → List (List ℕ) → Type 0 where
  head : (b : List ℕ) (bs : List (List ℕ)) → sum b ≢ W → LiveAt W 0 (b ∷ bs)
  skip : {t : ℕ} {bs : List (List ℕ)} (b : List ℕ) → sum b ≡ W → LiveAt W t bs → LiveAt W t (b ∷ bs)
  past : {t : ℕ} {bs : List (List ℕ)} (b : List ℕ) → sum b ≢ W → LiveAt W t bs → LiveAt W (suc t) (b ∷ bs)

-- it stands at one of these
pub live_at : (W t : ℕ) (bs : List (List ℕ)) → t < length (live_weights W bs) → LiveAt W t bs
live_at W t [] h = absurd (not-suc-le-zero h)
live_at W t (b ∷ bs) h = go t (ℕ_discrete (sum b) W) h (λ y. live_at W y bs)
  where
    go : (x : ℕ) (d : Dec (sum b ≡ W)) → x < length (pick d (live_weights W bs) (sum b ∷ live_weights W bs)) → ((y : ℕ) → y < length (live_weights W bs) → LiveAt W y bs) → LiveAt W x (b ∷ bs)
    go x (yes e) l r = skip b e (r x l)
    go zero (no e) l r = head b bs e
    go (suc x) (no e) l r = past b e (r x (le_of_suc-le-suc l))

module _ (W : ℕ) where
  -- its number, by where it stands
  in_block : {t : ℕ} {bs : List (List ℕ)} → LiveAt W t bs → live_block W t bs < length bs
  in_block (head b bs n) = subst (λ (j : ℕ). j < suc (length bs)) (sym (pick_no (ℕ_discrete (sum b) W) _ _ n)) (suc-le-suc zero-le)
  in_block {t} (skip {bs = bs} b e r) = subst (λ (j : ℕ). j < suc (length bs)) (sym (block-full W t b bs e)) (suc-le-suc (in_block r))
  in_block (past {bs = bs} b n r) = subst (λ (j : ℕ). j < suc (length bs)) (sym (pick_no (ℕ_discrete (sum b) W) _ _ n)) (suc-le-suc (in_block r))

  -- it is one of the blocks
  pub live-block-in : (t : ℕ) (bs : List (List ℕ)) → t < length (live_weights W bs) → live_block W t bs < length bs
  live-block-in t bs h = in_block (live_at W t bs h)

  -- its number with more blocks at the end
  same_block : {t : ℕ} {bs : List (List ℕ)} (cs : List (List ℕ)) → LiveAt W t bs → live_block W t (bs ++ cs) ≡ live_block W t bs
  same_block cs (head b bs n) = pick_no (ℕ_discrete (sum b) W) _ _ n ∙ sym (pick_no (ℕ_discrete (sum b) W) _ _ n)
  same_block {t} cs (skip {bs = bs} b e r) = block-full W t b (bs ++ cs) e ∙ ap suc (same_block cs r) ∙ sym (block-full W t b bs e)
  same_block cs (past b n r) = pick_no (ℕ_discrete (sum b) W) _ _ n ∙ ap suc (same_block cs r) ∙ sym (pick_no (ℕ_discrete (sum b) W) _ _ n)

  -- more blocks at the end don't move it
  pub live-block-append : (t : ℕ) (bs cs : List (List ℕ)) → t < length (live_weights W bs) → live_block W t (bs ++ cs) ≡ live_block W t bs
  live-block-append t bs cs h = same_block cs (live_at W t bs h)

  -- the last of the list, if not full, comes past all others
  pub live-block-last : (b : List ℕ) (bs : List (List ℕ)) → sum b ≢ W → live_block W (length (live_weights W bs)) (bs ++ (b ∷ [])) ≡ length bs
  live-block-last b [] n = pick_no (ℕ_discrete (sum b) W) _ _ n
  live-block-last b (c ∷ bs) n = go (ℕ_discrete (sum c) W) (live-block-last b bs n)
    where
      go : (d : Dec (sum c ≡ W)) → live_block W (length (live_weights W bs)) (bs ++ (b ∷ [])) ≡ length bs
          → live_block W (length (pick d (live_weights W bs) (sum c ∷ live_weights W bs))) (c ∷ (bs ++ (b ∷ []))) ≡ suc (length bs)
      go (yes e) r = block-full W (length (live_weights W bs)) c (bs ++ (b ∷ [])) e ∙ ap suc r
      go (no e) r = pick_no (ℕ_discrete (sum c) W) _ _ e ∙ ap suc r

  -- its weight, by where it stands
  sum-block : {t : ℕ} {bs : List (List ℕ)} → LiveAt W t bs → get_or (live_weights W bs) t 0 ≡ sum (get_or bs (live_block W t bs) [])
  sum-block (head b bs n) = ap (λ (ws : List ℕ). get_or ws 0 0) (pick_no (ℕ_discrete (sum b) W) _ _ n) ∙ sym (ap (λ (j : ℕ). sum (get_or (b ∷ bs) j [])) (pick_no (ℕ_discrete (sum b) W) _ _ n))
  sum-block {t} (skip {bs = bs} b e r) =
      ap (λ (ws : List ℕ). get_or ws t 0) (pick_yes (ℕ_discrete (sum b) W) _ _ e) ∙ sum-block r ∙ sym (ap (λ (j : ℕ). sum (get_or (b ∷ bs) j [])) (block-full W t b bs e))
  sum-block (past {t} {bs} b n r) =
      ap (λ (ws : List ℕ). get_or ws (suc t) 0) (pick_no (ℕ_discrete (sum b) W) _ _ n) ∙ sum-block r ∙ sym (ap (λ (j : ℕ). sum (get_or (b ∷ bs) j [])) (pick_no (ℕ_discrete (sum b) W) _ _ n))

  -- the t-th weight is its sum
  pub live-block-sum : (t : ℕ) (bs : List (List ℕ)) → t < length (live_weights W bs) → get_or (live_weights W bs) t 0 ≡ sum (get_or bs (live_block W t bs) [])
  live-block-sum t bs h = sum-block (live_at W t bs h)

  -- it is not full, by where it stands
  not_full : {t : ℕ} {bs : List (List ℕ)} → LiveAt W t bs → get_or (live_weights W bs) t 0 ≢ W
  not_full (head b bs n) e = n (sym (ap (λ (ws : List ℕ). get_or ws 0 0) (pick_no (ℕ_discrete (sum b) W) _ _ n)) ∙ e)
  not_full {t} (skip {bs = bs} b f r) e = not_full r (sym (ap (λ (ws : List ℕ). get_or ws t 0) (pick_yes (ℕ_discrete (sum b) W) _ _ f)) ∙ e)
  not_full (past {t} {bs} b n r) e = not_full r (sym (ap (λ (ws : List ℕ). get_or ws (suc t) 0) (pick_no (ℕ_discrete (sum b) W) _ _ n)) ∙ e)

  -- which is not a full block's
  pub live-block-open : (t : ℕ) (bs : List (List ℕ)) → t < length (live_weights W bs) → get_or (live_weights W bs) t 0 ≢ W
  live-block-open t bs h = not_full (live_at W t bs h)

  -- the raise, by where it stands
  raise-block : {t : ℕ} {bs : List (List ℕ)} (L : ℕ) → LiveAt W t bs → raise_live W L t bs ≡ set bs (live_block W t bs) (raise L (get_or bs (live_block W t bs) []))
  raise-block L (head b bs n) =
      pick_no (ℕ_discrete (sum b) W) _ _ n ∙ sym (ap (λ (j : ℕ). set (b ∷ bs) j (raise L (get_or (b ∷ bs) j []))) (pick_no (ℕ_discrete (sum b) W) _ _ n))
  raise-block {t} L (skip {bs = bs} b e r) =
      raise-full W L t b bs e ∙ ap {B = List (List ℕ)} (λ l. b ∷ l) (raise-block L r) ∙ sym (ap (λ (j : ℕ). set (b ∷ bs) j (raise L (get_or (b ∷ bs) j []))) (block-full W t b bs e))
  raise-block L (past {t} {bs} b n r) =
      pick_no (ℕ_discrete (sum b) W) _ _ n ∙ ap {B = List (List ℕ)} (λ l. b ∷ l) (raise-block L r)
      ∙ sym (ap (λ (j : ℕ). set (b ∷ bs) j (raise L (get_or (b ∷ bs) j []))) (pick_no (ℕ_discrete (sum b) W) _ _ n))

  -- it is the one that raise_live raises
  pub raise-live-set : (L t : ℕ) (bs : List (List ℕ)) → t < length (live_weights W bs) → raise_live W L t bs ≡ set bs (live_block W t bs) (raise L (get_or bs (live_block W t bs) []))
  raise-live-set L t bs h = raise-block L (live_at W t bs h)
