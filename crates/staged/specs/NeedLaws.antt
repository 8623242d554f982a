-- What the plan of a change in the present stage needs, part by part. Assumes nothing.
use Rattle.std.specs.Prelude.{◌≡◌, refl, List, ◌++◌, ℕ, zero, suc, ◌+◌, ◌-◌, ◌*◌, ◌^◌, ◌≤◌, length, drop, replicate}
use Rattle.std.proofs.Common.{sym, ap, ◌∙◌, subst, arith, length-append, length-drop, take-append-drop}
use Rattle.std.proofs.lemmas.List.{length-replicate}
use Rattle.rules.specs.AcceptLaws.{StagedFacts}
use Rattle.rules.specs.Batches.{digits}
use Rattle.rules.specs.Cells.{Rises, block, sum}
use Rattle.rules.specs.Stage.{raise}
use Rattle.rules.specs.Staged.{parity_length}
use Rattle.rules.specs.declared.Settings.{Settings}
use Rattle.laws.specs.Cut.{store-rises}
use Rattle.laws.specs.Index.{length_digits}
use Rattle.laws.specs.Lists.{rises-append, rises-same, sum-append}
use Rattle.laws.specs.Splice.{part, spliced}
use Rattle.laws.specs.Stage.{raise-rises}
use Rattle.plan.specs.Meaning.{Fits, IndexFits, Levelled, Needs, NeedsMore, ParityFits, Within, block_raised, carried, index_set, m_blocks, parity_raised, raised_blocks}
use Rattle.plan.specs.NeedLaws.{needs-one, needs-past, needs-spliced}
use Rattle.plan.specs.declared.Need.{Need}
use Rattle.plan.specs.declared.Plan.{Plan}
use Rattle.plan.specs.declared.Plan.TheVariants.{Close, Move, Nowhere, Raise, Step, Take}
use Rattle.staged.specs.LentLaws.{full-rises}
use Rattle.staged.specs.Meaning.{BlockReady, IndexIn, IndexReady, PlanNeeds}
use Rattle.staged.specs.WithinLaws.{block_in, blocks-long, blocks-raised, new-long, raised-levelled, raised_long}

module _ (r : Settings) (p : StagedFacts r) (f : List ℕ) (v : Levelled r f) (d j : ℕ) (k : ParityFits r f d j) where
  -- the cells past the m blocks
  abbrev rest : List ℕ
  rest = drop (r.m * 2 ^ r.s) f

  -- the m blocks keep their length
  same-long : length (m_blocks r f) ≡ length (raised_blocks r f d j)
  same-long = blocks-long r p f v d k.stage ∙ sym (raised_long r p f v d k.stage j k.inside)

  -- none of their levels falls
  blocks-rise : Rises (m_blocks r f) (raised_blocks r f d j)
  blocks-rise = store-rises (parity_length d) (m_blocks r f) j (block_in r p f v d k.stage j k.inside) (raise r.top (block (parity_length d) (m_blocks r f) j))
      (new-long r p f v d k.stage j k.inside) (raise-rises r.top (block (parity_length d) (m_blocks r f) j))

  -- and they have one level more
  blocks_more : sum (raised_blocks r f d j) ≡ suc (sum (m_blocks r f))
  blocks_more = blocks-raised r p f v d k.stage j k.inside k.live

  -- the sheet is its m blocks and the rest
  whole : f ≡ m_blocks r f ++ rest
  whole = sym (take-append-drop (r.m * 2 ^ r.s) f)

  -- a parity block raised is one level in one cell
  pub raised-needs : Needs f (parity_raised r f d j) (record { cells = 1; levels = 1 })
  raised-needs = subst (λ (g : List ℕ). Needs g (parity_raised r f d j) (record { cells = 1; levels = 1 })) (sym whole)
      (needs-one (m_blocks r f ++ rest) (raised_blocks r f d j ++ rest)
      (omega (arith, length-append (m_blocks r f) rest, length-append (raised_blocks r f d j) rest, same-long))
      (rises-append (m_blocks r f) (raised_blocks r f d j) rest rest same-long blocks-rise (rises-same rest))
      (omega (arith, sum-append (m_blocks r f) rest, sum-append (raised_blocks r f d j) rest, blocks_more)))

  -- with an index block set besides, what that needs is one less
  pub both-need : (a : ℕ) (b : List ℕ) (n : Need) → r.m * 2 ^ r.s ≤ a → a + r.w ≤ r.n → length b ≡ r.w → NeedsMore 1 (part a r.w f) b n → Needs f (spliced a b (parity_raised r f d j)) n
  both-need a b n past inside l h =
      let t : length (m_blocks r f) ≡ r.m * 2 ^ r.s = blocks-long r p f v d k.stage in
      let s : length rest ≡ length f - r.m * 2 ^ r.s = length-drop (r.m * 2 ^ r.s) f in
      subst (λ (g : List ℕ). Needs g (spliced a b (parity_raised r f d j)) n) (sym whole)
      (needs-past (m_blocks r f) (raised_blocks r f d j) rest a r.w b n same-long blocks-rise blocks_more l (omega arith) (omega (arith, v.long))
      (subst (λ (g : List ℕ). NeedsMore 1 (part a r.w g) b n) whole h))

module _ (r : Settings) (p : StagedFacts r) (f : List ℕ) (v : Levelled r f) (i d : ℕ) (g : ℕ → ℕ) where
  -- what a parity block raised to full needs, with its index block
  pub close-needs : (j a : ℕ) (n : Need) → Fits r f i d (Close j a) → NeedsMore 1 (part a r.w f) (replicate r.w r.top) n → Needs f (carried r i d g f (Close j a)) n
  close-needs j a n h k = both-need r p f v d j h.0 a (replicate r.w r.top) n h.1.past h.1.inside (length-replicate r.w r.top) k

  -- and a free block that the bit takes
  pub take-needs : (j a up : ℕ) (n : Need) → Fits r f i d (Take j a up) → NeedsMore up (part a r.w f) (digits (suc r.top) r.w (i + 1)) n → Needs f (carried r i d g f (Take j a up)) n
  take-needs j a zero n h k = needs-spliced a r.w (digits (suc r.top) r.w (i + 1)) f n (length_digits (suc r.top) r.w (i + 1)) (omega (arith, h.1.inside, v.long)) k
  take-needs j a (suc zero) n h k = both-need r p f v d j h.0 a (digits (suc r.top) r.w (i + 1)) n h.1.past h.1.inside (length_digits (suc r.top) r.w (i + 1)) k
  take-needs j a (suc (suc up)) n h k = absurd (omega (arith, h.2))

module _ (r : Settings) (p : StagedFacts r) (f : List ℕ) (v : Levelled r f) (i d : ℕ) where
  -- a plan within the stage is its parity block raised and its index block set
  pub carried-parts : (g : ℕ → ℕ) (y : Plan) → Within y → index_set r i (block_raised r d f y) y ≡ carried r i d g f y
  carried-parts g (Step j w) h = absurd h
  carried-parts g (Raise j) h = refl
  carried-parts g (Close j a) h = refl
  carried-parts g (Take j a zero) h = refl
  carried-parts g (Take j a (suc up)) h = refl
  carried-parts g (Move e) h = absurd h
  carried-parts g Nowhere h = absurd h

  -- what it asks for, part by part
  pub block-ready : (y : Plan) → Within y → Fits r f i d y → BlockReady r f d y
  block-ready (Step j w) h k = absurd h
  block-ready (Raise j) h k = k
  block-ready (Close j a) h k = k.0
  block-ready (Take j a up) h k = k.0
  block-ready (Move e) h k = absurd h
  block-ready Nowhere h k = absurd h

  -- its index block
  pub index-ready : (y : Plan) → Within y → Fits r f i d y → IndexReady r f y
  index-ready (Step j w) h k = absurd h
  index-ready (Raise j) h k = tt
  index-ready (Close j a) h k = k.1
  index-ready (Take j a up) h k = (k.1, k.2, k.3)
  index-ready (Move e) h k = absurd h
  index-ready Nowhere h k = absurd h

  -- where it lies
  pub index-there : (y : Plan) → Within y → Fits r f i d y → IndexIn r y
  index-there (Step j w) h k = absurd h
  index-there (Raise j) h k = tt
  index-there (Close j a) h k = k.1
  index-there (Take j a up) h k = k.1
  index-there (Move e) h k = absurd h
  index-there Nowhere h k = absurd h

  -- with the parity block raised the sheet has its length
  pub part-long : (y : Plan) → BlockReady r f d y → length (block_raised r d f y) ≡ r.n
  part-long (Step j w) k = v.long
  part-long (Raise j) k = (raised-levelled r p f v d k.stage j k.inside).long
  part-long (Close j a) k = (raised-levelled r p f v d k.stage j k.inside).long
  part-long (Take j a zero) k = v.long
  part-long (Take j a (suc up)) k = (raised-levelled r p f v d k.stage j k.inside).long
  part-long (Move e) k = v.long
  part-long Nowhere k = v.long

  -- what it needs is what its parts do
  pub plan-needs : (g : ℕ → ℕ) (y : Plan) (n : Need) → Within y → Fits r f i d y → PlanNeeds r i f y n → Needs f (carried r i d g f y) n
  plan-needs g (Step j w) n h k q = absurd h
  plan-needs g (Raise j) n h k q = subst (Needs f (parity_raised r f d j)) (sym q) (raised-needs r p f v d j k)
  plan-needs g (Close j a) n h k q = close-needs r p f v i d g j a n k q
  plan-needs g (Take j a up) n h k q = take-needs r p f v i d g j a up n k q
  plan-needs g (Move e) n h k q = absurd h
  plan-needs g Nowhere n h k q = absurd h

-- a free block of odd weight is not raised
pub block-stays : (r : Settings) (d : ℕ) (f : List ℕ) (j a up : ℕ) {y : Plan} → y ≡ Take j a up → up ≡ 0 → f ≡ block_raised r d f y
block-stays r d f j a zero e z = sym (ap (block_raised r d f) e)
block-stays r d f j a (suc up) e z = absurd (omega arith)

-- and one of even weight is
pub block-taken : (r : Settings) (d : ℕ) (f : List ℕ) (j a up : ℕ) {y : Plan} → y ≡ Take j a up → ¬ (up ≡ 0) → parity_raised r f d j ≡ block_raised r d f y
block-taken r d f j a zero e z = absurd (z refl)
block-taken r d f j a (suc up) e z = sym (ap (block_raised r d f) e)

-- what is told of the sort of plan that it is, is told of the plan
pub plan-told : (r : Settings) (i : ℕ) (f : List ℕ) (n : Need) {y z : Plan} → y ≡ z → PlanNeeds r i f z n → PlanNeeds r i f y n
plan-told r i f n e h = subst (λ (x : Plan). PlanNeeds r i f x n) (sym e) h

-- an index block raised to full, no level falls
pub index-rises : (r : Settings) (f : List ℕ) → Levelled r f → (a : ℕ) → IndexFits r a → Rises (part a r.w f) (replicate r.w r.top)
index-rises r f v a h = full-rises f a r.w (omega (arith, v.long, h.inside)) r.top v.low
