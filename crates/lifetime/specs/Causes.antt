-- Why a call on a sheet at stage 0 answers BadSheet, exactly (01, check 6; 02, K3), and that erase and change keep the two rules of K3. Assumes nothing.
use Rattle.std.specs.Prelude.{◌≡◌, ◌↔◌, ◌⊎◌, List, ℕ, ◌+◌, ◌*◌, ◌^◌, ◌≤◌, ◌<◌, length, take, drop, replicate}
use Rattle.std.proofs.Common.{sym, ◌∙◌, subst, subst₂, inl, inr, ⊎_elim, zero-le, arith}
use Rattle.std.proofs.Math.Path.{ap}
use Rattle.std.proofs.Math.Logic.{dite}
use Rattle.std.proofs.Math.Logic.Iff
use Rattle.std.proofs.Math.Logic.Dec
use Rattle.rules.specs.Search.{not?, all?, Result, done, no_place_left}
use Rattle.rules.specs.SearchLaws.{some-not}
use Rattle.rules.specs.Cells.{sum, Low, block}
use Rattle.rules.specs.Block.{State, state_of}
use Rattle.rules.specs.Plain.{IsEmpty, IsFull, OnCycle, on_cycle?, SameBit, same_bit?, Hole, hole?, states}
use Rattle.rules.specs.Plain.{AllOnCycle, NoRepeat, AllActive, last_used, FullLast, full_last?, Packed, BlocksOk, blocks_ok?, Spare}
use Rattle.rules.specs.Staged.{Sheet, SheetOk}
use Rattle.rules.specs.Batches.{batch_cells, index_cells}
use Rattle.rules.specs.Accept.{Genuine, batch_start}
use Rattle.rules.specs.AcceptLaws.{PlainFacts, StagedFacts, genuine-facts, genuine-plain}
use Rattle.rules.specs.BatchLaws.{batch_from, StageIs, at-batch, at-0}
use Rattle.rules.proofs.BatchLaws.{stage-highest}
use Rattle.rules.specs.Calls.{Check, Sound, change_sheet, changed, changing, change_call, Reading, read_call}
use Rattle.rules.specs.Answer.{number_of}
use Rattle.rules.specs.declared.Settings.{Settings}
use Rattle.rules.specs.declared.Answer.TheVariants.{Done, BadSheet}
use Rattle.laws.specs.Cut.{block-fits}
use Rattle.laws.specs.Lists.{low-drop, low-replicate, low-take, sum_low}
use Rattle.laws.specs.Packed.{packed-same}
use Rattle.laws.specs.Splice.{part-part}
use Rattle.laws.specs.Kinds.{plain-sound, sound-plain, staged-sound, sound-staged}
use Rattle.laws.specs.Calls.{Accepted, change-passes}
use Rattle.lifetime.specs.Change.{change-made, erased-accepted}
use Rattle.lifetime.specs.Refusals.{read-sheet, read-gives, read-answers, change-sheet, change-answers}

-- ---- the rules of the blocks

-- a rule of stage 0 that the m blocks break
pub data BlockCause (k m : ℕ) (st : ℕ → State) : Type 0 where
  -- block j is neither empty, full nor on a cycle
  off_cycle : (j : ℕ) → j < m → ¬ (OnCycle (st j)) → BlockCause k m st
  -- two active blocks x < j have one bit
  one_bit : (x j : ℕ) → x < j → j < m → SameBit (st x) (st j) → BlockCause k m st
  -- an empty block x stands before block j, which isn't empty
  hole : (x j : ℕ) → x < j → j < m → IsEmpty (st x) → ¬ (IsEmpty (st j)) → BlockCause k m st
  -- all k bits have active blocks and the last block that isn't empty is full
  full_last : AllActive k m st → IsFull (last_used st m) → BlockCause k m st

-- an empty block x stands before block j, which isn't empty
abbrev pub HasHole : ℕ → (ℕ → State) → Type 0
HasHole m st = (x : ℕ) × (j : ℕ) × (x < j) × (j < m) × IsEmpty (st x) × ¬ (IsEmpty (st j))

-- what does not fail for every two places, one before the other, holds for some two
some_pair : {Q : ℕ → ℕ → Type 0} → ((x j : ℕ) → Dec (Q x j)) → (m : ℕ) → ¬ ((j : ℕ) → j < m → (x : ℕ) → x < j → ¬ (Q x j))
    → (x : ℕ) × (j : ℕ) × (x < j) × (j < m) × Q x j
some_pair {Q} q m n =
    let a : (j : ℕ) × (j < m) × ¬ ((x : ℕ) → x < j → ¬ (Q x j)) = some-not (λ j. all? (λ x. not? (q x j)) j) m n in
    let b : (x : ℕ) × (x < a.0) × ¬ (¬ (Q x a.0)) = some-not (λ x. not? (q x a.0)) a.0 a.2 in
    (b.0, a.0, b.1, a.1, (Dec.not-not (q b.0 a.0)).0 b.2)

module _ (k m : ℕ) (st : ℕ → State) where
  -- one of K3's two rules is broken exactly if there is a hole, or a full block last after k active ones
  pub packed-cause : ¬ (Packed k m st) ↔ (HasHole m st ⊎ FullLast k m st)
  packed-cause = (
    λ n. dite (full_last? k m st) (λ f. inr f) (λ f. inl (spread (some_pair (λ x j. hole? (st x) (st j)) m (λ h. n (h, f))))),
    ⊎_elim (λ h p. p.0 h.1 h.3 h.0 h.2 (h.4, h.5)) (λ f p. p.1 f),
  )
    where
      spread : (x : ℕ) × (j : ℕ) × (x < j) × (j < m) × Hole (st x) (st j) → HasHole m st
      spread h = (h.0, h.1, h.2, h.3, h.4.0, h.4.1)

  -- a rule of stage 0 is broken exactly if there is a cause
  rules-cause : ¬ (AllOnCycle m st × NoRepeat m st × Packed k m st) ↔ BlockCause k m st
  rules-cause = (
    λ n. dite (all? (λ j. on_cycle? (st j)) m)
        (λ o. dite (all? (λ j. all? (λ x. not? (same_bit? (st x) (st j))) j) m)
        (λ a. ⊎_elim (λ h. hole h.0 h.1 h.2 h.3 h.4 h.5) (λ f. full_last f.0 f.1) (packed-cause.0 (λ p. n (o, a, p))))
        (λ a. repeats (some_pair (λ x j. same_bit? (st x) (st j)) m a)))
        (λ o. off (some-not (λ j. on_cycle? (st j)) m o)),
    back,
  )
    where
      off : (j : ℕ) × (j < m) × ¬ (OnCycle (st j)) → BlockCause k m st
      off h = off_cycle h.0 h.1 h.2

      repeats : (x : ℕ) × (j : ℕ) × (x < j) × (j < m) × SameBit (st x) (st j) → BlockCause k m st
      repeats h = one_bit h.0 h.1 h.2 h.3 h.4

      back : BlockCause k m st → ¬ (AllOnCycle m st × NoRepeat m st × Packed k m st)
      back (off_cycle j l h) r = h (r.0 j l)
      back (one_bit x j q l h) r = r.1 j l x q h
      back (hole x j q l h d) r = r.2.0 j l x q (h, d)
      back (full_last a f) r = r.2.1 (a, f)

-- the blocks of a sheet break a rule exactly if there is a cause
pub blocks-cause : (k L m : ℕ) (xs : List ℕ) → ¬ (BlocksOk k L m xs) ↔ BlockCause k m (states k L xs)
blocks-cause k L m xs = rules-cause k m (states k L xs)

-- ---- stage 0, of either kind

-- 01's words for stage 0: no batch has a cell above 0 (a plain sheet has no batch)
abbrev pub StageZero : Settings → List ℕ → Type 0
StageZero r xs = (b : ℕ) → 1 ≤ b → b < r.s → sum (batch_from r xs b) ≡ 0

-- the cells after the m blocks and the I index cells are 0 (a plain sheet has no index cell)
abbrev pub SpareZero : Settings → List ℕ → Type 0
SpareZero r xs = Spare (r.m * r.k + index_cells r.s r.w) r.n xs

-- a plain sheet is at stage 0
pub plain-zero : (r : Settings) → Genuine r → r.kind ≡ 0 → (xs : List ℕ) → StageZero r xs
plain-zero r g e xs b l h = absurd (omega (arith, (genuine-plain r g e).no-stages))

-- and so is an erased sheet of either kind
pub erased-zero : (r : Settings) → StageZero r (replicate r.n 0)
erased-zero r b l h =
    let z : List ℕ = replicate r.n 0 in
    let c : Low 0 (batch_from r z b) = low-take 0 (batch_cells r.s r.w) (drop (batch_start r b) z) (low-drop 0 (batch_start r b) z (low-replicate 0 r.n 0 zero-le)) in
    omega (arith, sum_low 0 (batch_from r z b) c)

-- states that agree below m keep the rules of stage 0 alike
rules-same : (k m : ℕ) (st st' : ℕ → State) → ((j : ℕ) → j < m → st j ≡ st' j) → AllOnCycle m st × NoRepeat m st × Packed k m st
    → AllOnCycle m st' × NoRepeat m st' × Packed k m st'
rules-same k m st st' e h = (
  λ j l. subst OnCycle (e j l) (h.0 j l),
  λ j l x q. subst₂ (λ (s t : State). ¬ (SameBit s t)) (e x (omega arith)) (e j l) (h.1 j l x q),
  packed-same k m st st' e h.2,
)

-- the first m blocks apart have the states of the sheet's
states-apart : (k L m : ℕ) (xs : List ℕ) (j : ℕ) → j < m → states k L (take (m * k) xs) j ≡ states k L xs j
unfolding states block
states-apart k L m xs j l =
    let e : 0 + j * k ≡ j * k = omega arith in
    ap (state_of k L) (part-part 0 (m * k) (j * k) k xs (block-fits k j m l) ∙ ap (λ (a : ℕ). take k (drop a xs)) e)

-- so they keep the rules exactly if the sheet's blocks do
blocks-apart : (k L m : ℕ) (xs : List ℕ) → BlocksOk k L m (take (m * k) xs) ↔ BlocksOk k L m xs
blocks-apart k L m xs = (
  rules-same k m (states k L (take (m * k) xs)) (states k L xs) (states-apart k L m xs),
  rules-same k m (states k L xs) (states k L (take (m * k) xs)) (λ j l. sym (states-apart k L m xs j l)),
)

module _ (r : Settings) (xs : List ℕ) (g : Genuine r) (z : StageZero r xs) where
  -- kind 0 has no index cell
  zero-plain : PlainFacts r → Sound r xs ↔ (BlocksOk r.k r.top r.m xs × SpareZero r xs)
  zero-plain p =
      let e : r.m * r.k ≡ r.m * r.k + index_cells r.s r.w = omega (arith, ap (λ (s : ℕ). index_cells s r.w) p.no-stages) in (
        λ h. let q = plain-sound r p xs h in (q.0, subst (λ (a : ℕ). Spare a r.n xs) e q.1),
        λ h. sound-plain r p xs (h.0, subst (λ (a : ℕ). Spare a r.n xs) (sym e) h.1),
      )

  -- kind 1: what the cells mean is the m blocks
  zero-blocks : StagedFacts r → {x : Sheet} → StageIs r xs x → SheetOk r.s r.m r.top x ↔ BlocksOk r.k r.top r.m xs
  zero-blocks p (at-batch b l h q n) = absurd (omega (arith, z b l h))
  zero-blocks p (at-0 n) = subst (λ (k : ℕ). BlocksOk k r.top r.m (take (r.m * r.k) xs) ↔ BlocksOk r.k r.top r.m xs)
      (sym p.bits) (blocks-apart r.k r.top r.m xs)

  -- so its rules are theirs
  zero-staged : StagedFacts r → Sound r xs ↔ (BlocksOk r.k r.top r.m xs × SpareZero r xs)
  zero-staged p =
      let o = zero-blocks p (stage-highest r g (λ e. omega (arith, p.staged)) xs) in
      let e : r.m * 2 ^ r.s + index_cells r.s r.w ≡ r.m * r.k + index_cells r.s r.w = ap (λ (k : ℕ). r.m * k + index_cells r.s r.w) p.bits in (
        λ h. let q = staged-sound r p xs h in (o.0 q.0, subst (λ (a : ℕ). Spare a r.n xs) e q.1),
        λ h. sound-staged r p xs (o.1 h.0, subst (λ (a : ℕ). Spare a r.n xs) (sym e) h.1),
      )

  -- at stage 0 the sheet rules of either kind are those of the blocks and the spare cells
  pub zero-rules : Sound r xs ↔ (BlocksOk r.k r.top r.m xs × SpareZero r xs)
  zero-rules = ⊎_elim zero-plain zero-staged (genuine-facts r g)

-- what is wrong with a sheet at stage 0: its blocks, or a spare cell
abbrev pub Cause : Settings → List ℕ → Type 0
Cause r xs = BlockCause r.k r.m (states r.k r.top xs) ⊎ ¬ (SpareZero r xs)

-- at stage 0 the sheet rules are broken exactly if there is a cause
pub sheet-cause : (r : Settings) (xs : List ℕ) → Genuine r → StageZero r xs → ¬ (Sound r xs) ↔ Cause r xs
sheet-cause r xs g z =
    let s = zero-rules r xs g z in
    let b = blocks-cause r.k r.top r.m xs in (
      λ n. dite (blocks_ok? r.k r.top r.m xs) (λ o. inr (λ q. n (s.1 (o, q)))) (λ o. inl (b.0 o)),
      ⊎_elim (λ c q. b.1 c (s.0 q).0) (λ c q. c (s.0 q).1),
    )

-- the sheet keeps 01's own rules of stage 0
pub record Keeps01 (r : Settings) (xs : List ℕ) : Type 0 where
  pub cycles : AllOnCycle r.m (states r.k r.top xs)
  pub bits : NoRepeat r.m (states r.k r.top xs)
  pub spare : SpareZero r xs

-- the causes of 02, K3: a hole, or k active blocks and a full block last
abbrev pub NewCause : Settings → List ℕ → Type 0
NewCause r xs = HasHole r.m (states r.k r.top xs) ⊎ FullLast r.k r.m (states r.k r.top xs)

-- a sheet at stage 0 that keeps 01's own rules breaks the sheet rules exactly by these
pub new-causes : (r : Settings) (xs : List ℕ) → Genuine r → StageZero r xs → Keeps01 r xs → ¬ (Sound r xs) ↔ NewCause r xs
new-causes r xs g z h =
    let s = zero-rules r xs g z in
    let c = packed-cause r.k r.m (states r.k r.top xs) in (
      λ n. c.0 (λ p. n (s.1 ((h.cycles, h.bits, p), h.spare))),
      λ w q. c.1 w (s.0 q).0.2,
    )

-- ---- the calls

-- a sheet that passes checks 1, 2 and 5
pub record LevelsPass (r : Settings) (xs : List ℕ) : Type 0 where
  pub genuine : Genuine r
  pub long : length xs ≡ r.n
  pub low : Low r.top xs

module _ (r : Settings) (xs : List ℕ) (a : LevelsPass r xs) where
  -- it is accepted if it keeps the sheet rules
  pub whole : Sound r xs → Accepted r xs
  whole s = record { genuine = a.genuine; long = a.long; low = a.low; sound = s }

  -- a reading of it answers BadSheet exactly if it breaks the sheet rules
  pub read-breaks : (out : List ℕ) → r.k ≤ length out → ((read_call r xs out).answer ≡ BadSheet) ↔ ¬ (Sound r xs)
  read-breaks out l = (
    λ e s. omega (arith, ap number_of (sym e ∙ ap (λ (o : Reading). o.answer) (read-gives r xs out (whole s) l))),
    λ n. (read-answers r xs out BadSheet).0 (read-sheet a.genuine a.long l a.low n),
  )

  -- and so does a change of a bit below k
  pub change-breaks : (i : ℕ) → i < r.k → ((change_call r xs i).answer ≡ BadSheet) ↔ ¬ (Sound r xs)
  unfolding change_call
  change-breaks i l = (
    λ e s. made (change_sheet r xs i) (sym (ap (λ (c : Check). (changing r xs i c).answer) (change-passes r xs i (whole s) l)) ∙ e),
    λ n. (change-answers r xs i BadSheet).0 (change-sheet a.genuine a.long l a.low n),
  )
    where
      made : (q : Result (List ℕ)) → ¬ ((changed xs q).answer ≡ BadSheet)
      made (done ys) e = omega (arith, ap number_of e)
      made no_place_left e = omega (arith, ap number_of e)

-- a reading at stage 0 answers BadSheet exactly if there is a cause
pub read-bad-sheet : (r : Settings) (xs out : List ℕ) → LevelsPass r xs → StageZero r xs → r.k ≤ length out → ((read_call r xs out).answer ≡ BadSheet) ↔ Cause r xs
read-bad-sheet r xs out a z l = Iff.trans (read-breaks r xs a out l) (sheet-cause r xs a.genuine z)

-- a change at stage 0 answers BadSheet exactly if there is a cause
pub change-bad-sheet : (r : Settings) (xs : List ℕ) (i : ℕ) → LevelsPass r xs → StageZero r xs → i < r.k → ((change_call r xs i).answer ≡ BadSheet) ↔ Cause r xs
change-bad-sheet r xs i a z l = Iff.trans (change-breaks r xs a i l) (sheet-cause r xs a.genuine z)

-- where 01's own rules are kept a reading at stage 0 answers BadSheet exactly by a new cause
pub read-new-causes : (r : Settings) (xs out : List ℕ) → LevelsPass r xs → StageZero r xs → Keeps01 r xs → r.k ≤ length out → ((read_call r xs out).answer ≡ BadSheet) ↔ NewCause r xs
read-new-causes r xs out a z h l = Iff.trans (read-breaks r xs a out l) (new-causes r xs a.genuine z h)

-- and so does a change
pub change-new-causes : (r : Settings) (xs : List ℕ) (i : ℕ) → LevelsPass r xs → StageZero r xs → Keeps01 r xs → i < r.k → ((change_call r xs i).answer ≡ BadSheet) ↔ NewCause r xs
change-new-causes r xs i a z h l = Iff.trans (change-breaks r xs a i l) (new-causes r xs a.genuine z h)

-- ---- what keeps the two rules

-- an accepted sheet at stage 0 has no hole, nor a full block last after k active ones
pub accepted-packed : (r : Settings) (xs : List ℕ) → Accepted r xs → StageZero r xs → Packed r.k r.m (states r.k r.top xs)
accepted-packed r xs a z = ((zero-rules r xs a.genuine z).0 a.sound).0.2

-- an erased sheet keeps both rules
pub erased-kept : (r : Settings) → Genuine r → Packed r.k r.m (states r.k r.top (replicate r.n 0))
erased-kept r g = accepted-packed r (replicate r.n 0) (erased-accepted r g) (erased-zero r)

-- and so does every sheet that a change makes, if it is at stage 0
pub change-kept : (r : Settings) (xs : List ℕ) (i v : ℕ) → (change_call r xs i).answer ≡ Done v → StageZero r (change_call r xs i).sheet
    → Packed r.k r.m (states r.k r.top (change_call r xs i).sheet)
change-kept r xs i v e z = accepted-packed r (change_call r xs i).sheet (change-made r xs i v e).changed.stays z
