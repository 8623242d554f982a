-- Laws of a change at stage 0 of a staged sheet: the plain step on the m blocks, or no place there. Assumes nothing.
use Rattle.std.proofs.Math.Path.{◌≡◌, sym, ap}
use Rattle.std.specs.Prelude.{refl, ◌≢◌, take, replicate, Option}
use Rattle.std.proofs.Common.{ap₂, ◌∙◌, subst, arith, take-append-drop, drop_of_length-le, pow_pos, length-take-le, take-take}
use mathlib.Core.List.{List, ◌++◌, append_assoc}
use Prim.Native.Nat.{ℕ, ◌+◌, ◌-◌, ◌*◌, ◌%◌, ◌^◌, ◌≤◌, ◌<◌}
use Rattle.std.proofs.Math.Decide.{ℕ_discrete}
use Rattle.std.proofs.Math.Nat.{le_refl, sub_self}
use Rattle.std.proofs.Math.ListN.{length, drop}
use Rattle.std.proofs.lemmas.List.{drop-append-le}
use Rattle.rules.specs.Search.{pick, nowhere, Result, done, no_place_left}
use Rattle.rules.specs.Cells.{tabulate, block, store}
use Rattle.rules.specs.Block.{cycle}
use Rattle.rules.specs.Plain as P
use Rattle.rules.specs.Staged.{stage0, after, later, written, change_cells, from_stage0}
use Rattle.rules.specs.Staged as S
use Rattle.rules.specs.Batches.{decode, write}
use Rattle.rules.specs.AcceptLaws.{StagedFacts, staged-bits}
use Rattle.rules.specs.Calls.{Pass, as_check}
use Rattle.plan.specs.declared.Look.{Look}
use Rattle.rules.specs.declared.Settings.{Settings}
use Rattle.laws.specs.Halve.{plain-live}
use Rattle.laws.specs.Kinds.{staged-change}
use Rattle.laws.specs.Lists.{low-take, tabulate-same}
use Rattle.laws.specs.Parity.{half-power, stage0-few}
use Rattle.laws.specs.PlainSheet as Q
use Rattle.laws.specs.Splice.{drop-take}
use Rattle.plain.specs.Meaning.{Scanned, PlaceOf, plan_in, step}
use Rattle.plain.specs.Meaning as M
use Rattle.plain.specs.Laws.{block-end, scanned-place, scanned-read, scanned-sound}
use Rattle.plan.specs.declared.Place.{Place}
use Rattle.plan.specs.declared.Plan.{Plan}
use Rattle.plan.specs.declared.Plan.TheVariants.{Nowhere}
use Rattle.plan.specs.Meaning.{Levelled, Planned, value_in}
use Rattle.staged.specs.Meaning.{AtStage, Stuck}
use Rattle.staged.specs.LayoutLaws.{cells_are}
use Rattle.staged.specs.StageLaws.{decode-at, dark-zero}
use Rattle.staged.specs.ZeroLaws.{cells_in, to-rules}

-- ---- a block of the m blocks is a block of the sheet

-- the front of a sheet has its blocks
pub front-block : (k c j : ℕ) (f : List ℕ) → j * k + k ≤ c → block k (take c f) j ≡ block k f j
unfolding block
front-block k c j f h = ap (take k) (drop-take (j * k) (c - j * k) c f (omega arith)) ∙ take-take k (c - j * k) (drop (j * k) f) (omega arith)

-- a block stored in the front is stored in the sheet
pub front-store : (k c j : ℕ) (b f : List ℕ) → j * k + k ≤ c → c ≤ length f → store k (take c f) j b ++ drop c f ≡ store k f j b
unfolding store
front-store k c j b f h l =
    let p : List ℕ = take (j * k) f in
    let e : j * k + k + (c - (j * k + k)) ≡ c = omega arith in
    let q : drop (j * k + k) (take c f) ++ drop c f ≡ drop (j * k + k) f =
    sym (drop-append-le (j * k + k) (take c f) (drop c f) (omega (arith, length-take-le c f l))) ∙ ap (drop (j * k + k)) (take-append-drop c f) in
    ap (λ (x : List ℕ). (x ++ (b ++ drop (j * k + k) (take c f))) ++ drop c f) (take-take (j * k) c f (omega arith))
    ∙ append_assoc p (b ++ drop (j * k + k) (take c f)) (drop c f)
    ∙ ap (λ (x : List ℕ). p ++ x) (append_assoc b (drop (j * k + k) (take c f)) (drop c f) ∙ ap (λ (x : List ℕ). b ++ x) q)

-- ---- the change at stage 0

module _ (r : Settings) (p : StagedFacts r) (f : List ℕ) (v : Levelled r f) (a : AtStage r f nowhere) (c : ℕ) (e : c ≡ r.m * 2 ^ r.s) (s : Look) (h : Scanned r.k r.top r.m (take c f) s) where
  inside : r.m * r.k ≤ c
  inside = omega (arith, cells_are r p)

  two : 2 ≤ r.k
  two = omega (arith, (staged-bits r p).0)

  long : length (take c f) ≡ c
  long = length-take-le c f (cells_in r p f v c e)

  -- the change of the sheet goes by the plain change of the m blocks
  zero-change : (i : ℕ) {q : Result (List ℕ)} → P.change r.k r.top r.m i (take c f) ≡ q
      → S.change r.s r.m r.top i (decode r.s r.m r.top r.w f)
      ≡ from_stage0 r.s r.m r.top (take (r.m * 2 ^ r.s) f) (tabulate (2 ^ r.s) (after i (S.read r.s r.m r.top (stage0 (take (r.m * 2 ^ r.s) f))))) q
  unfolding S.change
  zero-change i z =
      ap (S.change r.s r.m r.top i) (decode-at r p f nowhere a)
      ∙ ap (from_stage0 r.s r.m r.top (take (r.m * 2 ^ r.s) f) (tabulate (2 ^ r.s) (after i (S.read r.s r.m r.top (stage0 (take (r.m * 2 ^ r.s) f))))))
      (sym (ap₂ (λ (k x : ℕ). P.change k r.top r.m i (take x f)) (sym p.bits) e) ∙ z)

  module _ (t : as_check s.answer ≡ Pass) where
    -- the m blocks keep the rules
    ok : P.BlocksOk r.k r.top r.m (take c f)
    ok = (scanned-sound h t).0

    zero-place : (i : ℕ) → i < r.k → PlaceOf r.k r.top r.m i (take c f) (plan_in s i)
    zero-place i l = scanned-place r.k r.top r.m i (take c f) s two p.top_least (omega (arith, long, inside)) l h t

    step_from : (i : ℕ) {o : Plan} → PlaceOf r.k r.top r.m i (take c f) o → o ≢ Nowhere → (d : ℕ) (bits : List (Option Place)) → Planned r f i d bits o
    unfolding change_cells
    step_from i (step x u b q y z) n d bits =
        let k : ℕ = r.k in
        let fits : x * k + k ≤ c = block-end k r.m x c inside b in
        let low : c ≤ length f = cells_in r p f v c e in
        let new : List ℕ = cycle k r.top i (u + 1) in
        record {
          fits = record { place = omega arith; below = q; cells = sym (front-block k c x f fits) ∙ y };
          made = staged-change r p f i ∙ ap (written (write r.s r.m r.top r.w) f) (zero-change i z)
              ∙ ap (λ (n : ℕ). done (store k (take c f) x new ++ drop n f)) (sym e) ∙ ap done (front-store k c x new f fits low);
        }
    step_from i (M.erase z) n d bits = absurd (n refl)

    -- a place is the next step of the bit's cycle in its block
    pub zero-planned : (i d : ℕ) (bits : List (Option Place)) → i < r.k → plan_in s i ≢ Nowhere → Planned r f i d bits (plan_in s i)
    zero-planned i d bits l n = step_from i (zero-place i l) n d bits

    -- no place: fewer than k blocks are live
    accepted : Q.Accepted (2 ^ r.s) r.top r.m (r.m * 2 ^ r.s) (take (r.m * 2 ^ r.s) f)
    accepted =
        let n : length (take (r.m * 2 ^ r.s) f) ≡ r.m * 2 ^ r.s = length-take-le (r.m * 2 ^ r.s) f (cells_in r p f v (r.m * 2 ^ r.s) refl) in
        record {
          long = n;
          low = low-take r.top (r.m * 2 ^ r.s) f v.low;
          lawful = Q.blocks-lawful (2 ^ r.s) r.top r.m (take (r.m * 2 ^ r.s) f) (pow_pos r.s) p.top_least (to-rules r p f v c e ok);
          packed = (to-rules r p f v c e ok).2;
          spare = drop_of_length-le (take (r.m * 2 ^ r.s) f) {i = r.m * 2 ^ r.s} (omega arith) ∙ ap (λ (x : ℕ). replicate x 0) (sym (sub_self (r.m * 2 ^ r.s)));
        }

    few-live : (i : ℕ) → i < r.k → P.change r.k r.top r.m i (take c f) ≡ no_place_left → S.live_count r.s r.m r.top (r.s - 1) (take (r.m * 2 ^ r.s) f) < 2 ^ r.s
    few-live i l z =
        let k : ℕ = 2 ^ r.s in
        let m : ℕ = r.m in
        let L : ℕ = r.top in
        let pos : 0 < r.s = omega (arith, p.stages-least) in
        let one : 1 < k = omega (arith, half-power r.s pos, pow_pos (r.s - 1), (staged-bits r p).0, p.bits) in
        let even : k * L % 2 ≡ 0 = ap (λ (x : ℕ). x * L % 2) (sym (half-power r.s pos)) ∙ omega arith in
        let i-in : i < k = subst (λ (x : ℕ). i < x) (sym p.bits) l in
        let none : P.change k L m i (take (m * k) f) ≡ no_place_left = sym (ap₂ (λ (k x : ℕ). P.change k L m i (take x f)) (sym p.bits) e) ∙ z in
        stage0-few r.s m L (take (m * k) f) pos
        (plain-live k L m (m * k) one p.top_least even (le_refl (m * k)) i i-in (take (m * k) f) accepted
        (Q.no-place-how k L m (m * k) one p.top_least even (le_refl (m * k)) i i-in (take (m * k) f) accepted none))

    stuck-from : (i : ℕ) → i < r.k → {o : Plan} → PlaceOf r.k r.top r.m i (take c f) o → o ≡ Nowhere → Stuck r f i (r.s - 1) s.bits
    unfolding S.read
    stuck-from i l (step x u b q y z) n = absurd (let y : ◌≡◌ {A = ℕ} 0 1 = cc in omega arith)
    stuck-from i l (M.erase z) n = record {
      left = le_refl (r.s - 1);
      few = few-live i l z;
      dark = dark-zero r p f a.stage;
      goes = zero-change i z
          ∙ ap (later r.s r.m r.top (r.s - 1) (take (r.m * 2 ^ r.s) f))
          (tabulate-same (2 ^ r.s) (after i (S.read r.s r.m r.top (stage0 (take (r.m * 2 ^ r.s) f)))) (after i (value_in s.bits))
          (λ y b. ap (λ (x : ℕ). pick (ℕ_discrete y i) (1 - x) x)
          (ap₂ (λ (k x : ℕ). P.read k r.top r.m (take x f) y) p.bits (sym e) ∙ scanned-read r.k r.top r.m y (take c f) s h t (subst (λ (x : ℕ). y < x) p.bits b))));
    }

    -- no place among the m blocks: the change goes on to a later stage
    pub zero-stuck : (i : ℕ) → i < r.k → plan_in s i ≡ Nowhere → Stuck r f i (r.s - 1) s.bits
    zero-stuck i l n = stuck-from i l (zero-place i l) n
