-- A power cut while a change is written: what a change of one level leaves. Assumes nothing.
use Rattle.std.specs.Prelude.{◌≡◌, List, ◌⊎◌, ℕ, ◌+◌, ◌≤◌, length}
use Rattle.std.proofs.Common.{sym, ap, ◌∙◌, inl, inr, arith}
use Rattle.std.proofs.Math.Decide.{dec_le}
use Rattle.rules.specs.Cells.{sum, Rises}
use Rattle.rules.specs.AcceptLaws.{genuine-plain}
use Rattle.rules.specs.Calls.{change_call}
use Rattle.rules.specs.declared.Settings.{Settings}
use Rattle.rules.specs.declared.Answer.TheVariants.{Done}
use Rattle.laws.specs.Lists.{rises-still}
use Rattle.laws.specs.PlainSheet as P
use Rattle.lifetime.specs.Change.{Made, change-made, plain-law}

-- zs is what a cut on the way from xs to ys can leave: as many cells, each at a level from its old one to its new one
pub record Torn (xs ys zs : List ℕ) : Type 0 where
  pub long : length zs ≡ length xs
  pub begun : Rises xs zs
  pub ended : Rises zs ys

-- one level more in all: nothing lies between
one-level : (xs ys zs : List ℕ) → length ys ≡ length xs → 1 + sum xs ≡ sum ys → Torn xs ys zs → (zs ≡ xs) ⊎ (zs ≡ ys)
one-level xs ys zs e s t = go (dec_le (sum zs) (sum xs))
  where
    go : Dec (sum zs ≤ sum xs) → (zs ≡ xs) ⊎ (zs ≡ ys)
    go (yes h) = inl (rises-still xs zs (sym t.long) t.begun h)
    go (no h) = inr (sym (rises-still zs ys (t.long ∙ sym e) t.ended (omega arith)))

-- of either kind: a change that is answered Done with one level raised leaves the old sheet or the new, wherever it is cut
pub level-torn : (r : Settings) (xs zs : List ℕ) (i : ℕ) → (change_call r xs i).answer ≡ Done 1 → Torn xs (change_call r xs i).sheet zs → (zs ≡ xs) ⊎ (zs ≡ (change_call r xs i).sheet)
level-torn r xs zs i d t =
    let h : Made r xs i 1 (change_call r xs i).sheet = change-made r xs i 1 d in
    one-level xs (change_call r xs i).sheet zs (h.changed.stays.long ∙ sym h.accepted.long) h.raised t

-- an accepted change of a plain sheet is of one level
pub plain-one-level : (r : Settings) → r.kind ≡ 0 → (xs : List ℕ) (i v : ℕ) → (change_call r xs i).answer ≡ Done v → v ≡ 1
plain-one-level r e xs i v d =
    let ys : List ℕ = (change_call r xs i).sheet in
    let h : Made r xs i v ys = change-made r xs i v d in
    let a : P.Changed r.k r.top r.m r.n i xs ys = plain-law r (genuine-plain r h.accepted.genuine e) i xs ys h.accepted h.bit h.maps in
    omega (arith, h.raised, a.adds)

-- so a plain sheet is never torn: a cut leaves the old one or the new
pub plain-torn : (r : Settings) → r.kind ≡ 0 → (xs zs : List ℕ) (i v : ℕ) → (change_call r xs i).answer ≡ Done v → Torn xs (change_call r xs i).sheet zs → (zs ≡ xs) ⊎ (zs ≡ (change_call r xs i).sheet)
plain-torn r e xs zs i v d = level-torn r xs zs i (d ∙ ap Done (plain-one-level r e xs i v d))
