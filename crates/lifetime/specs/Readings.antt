-- Demand 2 over the calls: what a reading after an accepted change is to the reading before it. Assumes nothing.
use Rattle.std.specs.Prelude.{◌≡◌, ◌≢◌, List, ℕ, ◌-◌, ◌≤◌, ◌<◌, length, get_or}
use Rattle.std.proofs.Common.{sym, ap, ◌∙◌, subst, arith}
use Rattle.std.proofs.Math.Decide.{dec_lt}
use Rattle.rules.specs.Cells.{sum}
use Rattle.rules.specs.Answer.{number_of}
use Rattle.rules.specs.Calls.{bits_of, change_call, Reading, read_call}
use Rattle.rules.specs.Promises.{ReadPromise, ChangePromise}
use Rattle.rules.specs.PromiseLaws.{gives-done}
use Rattle.rules.specs.declared.Settings.{Settings}
use Rattle.rules.specs.declared.Answer.TheVariants.{Done}
use Rattle.laws.specs.Calls.{Accepted}
use Rattle.lifetime.specs.Change.{Made, change-made}
use Rattle.lifetime.specs.Refusals.{ReadDone, read-gives, read-done-places}

-- what two readings of a sheet, before and after a change of bit i, are to each other
pub record OnlyBit (r : Settings) (i : ℕ) (before after : List ℕ) : Type 0 where
  -- the named place is one of the first k
  pub bit : i < r.k
  -- the named place has the other value
  pub flips : get_or after i 0 ≡ 1 - get_or before i 0
  -- and it had 0 or 1
  pub two : get_or before i 0 < 2
  -- every other place is the same, also from k on
  pub keeps : (c : ℕ) → c ≢ i → get_or after c 0 ≡ get_or before c 0
  pub long : length after ≡ length before

-- an accepted sheet is read, with the number of bits that are 1
reading-done : (r : Settings) (xs out : List ℕ) → Accepted r xs → r.k ≤ length out → (read_call r xs out).answer ≡ Done (sum (bits_of r xs))
reading-done r xs out a l = ap (λ (o : Reading). o.answer) (read-gives r xs out a l)

-- both sheets of an accepted change are read
pub readings-done : (r : Settings) (xs : List ℕ) (i v : ℕ) (out : List ℕ) → (change_call r xs i).answer ≡ Done v → r.k ≤ length out →
    ((read_call r xs out).answer ≡ Done (sum (bits_of r xs))) × ((read_call r (change_call r xs i).sheet out).answer ≡ Done (sum (bits_of r (change_call r xs i).sheet)))
readings-done r xs i v out e l =
    let h : Made r xs i v (change_call r xs i).sheet = change-made r xs i v e in
    (reading-done r xs out h.accepted l, reading-done r (change_call r xs i).sheet out h.changed.stays l)

-- demand 2: the reading after an accepted change differs from the reading before it at the named place only
pub reading-differs : (r : Settings) (xs : List ℕ) (i v : ℕ) (out : List ℕ) → (change_call r xs i).answer ≡ Done v → r.k ≤ length out →
    OnlyBit r i (read_call r xs out).places (read_call r (change_call r xs i).sheet out).places
reading-differs r xs i v out e l =
    let ys : List ℕ = (change_call r xs i).sheet in
    let h : Made r xs i v ys = change-made r xs i v e in
    let w : ((read_call r xs out).answer ≡ Done (sum (bits_of r xs))) × ((read_call r ys out).answer ≡ Done (sum (bits_of r ys))) = readings-done r xs i v out e l in
    let p : ReadDone r xs out (sum (bits_of r xs)) (read_call r xs out).places = read-done-places r xs out (sum (bits_of r xs)) w.0 in
    let q : ReadDone r ys out (sum (bits_of r ys)) (read_call r ys out).places = read-done-places r ys out (sum (bits_of r ys)) w.1 in
    record {
      bit = h.bit;
      flips = (q.bits i h.bit).0 ∙ h.changed.flips ∙ ap (λ (x : ℕ). 1 - x) (sym (p.bits i h.bit).0);
      two = (p.bits i h.bit).1;
      keeps = λ c d. same h p q c d (dec_lt c r.k);
      long = q.long ∙ sym p.long;
    }
  where
    same : {ys us vs : List ℕ} {m n : ℕ} → Made r xs i v ys → ReadDone r xs out m us → ReadDone r ys out n vs → (c : ℕ) → c ≢ i → Dec (c < r.k) → get_or vs c 0 ≡ get_or us c 0
    same h p q c d (yes b) = (q.bits c b).0 ∙ h.changed.keeps c b d ∙ sym (p.bits c b).0
    same h p q c d (no b) = q.rest c (omega arith) ∙ sym (p.rest c (omega arith))

-- the same of whatever meets the promises: a reading, an accepted change, and a reading into the same output
pub promised-differs : (r : Settings) (xs : List ℕ) (i v : ℕ) (ys out : List ℕ) (c d u w : ℕ) (before after : List ℕ) → r.k ≤ length out →
    ReadPromise r xs out c u before → ChangePromise r xs i 0 v ys → ReadPromise r ys out d w after → (c ≡ 0) × (d ≡ 0) × OnlyBit r i before after
promised-differs r xs i v ys out c d u w before after l p q t =
    let e : (change_call r xs i).answer ≡ Done v = gives-done (change_call r xs i).answer q in
    let a : ReadPromise r (change_call r xs i).sheet out d w after = subst (λ (zs : List ℕ). ReadPromise r zs out d w after) q.leaves t in
    let h = readings-done r xs i v out e l in (
      p.number ∙ ap number_of h.0,
      a.number ∙ ap number_of h.1,
      subst (OnlyBit r i before) (sym a.leaves) (subst (λ (b : List ℕ). OnlyBit r i b (read_call r (change_call r xs i).sheet out).places) (sym p.leaves) (reading-differs r xs i v out e l)),
    )
