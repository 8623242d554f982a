-- Laws of the index blocks that aren't full: lists put one after the other, the number of the t-th one, and that one set. Assumes nothing.
use Rattle.std.specs.Prelude.{List, [], ◌∷◌, ◌++◌, ◌≡◌, refl, ℕ, zero, suc, ◌≤◌, ◌<◌, length, get_or, set}
use Rattle.std.proofs.Common.{ap, sym, suc-le-suc, zero-le, le_of_suc-le-suc, not-suc-le-zero, arith}
use Rattle.rules.specs.Stage.{Absent, Entry, Names, closed, index, indexes, set_live}
use Rattle.stage.specs.Meaning.{open_entry}

-- ---- one list after the other

-- the indexes of two lists of entries
pub indexes-append : (es fs : List Entry) → indexes (es ++ fs) ≡ indexes es ++ indexes fs
indexes-append [] fs = refl
indexes-append (closed ∷ es) fs = indexes-append es fs
indexes-append (index u ∷ es) fs = ap {B = List ℕ} (λ r. u ∷ r) (indexes-append es fs)

-- what is absent from both is absent from the whole
pub absent-append : (u : ℕ) (ts rs : List ℕ) → Absent u ts → Absent u rs → Absent u (ts ++ rs)
absent-append u [] rs h l = l
absent-append u (t ∷ ts) rs h l = (h.0, absent-append u ts rs h.1 l)

-- what is absent from the whole is absent from the back
pub absent-back : (u : ℕ) (ts rs : List ℕ) → Absent u (ts ++ rs) → Absent u rs
absent-back u [] rs h = h
absent-back u (t ∷ ts) rs h = absent-back u ts rs h.1

-- one index more at the end: a free one
pub names-free : (k : ℕ) (ts : List ℕ) → Names k ts → Names k (ts ++ (0 ∷ []))
names-free k [] h = tt
names-free k (zero ∷ ts) h = names-free k ts h
names-free k (suc b ∷ ts) h = (h.0, absent-append (suc b) ts (0 ∷ []) h.1 (λ e. omega arith, tt), names-free k ts h.2)

-- one more: a bit's that none has yet
pub names-new : (k i : ℕ) (ts : List ℕ) → Names k ts → i < k → Absent (suc i) ts → Names k (ts ++ (suc i ∷ []))
names-new k i [] h l o = (l, tt, tt)
names-new k i (zero ∷ ts) h l o = names-new k i ts h l o.1
names-new k i (suc b ∷ ts) h l o = (h.0, absent-append (suc b) ts (suc i ∷ []) h.1 (λ e. o.0 (sym e), tt), names-new k i ts h.2 l o.1)

-- the index past a front of the list is at most k
pub names_at : (k u : ℕ) (ts rs : List ℕ) → Names k (ts ++ (u ∷ rs)) → u ≤ k
names_at k zero [] rs h = zero-le
names_at k (suc b) [] rs h = h.0
names_at k u (zero ∷ ts) rs h = names_at k u ts rs h
names_at k u (suc b ∷ ts) rs h = names_at k u ts rs h.2

-- and if not 0 it is none of the front
pub names-once : (k i : ℕ) (ts rs : List ℕ) → Names k (ts ++ (suc i ∷ rs)) → Absent (suc i) ts
names-once k i [] rs h = tt
names-once k i (zero ∷ ts) rs h = (λ e. omega arith, names-once k i ts rs h)
names-once k i (suc b ∷ ts) rs h = (λ e. (absent-back (suc b) ts (suc i ∷ rs) h.1).0 (sym e), names-once k i ts rs h.2)

-- ---- the t-th index block that isn't full

-- it is one of the index blocks
pub open-entry-in : (t : ℕ) (es : List Entry) → t < length (indexes es) → open_entry t es < length es
open-entry-in t [] h = absurd (not-suc-le-zero h)
open-entry-in t (closed ∷ es) h = suc-le-suc (open-entry-in t es h)
open-entry-in zero (index u ∷ es) h = suc-le-suc zero-le
open-entry-in (suc t) (index u ∷ es) h = suc-le-suc (open-entry-in t es (le_of_suc-le-suc h))

-- what stands there is the t-th number
pub open-entry-is : (t : ℕ) (es : List Entry) (z : Entry) → t < length (indexes es) → get_or es (open_entry t es) z ≡ index (get_or (indexes es) t 0)
open-entry-is t [] z h = absurd (not-suc-le-zero h)
open-entry-is t (closed ∷ es) z h = open-entry-is t es z h
open-entry-is zero (index u ∷ es) z h = refl
open-entry-is (suc t) (index u ∷ es) z h = open-entry-is t es z (le_of_suc-le-suc h)

-- more index blocks at the end don't move it
pub open-entry-append : (t : ℕ) (es fs : List Entry) → t < length (indexes es) → open_entry t (es ++ fs) ≡ open_entry t es
open-entry-append t [] fs h = absurd (not-suc-le-zero h)
open-entry-append t (closed ∷ es) fs h = ap suc (open-entry-append t es fs h)
open-entry-append zero (index u ∷ es) fs h = refl
open-entry-append (suc t) (index u ∷ es) fs h = ap suc (open-entry-append t es fs (le_of_suc-le-suc h))

-- the last of the list, if not full, comes past all others
pub open-entry-last : (u : ℕ) (es : List Entry) → open_entry (length (indexes es)) (es ++ (index u ∷ [])) ≡ length es
open-entry-last u [] = refl
open-entry-last u (closed ∷ es) = ap suc (open-entry-last u es)
open-entry-last u (index v ∷ es) = ap suc (open-entry-last u es)

-- it is the one that set_live sets
pub set-live-set : (x : Entry) (t : ℕ) (es : List Entry) → t < length (indexes es) → set_live x t es ≡ set es (open_entry t es) x
set-live-set x t [] h = absurd (not-suc-le-zero h)
set-live-set x t (closed ∷ es) h = ap {B = List Entry} (λ r. closed ∷ r) (set-live-set x t es h)
set-live-set x zero (index u ∷ es) h = refl
set-live-set x (suc t) (index u ∷ es) h = ap {B = List Entry} (λ r. index u ∷ r) (set-live-set x t es (le_of_suc-le-suc h))
