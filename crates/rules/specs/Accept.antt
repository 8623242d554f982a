-- Which settings are accepted, what is worked out of them, and what they guarantee (01, "The sheet and its settings"). Assumes nothing.
use Rattle.std.specs.Prelude.{◌≡◌, ℕ, zero, suc, ◌+◌, ◌-◌, ◌*◌, ◌/◌, ◌%◌, ◌^◌, ◌<◌}
use Rattle.std.proofs.Common.{ap}
use Rattle.std.proofs.Math.Decide.{ℕ_discrete, dec_le, dec_lt}
use Rattle.rules.specs.Search.{pick, both?, Found, at, nowhere, first}
use Rattle.rules.specs.Batches.{batch_cells, index_cells}
use Rattle.rules.specs.declared.Settings.{Settings}

-- ---- the limits

-- the most bits
abbrev pub most_bits : ℕ
most_bits = 64

-- the highest top level
abbrev pub most_top : ℕ
most_top = 255

-- the most cells
abbrev pub most_cells : ℕ
most_cells = 16384

-- the s of the most bits, 2 ^ s
abbrev pub most_stages : ℕ
most_stages = 6

-- ---- acceptance

-- the record of zeros
abbrev pub refused : Settings
refused = record { kind = 0; k = 0; top = 0; n = 0; m = 0; s = 0; w = 0 }

-- r where the rule holds, else the record of zeros
abbrev pub require : {A : Type 0} → Dec A → Settings → Settings
require d r = pick d r refused

-- top level and cells within their limits, for every kind
abbrev pub within : ℕ → ℕ → Settings → Settings
within L n r = require (dec_le 1 L) (require (dec_le L most_top) (require (dec_le n most_cells) r))

-- kind 0: k from 2 to 64, kL even, m = n / k at least k
unfoldable pub accept_plain : ℕ → ℕ → ℕ → Settings
accept_plain k L n =
    require (dec_le 2 k) (require (dec_le k most_bits) (within L n
    (require (ℕ_discrete (k * L % 2) 0) (require (dec_le k (n / k))
    (record { kind = 0; k = k; top = L; n = n; m = n / k; s = 0; w = 0 })))))

-- the place that a search found; 0 where it found none
abbrev pub place_of : Found → ℕ
place_of (at j) = j
place_of nowhere = 0

-- the s from 0 to 6 with 2 ^ s = k; 0 where there is none
unfoldable pub stages_of : ℕ → ℕ
stages_of k = place_of (first (λ s. ℕ_discrete (2 ^ s) k) (suc most_stages))

-- the least w with (L + 1) ^ w at least k + 2; 0 where there is none, which is for L = 0 alone
unfoldable pub index_width : ℕ → ℕ → ℕ
index_width L k = place_of (first (λ w. dec_le (k + 2) (suc L ^ w)) (k + 2))

-- kind 1 with s found and w worked out: k at least 4, I at most n, m = (n - I) / k at least k
abbrev pub staged_room : ℕ → ℕ → ℕ → ℕ → ℕ → Settings
staged_room k L n s w =
    require (dec_le 2 s) (within L n
    (require (dec_le (index_cells s w) n) (require (dec_le k ((n - index_cells s w) / k))
    (record { kind = 1; k = k; top = L; n = n; m = (n - index_cells s w) / k; s = s; w = w }))))

-- kind 1: k is 4, 8, 16, 32 or 64, and s is the number with 2 ^ s = k; where there is none, 0 is below 2 and refused
unfoldable pub accept_staged : ℕ → ℕ → ℕ → Settings
accept_staged k L n = staged_room k L n (stages_of k) (index_width L k)

-- the record for a kind, k, L and n; of zeros where they are refused
abbrev pub accept : ℕ → ℕ → ℕ → ℕ → Settings
accept zero k L n = accept_plain k L n
accept (suc zero) k L n = accept_staged k L n
accept (suc (suc kind)) k L n = refused

-- ---- records

-- the record worked out again
abbrev pub again : Settings → Settings
again r = accept r.kind r.k r.top r.n

-- acceptance gives this record
abbrev pub Genuine : Settings → Type 0
Genuine r = (0 < r.k) × (again r ≡ r)

-- two records are the same if every field is
unfoldable pub same_settings? : (a b : Settings) → Dec (a ≡ b)
same_settings? a b = go (ℕ_discrete a.kind b.kind) (ℕ_discrete a.k b.k) (ℕ_discrete a.top b.top) (ℕ_discrete a.n b.n) (ℕ_discrete a.m b.m) (ℕ_discrete a.s b.s) (ℕ_discrete a.w b.w)
  where
    go : Dec (a.kind ≡ b.kind) → Dec (a.k ≡ b.k) → Dec (a.top ≡ b.top) → Dec (a.n ≡ b.n) → Dec (a.m ≡ b.m) → Dec (a.s ≡ b.s) → Dec (a.w ≡ b.w) → Dec (a ≡ b)
    go (yes e₁) (yes e₂) (yes e₃) (yes e₄) (yes e₅) (yes e₆) (yes e₇) = yes (λ i. record { kind = e₁ i; k = e₂ i; top = e₃ i; n = e₄ i; m = e₅ i; s = e₆ i; w = e₇ i })
    go (no h) d₂ d₃ d₄ d₅ d₆ d₇ = no (λ e. h (ap (λ (r : Settings). r.kind) e))
    go (yes e₁) (no h) d₃ d₄ d₅ d₆ d₇ = no (λ e. h (ap (λ (r : Settings). r.k) e))
    go (yes e₁) (yes e₂) (no h) d₄ d₅ d₆ d₇ = no (λ e. h (ap (λ (r : Settings). r.top) e))
    go (yes e₁) (yes e₂) (yes e₃) (no h) d₅ d₆ d₇ = no (λ e. h (ap (λ (r : Settings). r.n) e))
    go (yes e₁) (yes e₂) (yes e₃) (yes e₄) (no h) d₆ d₇ = no (λ e. h (ap (λ (r : Settings). r.m) e))
    go (yes e₁) (yes e₂) (yes e₃) (yes e₄) (yes e₅) (no h) d₇ = no (λ e. h (ap (λ (r : Settings). r.s) e))
    go (yes e₁) (yes e₂) (yes e₃) (yes e₄) (yes e₅) (yes e₆) (no h) = no (λ e. h (ap (λ (r : Settings). r.w) e))

-- whether acceptance gives this record
unfoldable pub genuine? : (r : Settings) → Dec (Genuine r)
unfolding same_settings?
genuine? r = both? (dec_lt 0 r.k) (same_settings? (again r) r)

-- ---- the guarantee: demand 3's formula

-- by the kind: plain (m - k + 1)kL + k - 1, staged mk_l - (k - 1)(2L + s - 1)
abbrev pub guarantee_at : ℕ → Settings → ℕ
guarantee_at zero r = (r.m - r.k + 1) * r.k * r.top + r.k - 1
guarantee_at (suc kind) r = r.m * r.k * r.top - (r.k - 1) * (2 * r.top + r.s - 1)

-- the guarantee of accepted settings
unfoldable pub guarantee : Settings → ℕ
guarantee r = guarantee_at r.kind r

-- ---- what a settings record reports: 0 for one that acceptance never gives

-- a number of the record, where it is genuine
unfoldable pub reported : Settings → ℕ → ℕ
reported r x = pick (genuine? r) x 0

-- the guarantee
abbrev pub promised : Settings → ℕ
promised r = reported r (guarantee r)

-- m, the number of blocks
abbrev pub block_count : Settings → ℕ
block_count r = reported r r.m

-- w, the cells of an index block
abbrev pub width_of : Settings → ℕ
width_of r = reported r r.w

-- the first cell of a batch from 1 to s - 1; 0 for any other number, and for a record that acceptance never gives
unfoldable pub batch_start : Settings → ℕ → ℕ
batch_start r b = pick (both? (genuine? r) (both? (dec_le 1 b) (dec_lt b r.s))) (r.m * r.k + (b - 1) * batch_cells r.s r.w) 0
