-- Laws of acceptance: what accepted settings keep, and which records acceptance gives. Assumes nothing.
use Rattle.std.specs.Prelude.{◌≡◌, refl, Bool, true, false, Option, Some, None, ◌⊎◌, ◌↔◌, ℕ, zero, suc, ◌+◌, ◌-◌, ◌*◌, ◌/◌, ◌%◌, ◌^◌, ◌≤◌, ◌<◌}
use Rattle.std.specs.Bool.{then_some}
use Rattle.std.proofs.lemmas.Option.{none-some, same_Some}
use Rattle.std.proofs.Common.{sym, ap, subst, ◌∙◌, true≢false, inl, inr, ⊎_elim, not-suc-le-zero, div-mul-le_self, arith, pow_mono}
use Rattle.std.proofs.Math.Decide.{ℕ_discrete, dec_le, dec_lt}
use Rattle.rules.specs.Search.{pick, both?}
use Rattle.rules.specs.SearchLaws.{pick-elim, pick_yes, pick_no}
use Rattle.rules.specs.Batches.{index_cells}
use Rattle.rules.specs.Accept.{most_bits, most_top, most_cells, most_stages, refused, require, accept_plain, stages_of, index_width, staged_room, accept_staged, accept, again, Genuine, same_settings?, genuine?}
use Rattle.rules.specs.Asked.{if_accepted}
use Rattle.rules.specs.declared.Settings.{Settings}
use Rattle.rules.specs.StagesLaws.{stages-is, width-enough, width-least, width-below}

-- ---- acceptance by the rules of a kind

-- the rules of kind 0
pub record PlainRules (k L n : ℕ) : Type 0 where
  pub bits-least : 2 ≤ k
  pub bits_most : k ≤ most_bits
  pub top_least : 1 ≤ L
  pub top-most : L ≤ most_top
  pub cells-most : n ≤ most_cells
  pub even : k * L % 2 ≡ 0
  pub room : k ≤ n / k

-- the rules of kind 1, with s and I worked out
pub record StagedRules (k L n s I : ℕ) : Type 0 where
  pub stages-least : 2 ≤ s
  pub top_least : 1 ≤ L
  pub top-most : L ≤ most_top
  pub cells-most : n ≤ most_cells
  pub index-room : I ≤ n
  pub room : k ≤ (n - I) / k

-- what comes of rules A for a record x: x where they are kept, the record of zeros where they are not
pub data Ruled (A : Type 0) (x : Settings) : Settings → Type 0 where
  kept : A → Ruled A x x
  broken : ¬ A → Ruled A x refused

-- where the rules are kept it is x
pub ruled-kept : {A : Type 0} {x r : Settings} → Ruled A x r → A → r ≡ x
ruled-kept (kept a) h = refl
ruled-kept (broken f) h = absurd (f h)

-- where they are not it is the record of zeros
pub ruled-broken : {A : Type 0} {x r : Settings} → Ruled A x r → ¬ A → r ≡ refused
ruled-broken (kept a) h = absurd (h a)
ruled-broken (broken f) h = refl

-- code that answers a record or none: x where the rules are kept
pub if-kept : {A : Type 0} {x r : Settings} → Ruled A x r → 0 < x.k → A → Some x ≡ if_accepted r
if-kept {x} w p a = sym (pick_yes (dec_lt 0 x.k) (Some x) None p) ∙ ap if_accepted (sym (ruled-kept w a))

-- and none where they are not
pub if-broken : {A : Type 0} {x r : Settings} → Ruled A x r → ¬ A → None ≡ if_accepted r
unfolding dec_lt
if-broken w h = ap if_accepted (sym (ruled-broken w h))

-- and x by a last test, where that decides
pub if-tested : {A : Type 0} {x r : Settings} → Ruled A x r → 0 < x.k → (b : Bool) → (b ≡ true → A) → (b ≡ false → ¬ A) → then_some b x ≡ if_accepted r
if-tested w p true f g = if-kept w p (f refl)
if-tested w p false f g = if-broken w (g refl)

-- one rule of A tested
rule : {A B : Type 0} {x r : Settings} (d : Dec B) → (A → B) → (B → Ruled A x r) → Ruled A x (require d r)
rule {A} {x = x} {r = r} d part f = pick-elim (Ruled A x) d r refused f (λ h. broken (λ a. h (part a)))

-- kind 0 is accepted by its rules
pub plain-ruled : (k L n : ℕ) → Ruled (PlainRules k L n) (record { kind = 0; k = k; top = L; n = n; m = n / k; s = 0; w = 0 }) (accept_plain k L n)
unfolding accept_plain
plain-ruled k L n =
    rule (dec_le 2 k) (λ a. a.bits-least) λ h₁.
    rule (dec_le k most_bits) (λ a. a.bits_most) λ h₂.
    rule (dec_le 1 L) (λ a. a.top_least) λ h₃.
    rule (dec_le L most_top) (λ a. a.top-most) λ h₄.
    rule (dec_le n most_cells) (λ a. a.cells-most) λ h₅.
    rule (ℕ_discrete (k * L % 2) 0) (λ a. a.even) λ h₆.
    rule (dec_le k (n / k)) (λ a. a.room) λ h₇.
    kept (record { bits-least = h₁; bits_most = h₂; top_least = h₃; top-most = h₄; cells-most = h₅; even = h₆; room = h₇ })

-- kind 1 is accepted by its rules, at any s and w
room-ruled : (k L n s w : ℕ) →
    Ruled (StagedRules k L n s (index_cells s w)) (record { kind = 1; k = k; top = L; n = n; m = (n - index_cells s w) / k; s = s; w = w }) (staged_room k L n s w)
room-ruled k L n s w =
    rule (dec_le 2 s) (λ a. a.stages-least) λ h₁.
    rule (dec_le 1 L) (λ a. a.top_least) λ h₂.
    rule (dec_le L most_top) (λ a. a.top-most) λ h₃.
    rule (dec_le n most_cells) (λ a. a.cells-most) λ h₄.
    rule (dec_le (index_cells s w) n) (λ a. a.index-room) λ h₅.
    rule (dec_le k ((n - index_cells s w) / k)) (λ a. a.room) λ h₆.
    kept (record { stages-least = h₁; top_least = h₂; top-most = h₃; cells-most = h₄; index-room = h₅; room = h₆ })

-- kind 1 is accepted by its rules, at the s of k, the width and their I
pub staged-ruled : (k L n s w I : ℕ) → s ≡ stages_of k → w ≡ index_width L k → I ≡ index_cells s w →
    Ruled (StagedRules k L n s I) (record { kind = 1; k = k; top = L; n = n; m = (n - I) / k; s = s; w = w }) (accept_staged k L n)
unfolding accept_staged
staged-ruled k L n s w I e₁ e₂ e₃ = rw (e₃, e₂, e₁) (room-ruled k L n (stages_of k) (index_width L k))

-- no other kind is accepted
pub other-refused : (kind k L n : ℕ) → ¬ (kind ≡ 0) → ¬ (kind ≡ 1) → accept kind k L n ≡ refused
other-refused zero k L n h g = absurd (h refl)
other-refused (suc zero) k L n h g = absurd (g refl)
other-refused (suc (suc kind)) k L n h g = refl

-- ---- what accepted settings keep

-- kind 0
pub record PlainFacts (r : Settings) : Type 0 where
  pub plain : r.kind ≡ 0
  pub bits-least : 2 ≤ r.k
  pub bits_most : r.k ≤ most_bits
  pub top_least : 1 ≤ r.top
  pub top-most : r.top ≤ most_top
  pub cells-most : r.n ≤ most_cells
  pub even : r.k * r.top % 2 ≡ 0
  pub blocks : r.m ≡ r.n / r.k
  pub room : r.k ≤ r.m
  pub inside : r.m * r.k ≤ r.n
  pub no-stages : r.s ≡ 0
  pub no-width : r.w ≡ 0

-- kind 1
pub record StagedFacts (r : Settings) : Type 0 where
  pub staged : r.kind ≡ 1
  pub stages-least : 2 ≤ r.s
  pub stages-most : r.s ≤ most_stages
  pub bits : 2 ^ r.s ≡ r.k
  pub top_least : 1 ≤ r.top
  pub top-most : r.top ≤ most_top
  pub cells-most : r.n ≤ most_cells
  pub width : r.w ≡ index_width r.top r.k
  pub enough : r.k + 2 ≤ suc r.top ^ r.w
  pub least : (v : ℕ) → r.k + 2 ≤ suc r.top ^ v → r.w ≤ v
  pub index-room : index_cells r.s r.w ≤ r.n
  pub blocks : r.m ≡ (r.n - index_cells r.s r.w) / r.k
  pub room : r.k ≤ r.m
  pub inside : r.m * r.k + index_cells r.s r.w ≤ r.n

-- what acceptance answers: the record of zeros, or one of what was asked for that keeps the facts of its kind
pub data Given (kind k L n : ℕ) : Settings → Type 0 where
  refusal : Given kind k L n refused
  given : {r : Settings} → r.kind ≡ kind → r.k ≡ k → r.top ≡ L → r.n ≡ n → PlainFacts r ⊎ StagedFacts r → Given kind k L n r

-- kind 0 answers so
plain-given : {k L n : ℕ} {r : Settings} → Ruled (PlainRules k L n) (record { kind = 0; k = k; top = L; n = n; m = n / k; s = 0; w = 0 }) r → Given 0 k L n r
plain-given {k} {n = n} (kept a) =
    given refl refl refl refl (inl (record {
      plain = refl;
      bits-least = a.bits-least;
      bits_most = a.bits_most;
      top_least = a.top_least;
      top-most = a.top-most;
      cells-most = a.cells-most;
      even = a.even;
      blocks = refl;
      room = a.room;
      inside = div-mul-le_self n k;
      no-stages = refl;
      no-width = refl;
    }))
plain-given (broken h) = refusal

-- kind 1 answers so
staged-given : {k L n s : ℕ} {r : Settings} → (0 < s → (s ≤ most_stages) × (2 ^ s ≡ k)) →
    Ruled (StagedRules k L n s (index_cells s (index_width L k))) (record { kind = 1; k = k; top = L; n = n; m = (n - index_cells s (index_width L k)) / k; s = s; w = index_width L k }) r →
    Given 1 k L n r
staged-given {k} {L} {n} {s} is (kept a) =
    let p : 0 < s = omega arith in
    given refl refl refl refl (inr (record {
      staged = refl;
      stages-least = a.stages-least;
      stages-most = (is p).0;
      bits = (is p).1;
      top_least = a.top_least;
      top-most = a.top-most;
      cells-most = a.cells-most;
      width = refl;
      enough = width-enough L k a.top_least;
      least = width-least L k a.top_least;
      index-room = a.index-room;
      blocks = refl;
      room = a.room;
      inside = omega (arith, div-mul-le_self (n - index_cells s (index_width L k)) k);
    }))
staged-given is (broken h) = refusal

-- acceptance answers so, whatever it is asked
pub accept-given : (kind k L n : ℕ) → Given kind k L n (accept kind k L n)
accept-given zero k L n = plain-given (plain-ruled k L n)
accept-given (suc zero) k L n = staged-given (stages-is k) (staged-ruled k L n _ _ _ refl refl refl)
accept-given (suc (suc kind)) k L n = refusal

-- a staged sheet has 4 to 64 bits
pub staged-bits : (r : Settings) → StagedFacts r → (4 ≤ r.k) × (r.k ≤ most_bits)
staged-bits r f = (rw (sym f.bits) (pow_mono f.stages-least), rw (sym f.bits) (pow_mono f.stages-most))

-- and a width of at most 66
pub staged-width : (r : Settings) → StagedFacts r → r.w ≤ most_bits + 2
staged-width r f = omega (arith, f.width, width-below r.top r.k f.top_least, (staged-bits r f).1)

-- its blocks and its index cells stand inside the sheet, with 2 ^ s for k
pub staged-inside : (r : Settings) → StagedFacts r → r.m * 2 ^ r.s + index_cells r.s r.w ≤ r.n
staged-inside r f = subst (λ (k : ℕ). r.m * k + index_cells r.s r.w ≤ r.n) (sym f.bits) f.inside

-- what both kinds keep
pub record CommonFacts (r : Settings) : Type 0 where
  pub bits-least : 2 ≤ r.k
  pub bits_most : r.k ≤ most_bits
  pub top_least : 1 ≤ r.top
  pub top-most : r.top ≤ most_top
  pub cells-most : r.n ≤ most_cells
  pub room : r.k ≤ r.m
  pub inside : r.m * r.k ≤ r.n

-- kind 0 keeps them
pub plain-common : (r : Settings) → PlainFacts r → CommonFacts r
plain-common r f =
    record {
      bits-least = f.bits-least;
      bits_most = f.bits_most;
      top_least = f.top_least;
      top-most = f.top-most;
      cells-most = f.cells-most;
      room = f.room;
      inside = f.inside;
    }

-- and so does kind 1
pub staged-common : (r : Settings) → StagedFacts r → CommonFacts r
staged-common r f =
    record {
      bits-least = omega (arith, (staged-bits r f).0);
      bits_most = (staged-bits r f).1;
      top_least = f.top_least;
      top-most = f.top-most;
      cells-most = f.cells-most;
      room = f.room;
      inside = omega (arith, f.inside);
    }

-- ---- which records are genuine

-- two records are the same if every field is
pub same-settings : {a b : Settings} → a.kind ≡ b.kind → a.k ≡ b.k → a.top ≡ b.top → a.n ≡ b.n → a.m ≡ b.m → a.s ≡ b.s → a.w ≡ b.w → a ≡ b
same-settings e₁ e₂ e₃ e₄ e₅ e₆ e₇ i = record { kind = e₁ i; k = e₂ i; top = e₃ i; n = e₄ i; m = e₅ i; s = e₆ i; w = e₇ i }

-- where A holds, A and B is tested by B alone
both_yes : {A B : Type 0} (d : Dec A) (e : Dec B) → A → pick (both? d e) true false ≡ pick e true false
both_yes (yes a) (yes b) h = refl
both_yes (yes a) (no b) h = refl
both_yes (no a) e h = absurd (a h)

-- a record with bits is tested by comparing it with the one worked out again
pub genuine-same : (r : Settings) → 0 < r.k → pick (genuine? r) true false ≡ pick (same_settings? (again r) r) true false
unfolding genuine?
genuine-same r h = both_yes (dec_lt 0 r.k) (same_settings? (again r) r) h

-- a record that passes the test is genuine
pub genuine-true : (r : Settings) → pick (genuine? r) true false ≡ true → Genuine r
genuine-true r = pick-elim (λ b. b ≡ true → Genuine r) (genuine? r) true false (λ g e. g) (λ h e. absurd (true≢false (sym e)))

-- one that fails it is not
pub genuine-false : (r : Settings) → pick (genuine? r) true false ≡ false → ¬ (Genuine r)
genuine-false r = pick-elim (λ b. b ≡ false → ¬ (Genuine r)) (genuine? r) true false (λ g e. absurd (true≢false e)) (λ h e. h)

-- a record with k = 0 fails it
pub genuine-none : (r : Settings) → ¬ (0 < r.k) → pick (genuine? r) true false ≡ false
genuine-none r h = pick_no (genuine? r) true false (λ g. h g.0)

-- an answer that has bits keeps the facts of its kind
given-facts : {kind k L n : ℕ} {r : Settings} → Given kind k L n r → 0 < r.k → PlainFacts r ⊎ StagedFacts r
given-facts refusal h = absurd (not-suc-le-zero h)
given-facts (given e₁ e₂ e₃ e₄ f) h = f

-- so a genuine record does
pub genuine-facts : (r : Settings) → Genuine r → PlainFacts r ⊎ StagedFacts r
genuine-facts r g = given-facts (subst (Given r.kind r.k r.top r.n) g.1 (accept-given r.kind r.k r.top r.n)) g.0

-- those of kind 0 where that is its kind
pub genuine-plain : (r : Settings) → Genuine r → r.kind ≡ 0 → PlainFacts r
genuine-plain r g e = ⊎_elim (λ f. f) (λ f. absurd (omega (arith, f.staged))) (genuine-facts r g)

-- those of kind 1 where it is not kind 0
pub genuine-staged : (r : Settings) → Genuine r → ¬ (r.kind ≡ 0) → StagedFacts r
genuine-staged r g h = ⊎_elim (λ f. absurd (h f.plain)) (λ f. f) (genuine-facts r g)

-- and where it has stages
pub genuine-stages : (r : Settings) → Genuine r → 0 < r.s → StagedFacts r
genuine-stages r g h = ⊎_elim (λ f. absurd (omega (arith, f.no-stages))) (λ f. f) (genuine-facts r g)

-- and, of either kind, what both keep
pub genuine-common : (r : Settings) → Genuine r → CommonFacts r
genuine-common r g = ⊎_elim (plain-common r) (staged-common r) (genuine-facts r g)

-- the same settings are accepted alike
accept-same : {kind kind' k k' L L' n n' : ℕ} → kind ≡ kind' → k ≡ k' → L ≡ L' → n ≡ n' → accept kind k L n ≡ accept kind' k' L' n'
accept-same e₁ e₂ e₃ e₄ = rw (e₁, e₂, e₃, e₄)

-- an answer that has bits is genuine
given-genuine : {kind k L n : ℕ} {r : Settings} → Given kind k L n r → r ≡ accept kind k L n → 0 < r.k → Genuine r
given-genuine refusal e h = absurd (not-suc-le-zero h)
given-genuine (given e₁ e₂ e₃ e₄ f) e h = (h, accept-same e₁ e₂ e₃ e₄ ∙ sym e)

-- so accepted settings give a genuine record
pub accept-genuine : (kind k L n : ℕ) → 0 < (accept kind k L n).k → Genuine (accept kind k L n)
accept-genuine kind k L n h = given-genuine (accept-given kind k L n) refl h

-- what acceptance gives and does not refuse is a genuine record, the one that the definition gives
pub if-genuine : (kind k L n : ℕ) (r : Settings) → Some r ≡ if_accepted (accept kind k L n) → Genuine r × (r ≡ accept kind k L n)
if-genuine kind k L n r = pick-elim (λ (o : Option Settings). Some r ≡ o → Genuine r × (r ≡ accept kind k L n)) (dec_lt 0 (accept kind k L n).k) (Some (accept kind k L n)) None
    (λ h e. let q : r ≡ accept kind k L n = same_Some _ _ e in (subst Genuine (sym q) (accept-genuine kind k L n h), q))
    (λ h e. absurd (none-some r (sym e)))

-- and where it gives none, the record of zeros
given-refused : {kind k L n : ℕ} {r : Settings} → Given kind k L n r → ¬ (0 < r.k) → r ≡ refused
given-refused refusal h = refl
given-refused (given e₁ e₂ e₃ e₄ f) h = absurd (h (⊎_elim (λ p. omega (arith, p.bits-least)) (λ p. omega (arith, (staged-bits _ p).0)) f))

pub if-refused : (kind k L n : ℕ) → None ≡ if_accepted (accept kind k L n) → accept kind k L n ≡ refused
if-refused kind k L n = pick-elim (λ (o : Option Settings). None ≡ o → accept kind k L n ≡ refused) (dec_lt 0 (accept kind k L n).k) (Some (accept kind k L n)) None
    (λ h e. absurd (none-some _ e))
    (λ h e. given-refused (accept-given kind k L n) h)

-- the record of zeros is forged
pub refused-forged : ¬ (Genuine refused)
refused-forged g = not-suc-le-zero g.0

-- a record is genuine exactly if acceptance gives it for some settings, and does not refuse them
pub genuine-given : (r : Settings) → Genuine r ↔ ((kind : ℕ) × (k : ℕ) × (L : ℕ) × (n : ℕ) × (accept kind k L n ≡ r) × (0 < r.k))
genuine-given r = ((λ g. (r.kind, r.k, r.top, r.n, g.1, g.0)), (λ a. subst Genuine a.4 (accept-genuine a.0 a.1 a.2 a.3 (rw a.4 a.5))))
