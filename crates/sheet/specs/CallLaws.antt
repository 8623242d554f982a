-- Laws of the calls: what the checks in their order say of a look, of a reading and of a change. Assumes nothing.
use Rattle.std.specs.Prelude.{◌≡◌, List, ◌++◌, ◌≢◌, ℕ, ◌≤◌, ◌<◌, length, drop}
use Rattle.std.proofs.Common.{sym, ap, ap₂, ◌∙◌, subst, arith}
use Rattle.std.proofs.Math.Decide.{dec_lt}
use Rattle.rules.specs.Accept.{Genuine, block_count, genuine?, width_of}
use Rattle.rules.specs.AcceptLaws.{genuine-common, genuine-plain}
use Rattle.rules.specs.Calls.{Check, Pass, Sound, and_then, ask, as_check, bits_of, change_call, changing, check_bit, check_length, check_levels, check_shape, check_sheet, read_bit, read_call, reading, sheet_checks, sound?, outcome, read_out}
use Rattle.rules.specs.Cells.{sum}
use Rattle.rules.specs.GuaranteeLaws.{reported-is, reported-none}
use Rattle.rules.specs.declared.Answer.{Answer}
use Rattle.rules.specs.declared.Answer.TheVariants.{BadShape, BadSheet, Done}
use Rattle.plan.specs.declared.Look.{Look}
use Rattle.rules.specs.declared.Settings.{Settings}
use Rattle.laws.specs.Calls.{ask-fails, ask-passes, change-checks, checked-holds, erase-checks, level-is, read-checks, refusal-told, then-both, then-group}
use Rattle.laws.specs.Lists.{tabulate-same}
use Rattle.plain.specs.Meaning.{parities}
use Rattle.plan.specs.Meaning.{Levelled, breaks, from_sheet, keeps, unseen, value_in}
use Rattle.sheet.specs.Meaning.{LookAt, Seen, SheetLook, check_asked, first_checks, settings_of, size_checks}
use Rattle.sheet.specs.declared.checks.Asked.{Asked}
use Rattle.sheet.specs.declared.checks.Asked.TheVariants.{Bit, Places}
use Rattle.sheet.specs.declared.accepted.Accepted.{Accepted}

-- ---- the checks, in order

-- settings have blocks exactly if their record is genuine
pub shape-told : (r : Settings) (m : ℕ) → m ≡ block_count r → ask (dec_lt 0 m) BadShape ≡ check_shape r
shape-told r m e = go (genuine? r)
  where
    go : Dec (Genuine r) → ask (dec_lt 0 m) BadShape ≡ check_shape r
    go (yes g) =
        let h : 0 < m = omega (arith, e ∙ reported-is r r.m g, (genuine-common r g).room, (genuine-common r g).bits-least) in
        ask-passes (dec_lt 0 m) BadShape h ∙ sym (ask-passes (genuine? r) BadShape g)
    go (no n) =
        let h : ¬ (0 < m) = λ l. omega (arith, e ∙ reported-none r r.m n) in
        ask-fails (dec_lt 0 m) BadShape h ∙ sym (ask-fails (genuine? r) BadShape n)

-- a record of kind 0 has the width 0, whether acceptance gives it or not
pub plain-width : (r : Settings) → r.kind ≡ 0 → 0 ≡ width_of r
plain-width r e = go (genuine? r) where
  go : Dec (Genuine r) → 0 ≡ width_of r
  go (yes g) = sym (reported-is r r.w g ∙ (genuine-plain r g e).no-width)
  go (no n) = sym (reported-none r r.w n)

-- once checks 1 to 5 have passed, the record is genuine and the sheet levelled
pub first-passed : (r : Settings) (xs : List ℕ) (asked : Asked) → first_checks r xs asked ≡ Pass → Genuine r × Levelled r xs
first-passed r xs asked e =
    let p : (size_checks r (length xs) ≡ Pass) × (and_then (check_asked r.k asked) (check_levels r xs) ≡ Pass) = then-both (size_checks r (length xs)) (and_then (check_asked r.k asked) (check_levels r xs)) e in
    let q : Genuine r × (length xs ≡ r.n) = checked-holds (erase-checks r xs) p.0 in
    (q.0, record { long = q.1; low = checked-holds (level-is r.top xs) (then-both (check_asked r.k asked) (check_levels r xs) p.1).1 })

-- check 6 comes after them
six-last : (r : Settings) (xs : List ℕ) (asked : Asked) {c : Check} → first_checks r xs asked ≡ c → and_then c (check_sheet r xs) ≡ sheet_checks r xs (check_asked r.k asked)
six-last r xs asked e = sym (then-group (check_shape r) (check_length r xs) (check_asked r.k asked) (check_levels r xs) (check_sheet r xs) ∙ ap (λ (x : Check). and_then x (check_sheet r xs)) e)

-- a check before it that refuses ends the call there
pub look-refused : (r : Settings) (xs : List ℕ) (asked : Asked) (a : Answer) → as_check a ≡ first_checks r xs asked → ((v : ℕ) → a ≢ Done v) → LookAt r xs asked (unseen a)
look-refused r xs asked a e n = record {
  told = refusal-told a n ∙ six-last r xs asked (sym e ∙ refusal-told a n);
  look = λ v q. absurd (n v q);
}

-- what check 6 answers
look-answer : (r : Settings) (xs : List ℕ) (b : Look) → SheetLook r xs b → as_check b.answer ≡ check_sheet r xs
look-answer r xs b (breaks e n) = ap as_check e ∙ sym (ask-fails (sound? r xs) BadSheet n)
look-answer r xs b (keeps v e s w y) = ap as_check e ∙ sym (ask-passes (sound? r xs) BadSheet s)

-- once they have passed, check 6 is the call's
pub look-told : (r : Settings) (xs : List ℕ) (asked : Asked) (b : Look) → first_checks r xs asked ≡ Pass → SheetLook r xs b → LookAt r xs asked b
look-told r xs asked b e h = record {
  told = look-answer r xs b h ∙ six-last r xs asked e;
  look = λ v q. ((first-passed r xs asked e).0, (first-passed r xs asked e).1, h);
}

-- ---- the kind, told once checks 1 to 5 have passed

module _ (r : Settings) (xs : List ℕ) (asked : Asked) {a : Answer} {v : ℕ} (t : as_check a ≡ first_checks r xs asked) (d : a ≡ Done v) where
  pass : first_checks r xs asked ≡ Pass
  pass = sym t ∙ ap as_check d

  -- what telling it asks for, of a number of blocks that the settings' method gave
  pub accepted-asks : (blocks : ℕ) → blocks ≡ block_count r → Genuine r × (blocks ≡ r.m)
  accepted-asks blocks e = let g : Genuine r = (first-passed r xs asked pass).0 in (g, e ∙ reported-is r r.m g)

  module _ (k : Accepted) (e : settings_of k ≡ r) where
    -- what its look asks for
    pub accepted-levelled : Levelled (settings_of k) xs
    accepted-levelled = subst (λ (x : Settings). Levelled x xs) (sym e) (first-passed r xs asked pass).1

    -- and what that finds
    pub accepted-told : (b : Look) → SheetLook (settings_of k) xs b → LookAt r xs asked b
    accepted-told b h = look-told r xs asked b pass (subst (λ (x : Settings). SheetLook x xs b) e h)

-- ---- the calls

-- a look that answers Done kept the rules at that stage
pub seen-is : (r : Settings) (xs : List ℕ) (b : Look) (v : ℕ) → SheetLook r xs b → b.answer ≡ Done v
    → ((i : ℕ) → i < r.k → read_bit r xs i ≡ value_in b.bits i) × Seen r xs b v
seen-is r xs b v (breaks e n) q = absurd (let y : Done v ≡ BadSheet = sym q ∙ e in let z : ◌≡◌ {A = ℕ} 0 1 = cc in omega arith)
seen-is r xs b v (keeps u e s w y) q = let z : u ≡ v = (let p : Done u ≡ Done v = sym e ∙ q in cc) in (w, subst (Seen r xs b) z y)

-- a reading whose checks refuse
pub read-refused : (r : Settings) (xs out : List ℕ) (b : Look) (a : Answer) → LookAt r xs (Places (length out)) b → a ≡ b.answer → ((v : ℕ) → a ≢ Done v) → read_out a out ≡ read_call r xs out
unfolding read_call
read-refused r xs out b a h e n = ap (reading r xs out) (sym (refusal-told a n) ∙ ap as_check e ∙ h.told)

-- a reading that is written out
pub read_made : (r : Settings) (xs out : List ℕ) (b : Look) (v ones : ℕ) (places : List ℕ) → LookAt r xs (Places (length out)) b → b.answer ≡ Done v
    → ones ≡ sum (parities r.k b.bits) → places ≡ parities r.k b.bits ++ drop r.k out → read_out (Done ones) places ≡ read_call r xs out
unfolding read_call
read_made r xs out b v ones places h e q w =
    let z : parities r.k b.bits ≡ bits_of r xs = sym (tabulate-same r.k (read_bit r xs) (value_in b.bits) (seen-is r xs b v (h.look v e).2 e).0) in
    ap₂ (λ (x : ℕ) (ys : List ℕ). read_out (Done x) ys) (q ∙ ap sum z) (w ∙ ap (λ (ys : List ℕ). ys ++ drop r.k out) z) ∙ ap (reading r xs out) (sym (ap as_check e) ∙ h.told)

-- a change whose checks refuse
pub change-refused : (r : Settings) (xs : List ℕ) (i : ℕ) (b : Look) (a : Answer) → LookAt r xs (Bit i) b → a ≡ b.answer → ((v : ℕ) → a ≢ Done v) → outcome a xs ≡ change_call r xs i
unfolding change_call
change-refused r xs i b a h e n = ap (changing r xs i) (sym (refusal-told a n) ∙ ap as_check e ∙ h.told)

-- a change whose checks pass is the maps', from check 6 on
pub change-passed : (r : Settings) (xs : List ℕ) (i v : ℕ) (b : Look) → LookAt r xs (Bit i) b → b.answer ≡ Done v → from_sheet r xs i ≡ change_call r xs i
unfolding change_call
change-passed r xs i v b h e =
    let p : sheet_checks r xs (check_bit r i) ≡ Pass = sym h.told ∙ ap as_check e in
    ap (changing r xs i) (ask-passes (sound? r xs) BadSheet (checked-holds (change-checks r xs i) p).0.sound ∙ sym p)

-- and its bit is one of the k
pub change-bit : (r : Settings) (xs : List ℕ) (i v : ℕ) (b : Look) → LookAt r xs (Bit i) b → b.answer ≡ Done v → i < r.k
change-bit r xs i v b h e = (checked-holds (change-checks r xs i) (sym h.told ∙ ap as_check e)).1

-- a reading's output has its k places
pub read-places : (r : Settings) (xs out : List ℕ) (v : ℕ) (b : Look) → LookAt r xs (Places (length out)) b → b.answer ≡ Done v → r.k ≤ length out
read-places r xs out v b h e = (checked-holds (read-checks r xs out) (sym h.told ∙ ap as_check e)).1

-- a change whose checks pass is of a sheet that keeps the rules
pub change-sound : (r : Settings) (xs : List ℕ) (i v : ℕ) (b : Look) → LookAt r xs (Bit i) b → b.answer ≡ Done v → Sound r xs
change-sound r xs i v b h e = (checked-holds (change-checks r xs i) (sym h.told ∙ ap as_check e)).0.sound

-- a change whose checks passed up to the look: the sheet is levelled and sound, the bit one of the k, the look saw the stage, and from check 6 on the call is the maps'
pub record Looked (r : Settings) (xs : List ℕ) (i : ℕ) (b : Look) (v : ℕ) : Type 0 where
  pub levelled : Levelled r xs
  pub sound : Sound r xs
  pub bit : i < r.k
  pub seen : Seen r xs b v
  pub maps : from_sheet r xs i ≡ change_call r xs i

pub change-looked : (r : Settings) (xs : List ℕ) (i v : ℕ) (b : Look) → LookAt r xs (Bit i) b → b.answer ≡ Done v → Looked r xs i b v
change-looked r xs i v b h e =
    let g : Genuine r × Levelled r xs × SheetLook r xs b = h.look v e in
    record { levelled = g.1; sound = change-sound r xs i v b h e; bit = change-bit r xs i v b h e; seen = (seen-is r xs b v g.2 e).1; maps = change-passed r xs i v b h e }
