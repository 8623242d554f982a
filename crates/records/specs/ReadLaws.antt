-- Laws of a reading of the sheet held: its answer is that of k places, and its bits are the first k places. Assumes nothing.
use Rattle.std.specs.Prelude.{◌≡◌, refl, ℕ, ◌≤◌, length, take, drop, replicate}
use Rattle.std.proofs.Common.{sym, ◌∙◌, arith}
use Rattle.std.proofs.Math.Path.{ap}
use mathlib.Core.List.{List, ◌++◌}
use Rattle.std.proofs.Math.Decide.{dec_le}
use Rattle.std.proofs.lemmas.List.{length-replicate}
use Rattle.rules.specs.Accept.{most_bits, Genuine, genuine?}
use Rattle.rules.specs.AcceptLaws.{genuine-common}
use Rattle.rules.specs.Answer.{number_of, value_of}
use Rattle.rules.specs.AnswerLaws.{refusal-number}
use Rattle.rules.specs.Calls.{Check, Pass, Refuse, read_bit, bits_of, ask, and_then, check_length, check_output, check_levels, check_sheet, read_checks, Reading, reading, read_call, read_out}
use Rattle.rules.specs.Promises.{ReadPromise, BitsPromise}
use Rattle.rules.specs.PromiseLaws.{answer-is, reading-is}
use Rattle.rules.specs.Records.{read_step, shown, bits_held}
use Rattle.rules.specs.declared.Settings.{Settings}
use Rattle.rules.specs.declared.Answer.{Answer}
use Rattle.rules.specs.declared.Answer.TheVariants.{BadShape, ShortOutput}
use Rattle.laws.specs.Calls.{Accepted, Checked, passed, refused, read-checks, ask-passes}
use Rattle.laws.specs.Lists.{length-tabulate}
use Rattle.records.specs.Meaning.{step_of, Front}

-- k places are enough
zeros-enough : (r : Settings) → r.k ≤ length (replicate {A = ℕ} r.k 0)
zeros-enough r = omega (arith, length-replicate {A = ℕ} r.k 0)

module _ (r : Settings) (xs out : List ℕ) (h : most_bits ≤ length out) where
  -- 64 places pass every check that k places pass
  checks-same : read_checks r xs out ≡ read_checks r xs (replicate r.k 0)
  checks-same = go (genuine? r)
    where
      go : (d : Dec (Genuine r)) → and_then (ask d BadShape) (and_then (check_length r xs) (and_then (check_output r out) (and_then (check_levels r xs) (check_sheet r xs))))
          ≡ and_then (ask d BadShape) (and_then (check_length r xs) (and_then (check_output r (replicate r.k 0)) (and_then (check_levels r xs) (check_sheet r xs))))
      go (yes g) =
          let l : r.k ≤ length out = omega (arith, (genuine-common r g).bits_most) in
          ap (λ (c : Check). and_then (check_length r xs) (and_then c (and_then (check_levels r xs) (check_sheet r xs))))
          (ask-passes (dec_le r.k (length out)) ShortOutput l ∙ sym (ask-passes (dec_le r.k (length (replicate r.k 0))) ShortOutput (zeros-enough r)))
      go (no n) = refl

-- what a check found gives the same answer whatever the places hold
reading-answer : (r : Settings) (xs out places : List ℕ) (c : Check) → (reading r xs out c).answer ≡ (reading r xs places c).answer
reading-answer r xs out places Pass = refl
reading-answer r xs out places (Refuse a) = refl

-- a reading into 64 places answers like one into k places
read_answer : (r : Settings) (xs out : List ℕ) → most_bits ≤ length out → (read_call r xs out).answer ≡ (read_call r xs (replicate r.k 0)).answer
unfolding read_call
read_answer r xs out h =
    reading-answer r xs out (replicate r.k 0) (read_checks r xs out)
    ∙ ap (λ (c : Check). (reading r xs (replicate r.k 0) c).answer) (checks-same r xs out h)

-- so a reading of the front is the work of operation 3
pub read-step : (r : Settings) (xs out places : List ℕ) (n : ℕ) (a : Answer) → most_bits ≤ length out → Front r.n xs n → ReadPromise r (take n xs) out (number_of a) (value_of a) places →
    step_of (record { answer = a; settings = r }) xs ≡ read_step r xs
read-step r xs out places n a h f e =
    ap (λ (x : Answer). step_of (record { answer = x; settings = r }) xs)
    (answer-is {a = a} e ∙ ap (λ (ys : List ℕ). (read_call r ys out).answer) f.part ∙ read_answer r (take r.n xs) out h)

-- ---- the bits of the sheet held

-- they are never more than the places
pub bits_inside : (r : Settings) (xs out : List ℕ) → length (bits_held r xs out) ≤ length out
bits_inside r xs out = go (read-checks r (take r.n xs) out)
  where
    go : {c : Check} → Checked (Accepted r (take r.n xs) × (r.k ≤ length out)) c → length (shown c (bits_of r (take r.n xs))) ≤ length out
    go (passed q) = omega (arith, length-tabulate r.k (read_bit r (take r.n xs)), q.1)
    go (refused x q) = omega arith

module _ (r : Settings) (xs out places : List ℕ) (n : ℕ) (a : Answer) (f : Front r.n xs n) (p : ReadPromise r (take n xs) out (number_of a) (value_of a) places) where
  -- what the checks of the reading found
  found : read_out a places ≡ reading r (take r.n xs) out (read_checks r (take r.n xs) out)
  unfolding read_call
  found = reading-is {a = a} p ∙ ap (λ (ys : List ℕ). read_call r ys out) f.part

  -- the bits shown where the checks found this: how many, and the places after
  abbrev Shows : Check → ℕ → Type 0
  Shows c count = (count ≡ length (shown c (bits_of r (take r.n xs)))) × (places ≡ shown c (bits_of r (take r.n xs)) ++ drop (length (shown c (bits_of r (take r.n xs)))) out)

  -- a reading that is done has the bits in its first k places
  pub bits-done : number_of a ≡ 0 → BitsPromise r xs out r.k places
  bits-done z = go (read-checks r (take r.n xs) out) found
    where
      go : {c : Check} → Checked (Accepted r (take r.n xs) × (r.k ≤ length out)) c → read_out a places ≡ reading r (take r.n xs) out c → Shows c r.k
      go (passed q) w =
          let l = sym (length-tabulate r.k (read_bit r (take r.n xs))) in
          (l, ap (λ (o : Reading). o.places) w ∙ ap (λ (k : ℕ). bits_of r (take r.n xs) ++ drop k out) l)
      go (refused x q) w = absurd (refusal-number x q (ap (λ (o : Reading). number_of o.answer) (sym w) ∙ z))

  -- a reading that is refused has none
  pub bits_none : ¬ (number_of a ≡ 0) → BitsPromise r xs out 0 places
  bits_none z = go (read-checks r (take r.n xs) out) found
    where
      go : {c : Check} → Checked (Accepted r (take r.n xs) × (r.k ≤ length out)) c → read_out a places ≡ reading r (take r.n xs) out c → Shows c 0
      go (passed q) w = absurd (z (ap (λ (o : Reading). number_of o.answer) w))
      go (refused x q) w = (refl, ap (λ (o : Reading). o.places) w)
