-- What the program holds after every record: no sheet, or one that every call accepts; and what it then prints of it. Assumes nothing.
use Rattle.std.specs.Prelude.{◌≡◌, refl, List, [], ◌++◌, ℕ, zero, suc, ◌≤◌, length, take, drop, replicate}
use Rattle.std.proofs.Common.{sym, ap, subst, take-append-drop, take_at}
use Rattle.rules.specs.Accept.{refused, genuine?}
use Rattle.rules.specs.AcceptLaws.{refused-forged}
use Rattle.rules.specs.Answer.{sort_of}
use Rattle.rules.specs.AnswerLaws.{not_made, refusal-not}
use Rattle.rules.specs.GuaranteeLaws.{reported-none}
use Rattle.rules.specs.Calls.{Check, Pass, Refuse, bits_of, Outcome, change_call}
use Rattle.rules.specs.Records.{operation, Step, held_after, erase_step, change_step, passed, record_step, shown, bits_held, sum_held}
use Rattle.rules.specs.declared.Settings.{Settings}
use Rattle.rules.specs.declared.Answer.{Answer}
use Rattle.rules.specs.declared.Answer.TheVariants.{BadShape}
use Rattle.laws.specs.Calls.{Accepted, Refusal, Making, refuses, erases, makes, change-is, Erasing, refusing, clears, erase-is, ask-fails, then-ends, read-passes}
use Rattle.lifetime.specs.Change.{change-made, erased-accepted}
use Rattle.records.specs.Meaning.{check_record, asked, work}
use Rattle.records.specs.Laws.{record-first}

-- what is held: no sheet, or a sheet that every call accepts, its cells first
pub data Holding : Settings → List ℕ → Type 0 where
  nothing : {xs : List ℕ} → Holding refused xs
  held : {r : Settings} {xs : List ℕ} → Accepted r (take r.n xs) → Holding r xs

-- what a step leaves held
abbrev pub After : Step → Type 0
After s = Holding s.settings s.cells

-- ---- each operation

-- a refused erase keeps the settings held
pub erase-keeps : (new r : Settings) (a : Answer) → Refusal a → held_after new r a ≡ r
erase-keeps new r a q = not_made (sort_of a) new r (refusal-not (sort_of a) q)

-- a sheet put in front is the sheet held
in-front : (r : Settings) (ys zs : List ℕ) → Accepted r ys → Holding r (ys ++ zs)
in-front r ys zs a = held (subst (Accepted r) (sym (take_at ys zs r.n a.long)) a)

-- cells that stay, taken apart and put together
together : {r : Settings} (n : ℕ) (xs : List ℕ) → Holding r xs → Holding r (take n xs ++ drop n xs)
together {r} n xs h = subst (Holding r) (sym (take-append-drop n xs)) h

-- operation 1
erase-holds : (new r : Settings) (xs : List ℕ) → Holding r xs → After (erase_step new r xs)
erase-holds new r xs h = go (erase-is new (take new.n xs))
  where
    go : {o : Outcome} → Erasing new (take new.n xs) o → Holding (held_after new r o.answer) (o.sheet ++ drop new.n xs)
    go (refusing a q) = subst (λ (s : Settings). Holding s (take new.n xs ++ drop new.n xs)) (sym (erase-keeps new r a q)) (together new.n xs h)
    go (clears g e) = in-front new (replicate new.n 0) (drop new.n xs) (erased-accepted new g)

-- operation 2
change-holds : (r : Settings) (xs : List ℕ) (i : ℕ) → Holding r xs → After (change_step r xs i)
change-holds r xs i h = go (change-is r (take r.n xs) i) refl
  where
    go : {o : Outcome} → Making r (take r.n xs) i o → change_call r (take r.n xs) i ≡ o → Holding r (o.sheet ++ drop r.n xs)
    go (refuses a q) e = together r.n xs h
    go (erases a l n) e = together r.n xs h
    go (makes ys a l n) e =
        in-front r ys (drop r.n xs) (subst (Accepted r) (ap (λ (o : Outcome). o.sheet) e) (change-made r (take r.n xs) i _ (ap (λ (o : Outcome). o.answer) e)).changed.stays)

-- ---- every record

-- each operation's work
work-holds : (op : ℕ) (rec : List ℕ) (r : Settings) (xs : List ℕ) → Holding r xs → After (work op rec r xs)
work-holds zero rec r xs h = h
work-holds (suc zero) rec r xs h = erase-holds (asked rec) r xs h
work-holds (suc (suc zero)) rec r xs h = change-holds r xs _ h
work-holds (suc (suc (suc op))) rec r xs h = h

-- a test that refuses leaves all as it is
passed-holds : (c : Check) (r : Settings) (xs : List ℕ) (s : Step) → Holding r xs → After s → After (passed c r xs s)
passed-holds Pass r xs s h g = g
passed-holds (Refuse a) r xs s h g = h

-- whatever the record, what is held is no sheet or an accepted one
pub record-holds : (rec : List ℕ) (r : Settings) (xs : List ℕ) → Holding r xs → After (record_step rec r xs)
record-holds rec r xs h =
    subst After (sym (record-first rec r xs refl)) (passed-holds (check_record rec r) r xs (work (operation rec) rec r xs) h (work-holds (operation rec) rec r xs h))

-- what is held after any records, from no sheet on, whatever the cells hold then
pub data Reached : Settings → List ℕ → Type 0 where
  at_first : {xs : List ℕ} → Reached refused xs
  after_one : {r : Settings} {xs : List ℕ} (rec : List ℕ) → Reached r xs → Reached (record_step rec r xs).settings (record_step rec r xs).cells

-- it is no sheet or an accepted one
pub reached-holds : {r : Settings} {xs : List ℕ} → Reached r xs → Holding r xs
reached-holds at_first = nothing
reached-holds (after_one {r} {xs} rec h) = record-holds rec r xs (reached-holds h)

-- ---- what is printed of it

-- the bits of an accepted sheet, where there are places for them
pub held-shows : (r : Settings) (xs out : List ℕ) → Accepted r (take r.n xs) → r.k ≤ length out → bits_held r xs out ≡ bits_of r (take r.n xs)
held-shows r xs out a l = ap (λ (c : Check). shown c (bits_of r (take r.n xs))) (read-passes r (take r.n xs) out a l)

-- no bit while there is no sheet
pub nothing-shows : (xs out : List ℕ) → bits_held refused xs out ≡ []
nothing-shows xs out = ap (λ (c : Check). shown c (bits_of refused (take 0 xs))) (then-ends _ (ask-fails (genuine? refused) BadShape refused-forged))

-- and the sum 0
pub nothing-sums : (xs : List ℕ) → sum_held refused xs ≡ 0
nothing-sums xs = reported-none refused _ refused-forged
