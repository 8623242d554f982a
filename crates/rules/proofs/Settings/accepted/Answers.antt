-- A number of no kind is refused.
use Rattle.std.proofs.Common.{◌≡◌, ◌≢◌, ℕ, Result, Ok, Err, None, ◌∙◌, ap, sym}
use Rattle.std.proofs.Math.Decide.{dec_lt}
use Rattle.std.proofs.lemmas.Option.{none-some}
use Rattle.std.specs.Result.{result_ok}
use Rattle.rules.specs.Asked.{if_accepted, number_of_kind, KindNamed}
use Rattle.rules.specs.AcceptLaws.{other-refused}
use Rattle.rules.specs.declared.Kind.{Kind}
use Rattle.rules.specs.declared.Kind.TheVariants.{Plain, Staged}
use Rattle.rules.specs.declared.NoKind.{NoKind}
use Rattle.rules.proofs.Settings.accepted.Goals as goal

-- a number that names no kind is that of none
none-has : (n : ℕ) (r : Result Kind NoKind) → KindNamed n r → None ≡ result_ok r → (kind : Kind) → n ≢ number_of_kind kind
none-has n (Ok kind) h e = absurd (none-some kind e)
none-has n (Err e) h q = h

pub returns-in_err-ok : goal.returns-in_err-ok
unfolding dec_lt
returns-in_err-ok c =
    let h = none-has c.args.kind c.try_from.result c.try_from.ensures c.in_err-ok.ensures.value in
    c.from_residual.ensures ∙ ap if_accepted (sym (other-refused c.args.kind c.args.k c.args.top c.args.n (h Plain) (h Staged)))
