-- Where acceptance gives none the record is of zeros.
use Rattle.std.proofs.Common.{◌≡◌, ℕ, Option, Some, None, sym, ◌∙◌}
use Rattle.std.specs.Option.{unwrap_or}
use Rattle.rules.specs.Accept.{refused, accept}
use Rattle.rules.specs.Asked.{if_accepted}
use Rattle.rules.specs.AcceptLaws.{if-genuine, if-refused}
use Rattle.rules.specs.declared.Settings.{Settings}
use Rattle.rules.proofs.Settings.work_out.Goals as goal

-- the record that acceptance gives, or that of zeros
worked-out : (kind k L n : ℕ) (o : Option Settings) → o ≡ if_accepted (accept kind k L n) → unwrap_or o refused ≡ accept kind k L n
worked-out kind k L n (Some r) e = (if-genuine kind k L n r e).1
worked-out kind k L n None e = sym (if-refused kind k L n e)

pub returns : goal.returns
returns c = c.unwrap_or.ensures ∙ worked-out _ _ _ _ _ c.accepted.ensures
