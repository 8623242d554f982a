-- The call answers as the rules say.
use Rattle.std.proofs.Common.{◌≡◌, ℕ, ◌<◌, sym, ap, ◌∙◌}
use Rattle.std.proofs.Math.Decide.{dec_lt}
use Rattle.rules.specs.SearchLaws.{pick_yes}
use Rattle.rules.specs.Accept.{guarantee}
use Rattle.rules.specs.AcceptLaws.{if-genuine, if-refused}
use Rattle.rules.specs.Calls.{setup_of, settings_call}
use Rattle.rules.specs.PromiseLaws.{told-settings}
use Rattle.rules.specs.declared.Settings.{Settings}
use Rattle.rules.specs.declared.Answer.{Answer}
use Rattle.rules.specs.declared.Answer.TheVariants.{Done, BadShape}
use Rattle.rules.proofs.Settings.accept.Goals as goal

-- what the call answers for a record with bits
accepting : (r : Settings) → 0 < r.k → record { answer = Done (guarantee r); settings = r } ≡ setup_of r
accepting r h = ap (λ (a : Answer). record { answer = a; settings = r }) (sym (pick_yes (dec_lt 0 r.k) (Done (guarantee r)) BadShape h))

pub returns-in_default : goal.returns-in_default
unfolding settings_call dec_lt
returns-in_default c =
    told-settings (ap setup_of (sym (if-refused _ _ _ _ c.in_default.ensures)))

pub formula-requires : goal.formula-requires
formula-requires c = (if-genuine _ _ _ _ _ c.in-Some.ensures).0

pub returns : goal.returns
unfolding settings_call
returns c =
    let g = if-genuine _ _ _ _ c.in-Some.settings c.in-Some.ensures in
    told-settings (ap (λ (v : ℕ). record { answer = Done v; settings = c.in-Some.settings }) c.formula.ensures ∙ accepting c.in-Some.settings g.0.0 ∙ ap setup_of g.1)
