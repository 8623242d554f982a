-- `moving::route::Route::raised` meets its contract: the marks that raise are counted. Assumes nothing.
use Rattle.std.specs.Prelude.{◌≡◌, ℕ, suc, ◌+◌, if◌then◌else◌, List}
use Rattle.std.specs.List.{count_by}
use Rattle.std.proofs.Common.{◌≤◌, ap, arith, length, length-take, refl, rules}
use Rattle.std.proofs.lemmas.List.Recursion.{is_count_by}
use Rattle.moving.specs.Meaning.{marks_in, raises, risen}
use Rattle.moving.specs.declared.route.Recorder.{Recorder}
use Rattle.moving.proofs.route.Route.raised.Goals as goal

-- they are as many as the recorders whose mark raises
counted : (rs : List Recorder) → risen (marks_in rs) ≡ count_by (λ (r : Recorder). raises r.mark) rs
unfolding risen
counted rs = is_count_by (λ (xs : List Recorder). risen (marks_in xs)) (λ (r : Recorder). raises r.mark) refl (λ x xs. let e : suc (risen (marks_in xs)) ≡ 1 + risen (marks_in xs) = omega arith in ap (λ (n : ℕ). if raises x.mark then n else risen (marks_in xs)) e) rs

pub returns : goal.returns
returns c =
    let e = c.recorders.ensures in
    let k = c.args.self.now.k in
    let most : length c.recorders.result.now ≤ k = rw e (omega (arith, length-take k c.args.self.now.recorders)) in
    let some : c.count.result ≤ length c.recorders.result.now = search rules in
    (rw (← e, counted c.recorders.result.now) (search rules), omega (arith, some, most))
