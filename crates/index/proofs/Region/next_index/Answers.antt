-- `index::Region::next_index` meets its contract: the index blocks passed are all full. Assumes nothing.
use mathlib.Core.Path.{◌≡◌, ◌∙◌, ap, sym}
use native.Mathlib.Omega.{arith}
use Rattle.index.specs.Laws.{closed-more, index-asked, index-said}
use Rattle.index.specs.Meaning.{as_entry, entry_at, next-at, next-nowhere}
use Rattle.index.proofs.Region.next_index.Goals as goal
use Rattle.index.proofs.Region.next_index.Goals.{After-index_of, In-loop-x}

pub index_of-requires : goal.index_of-requires
index_of-requires c =
    index-asked c.args.self c.args.q c.loop-x.x c.args.batch.now c.requires c.loop-x-test.true

-- what the index block of a turn says
said : (c : After-index_of) →
    let a = c.args in
    as_entry c.index_of.result ≡ entry_at a.self a.batch.now c.loop-x.x
said c =
    c.index_of.ensures ∙ index-said c.args.self c.args.q c.loop-x.x c.args.batch.now c.requires c.loop-x-test.true

pub returns-in-Number : goal.returns-in-Number
returns-in-Number c =
    next-at c.loop-x.x c.in-Number.u (omega arith) c.loop-x-test.true c.loop-x.invariant (sym (said (goal.at.returns-in-Number c).After-index_of) ∙ ap as_entry c.in-Number.is)

pub loop-x-preserved : goal.loop-x-preserved
loop-x-preserved c =
    let a = c.args in
    closed-more a.self a.batch.now a.from c.loop-x.x c.loop-x.invariant (sym (said (goal.at.loop-x-preserved c).After-index_of) ∙ ap as_entry c.in_default.is)

pub returns : goal.returns
returns c =
    next-nowhere (λ x h g. c.loop-x.invariant x h (omega arith))
