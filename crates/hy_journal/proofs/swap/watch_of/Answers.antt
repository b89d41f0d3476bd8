use Rattle.std.proofs.Common.{◌∙◌}
use Rattle.hy_journal.proofs.Swaps.{has_fields, lacks_fields}
use Rattle.hy_journal.proofs.swap.watch_of.Goals as goal

pub returns-in-Some : goal.returns-in-Some
returns-in-Some c =
    let has = rw c.in-Some.is at c.in_ok-watch.ensures in
    has_fields c.deref.result.now c.args.fields.now c.in-Some.watch (c.deref.ensures.value ∙ c.in_ok-frame.ensures) has

pub returns : goal.returns
returns c =
    let lacks = rw c.in-None.is at c.in_ok-watch.ensures in
    lacks_fields c.deref.result.now c.args.fields.now (c.deref.ensures.value ∙ c.in_ok-frame.ensures) lacks
