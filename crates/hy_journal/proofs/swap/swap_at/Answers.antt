use Rattle.hy_journal.proofs.Swaps.{lacks_block, lacks_watch, lacks_record, has_swap}
use Rattle.hy_journal.proofs.swap.swap_at.Goals as goal

pub returns-in_default : goal.returns-in_default
returns-in_default c = lacks_block c.args.bytes.now c.in_default.ensures

pub returns-in_default-2 : goal.returns-in_default-2
returns-in_default-2 c =
    let lacks = rw c.in_default-2.is at c.in_ok-watch.ensures in
    lacks_watch c.args.bytes.now c.in-Some.fields.now c.in-Some.spelled.now c.in-Some.ensures lacks

pub returns-in_default-3 : goal.returns-in_default-3
returns-in_default-3 c =
    let lacks = rw c.in_default-3.is at c.in_ok-rec.ensures in
    lacks_record c.args.bytes.now c.in-Some.fields.now c.in-Some.spelled.now c.in-Some.ensures lacks

pub returns : goal.returns
returns c =
    let watch = rw c.in-Some-2.is at c.in_ok-watch.ensures in
    let spells = rw c.in-Some-3.is at c.in_ok-rec.ensures in
    has_swap c.args.bytes.now c.in-Some.fields.now c.in-Some.spelled.now c.in-Some-2.watch c.in-Some-3.rec c.in-Some.ensures watch spells
