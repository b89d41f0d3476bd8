-- A line that is read moves its item from what is left to what was read; the first that is not is the fault of all.
use Rattle.std.proofs.lemmas.Result.{err_from_is_err_and}
use Rattle.hy_text.specs.OpenLine.{opened_seen}
use Rattle.hy_text.proofs.Items.{items_go_on, items_fail, items_end}
use Rattle.hy_text.proofs.kind.read_lines.Goals as goal

pub returns-in_err-item : goal.returns-in_err-item
returns-in_err-item g c =
    let next = c.in-Some.ensures.0 in
    let so_far = rw next.lines at c.loop-line.invariant in
    let gives = rw next.here at c.in_err-item.ensures.gives in
    let p = err_from_is_err_and c.from_residual.result c.from_residual.ensures.1 in
    rw (p.1, p.2)
    (items_fail g.K.LineKind.kind c.in_err-item.field-0.0 c.loop-line.items.items c.loop-line.kind c.loop-line.cursor.number (opened_seen c.in-Some.line) c.take_due.new.cursor.lines _ c.in-Some.ensures.1 gives so_far)

pub loop-line-preserved : goal.loop-line-preserved
loop-line-preserved g c =
    let next = c.in-Some.ensures.0 in
    let so_far = rw next.lines at c.loop-line.invariant in
    let gives = rw next.here at c.in_ok-item.ensures.gives in
    rw (c.in_ok-push.ensures.items, next.number, c.in_ok-item.ensures.next)
    (items_go_on g.K.LineKind.kind c.loop-line.items.items c.loop-line.kind c.loop-line.cursor.number (opened_seen c.in-Some.line) c.take_due.new.cursor.lines c.in_ok-item.item _ c.in-Some.ensures.1 gives so_far)

pub returns : goal.returns
returns g c =
    rw c.in_default.ensures.1 (items_end g.K.LineKind.kind c.loop-line.items.items c.loop-line.kind c.loop-line.cursor.number c.loop-line.cursor.lines _ c.in_default.ensures.0 c.loop-line.invariant)
