-- The line is joined from the pieces in which it was written.
use Rattle.hy_order.proofs.Lines.{order_line}
use Rattle.hy_order.proofs.text.writing.push_order.Goals as goal

pub returns : goal.returns
returns c =
    order_line c.args.order.now _ _ _ _ _
    c.in_ok-extend_from_slice.ensures.items
    (rw c.bytes.ensures.value at c.in_ok-push_word.ensures)
    (rw c.items.ensures at c.in_ok-push_numbers.ensures)
    c.in_ok-push_line_end.ensures
