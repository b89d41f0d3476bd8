-- The line is joined from the pieces in which it was written.
use Rattle.hy_order.proofs.Lines.{operation_line}
use Rattle.hy_order.proofs.text.writing.push_operation.Goals as goal

pub returns : goal.returns
returns c =
    operation_line c.args.op.now _ _ _ _ _ _ _ _
    c.in_ok-extend_from_slice.ensures.items
    (rw c.into.ensures at c.in_ok-push_number_word.ensures)
    (rw c.into-2.ensures at c.in_ok-push_number_word-2.ensures)
    c.in_ok-push_action.ensures c.in_ok-push_number_word-3.ensures c.in_ok-push_end.ensures c.in_ok-push_line_end.ensures
