-- The line is joined from the pieces in which it was written.
use Rattle.hy_order.proofs.Lines.{held_line}
use Rattle.hy_order.proofs.text.writing.push_held.Goals as goal

pub returns : goal.returns
returns c =
    held_line c.args.held.now _ _ _ _ _ _
    c.in_ok-extend_from_slice.ensures.items
    (rw c.bytes.ensures.value at c.in_ok-push_word.ensures)
    c.in_ok-push_stamp.ensures
    c.in_ok-push_clouds.ensures
    c.in_ok-push_line_end.ensures
