-- What is read of lines of operations is a history.
use Rattle.hy_order.proofs.OperationRows.{is_history}
use Rattle.hy_order.proofs.text.reading.read_history.Goals as goal

pub of-requires : goal.of-requires
of-requires c = is_history c.args.cursor.now.number c.args.cursor.now.lines _ (rw c.new.ensures at c.in_ok-ops.ensures)
