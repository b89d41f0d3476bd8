-- The lines of the copies so far.
use Rattle.std.proofs.Common.{◌≡◌, ◌++◌, map, take}
use Rattle.hy_text.specs.Line.{text_of}
use Rattle.hy_order.specs.Report.{held_row}
use Rattle.hy_order.proofs.text.writing.push_copies.Given as goal

abbrev pub invariant-loop-held : goal.invariant-loop-held
invariant-loop-held l = l.out.items ≡ l.initial.out.items ++ text_of (map held_row (take l.held-index l.copies))
