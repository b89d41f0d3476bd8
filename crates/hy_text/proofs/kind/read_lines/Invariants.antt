-- The items so far, and those of the lines that are left, are those of all lines.
use Rattle.std.proofs.Common.{◌≡◌, length}
use Rattle.hy_base.proofs.Results.{with_items}
use Rattle.hy_text.specs.Kind.{items_from}
use Rattle.hy_text.proofs.kind.read_lines.Given as goal

abbrev pub invariant-loop-line : goal.invariant-loop-line
invariant-loop-line g l = with_items l.items.items (items_from g.K.LineKind.kind l.kind l.cursor.number l.cursor.lines) ≡ items_from g.K.LineKind.kind l.fn.kind l.fn.cursor.number l.fn.cursor.lines

abbrev pub decreases-loop-line : goal.decreases-loop-line
decreases-loop-line g l = length l.cursor.lines
