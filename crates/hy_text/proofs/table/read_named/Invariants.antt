-- The value is among those that are left, or none is.
use Rattle.std.proofs.Common.{◌≡◌, drop}
use Rattle.hy_text.specs.Table.{value_named}
use Rattle.hy_text.proofs.table.read_named.Given as goal

abbrev pub invariant-loop-value : goal.invariant-loop-value
invariant-loop-value g l = value_named g.T.Named.word_of (drop l.value-index l.values) l.word ≡ value_named g.T.Named.word_of l.values l.word
