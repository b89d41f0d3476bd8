-- The keys of the operations so far, and then those that stand in the set and in the list.
use Rattle.std.proofs.Common.{◌≡◌, ◌++◌, take}
use Rattle.hy_order.specs.Keys.{sorted_keys, register_keys}
use Rattle.hy_order.proofs.text.reading.keys_due.Given as goal

abbrev pub invariant-loop-place : goal.invariant-loop-place
invariant-loop-place l = l.keys.keys ≡ sorted_keys (register_keys (take l.place l.ops))

abbrev pub invariant-loop-key : goal.invariant-loop-key
invariant-loop-key l = l.due.items ++ l.key-iterator ≡ sorted_keys (register_keys l.ops)
