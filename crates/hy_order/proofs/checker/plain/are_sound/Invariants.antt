-- The orders so far are sound, and the marks are those that they left.
use Rattle.std.proofs.Common.{take}
use Rattle.hy_order.specs.Plain.{AreSound}
use Rattle.hy_order.proofs.checker.plain.are_sound.Given as goal

abbrev pub invariant-loop-order : goal.invariant-loop-order
invariant-loop-order l = AreSound l.ops (take l.order-index l.orders) l.marks
