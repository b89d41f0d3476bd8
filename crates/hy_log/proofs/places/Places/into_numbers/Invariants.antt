use Rattle.std.proofs.Common.{◌≡◌, ◌++◌, map}
use Rattle.hy_log.specs.Orders.{number_at}
use Rattle.hy_log.proofs.places.Places.into_numbers.Given as goal

abbrev pub invariant-loop-place : goal.invariant-loop-place
invariant-loop-place l = l.numbers.items ++ map number_at l._place-iterator ≡ map number_at l.fn.self
