-- Points that lie within their operations.
use Rattle.std.specs.Prelude.{◌≡◌, ℕ, ◌≤◌, ◌<◌, true}
use Rattle.hy_order.specs.declared.operation.End.{End}
use Rattle.hy_order.specs.declared.operation.End.TheVariants.{Replied, Pending}
use Rattle.hy_trace.specs.Order.{Mark}

-- the operation has not returned before this step
abbrev pub ReturnsFrom : ℕ → End → Type 0
ReturnsFrom step (Replied at reply) = step ≤ at
ReturnsFrom step (Pending phase have need) = Unit {0}

-- the point of a listed operation is after its invocation, and not after its return
pub record IsWithin (m : Mark) : Type 0 where
  pub invoked : m.op.invoked ≤ m.point.step
  pub later : m.point.is_just_before ≡ true → m.op.invoked < m.point.step
  pub returned : ReturnsFrom m.point.step m.op.end
