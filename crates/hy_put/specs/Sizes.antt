-- Values that are too large to be put.
use Rattle.std.specs.Prelude.{ℕ, List, length, Option, Some, None, nat_lt, if◌then◌else◌}
use Rattle.hy_base.specs.declared.limits.TheConstants.{MAX_VALUE}
use Rattle.hy_protocol.specs.declared.plan.PutPlan.{PutPlan}
use Rattle.hy_put.specs.declared.fault.StartFault.{StartFault}
use Rattle.hy_put.specs.declared.fault.StartFault.TheVariants as faults

abbrev pub oversize_of : Option (List ℕ) → Option ℕ
oversize_of None = None
oversize_of (Some value) = if nat_lt MAX_VALUE (length value) then Some (length value) else None

-- the size of the plan's value, where it is more than a value may have
abbrev pub oversize : PutPlan → Option ℕ
oversize plan = oversize_of plan.value

-- the size that a refusal tells
abbrev pub size_told : StartFault → Option ℕ
size_told (faults.TooLarge size) = Some size
size_told faults.NoMemory = None
