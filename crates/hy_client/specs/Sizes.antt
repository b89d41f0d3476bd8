-- Values that are too large to be stored, and what is a swap.
use Rattle.std.specs.Prelude.{Bool, true, false, length, nat_lt, Option, Some, None, if◌then◌else◌}
use Rattle.hy_base.specs.declared.limits.TheConstants.{MAX_VALUE}
use Rattle.hy_record.specs.declared.action.Action.{Action}
use Rattle.hy_record.specs.declared.action.Action.TheVariants as asked
use Rattle.hy_client.specs.declared.fault.InvokeFault.{InvokeFault}
use Rattle.hy_client.specs.declared.fault.InvokeFault.TheVariants as faults

-- the fault of a value that is too large
abbrev pub size_refusal : Action → Option InvokeFault
size_refusal (asked.Put key value) = if nat_lt MAX_VALUE (length value) then Some (faults.TooLarge (length value)) else None
size_refusal (asked.Get key) = None
size_refusal (asked.Delete key) = None
size_refusal (asked.Collect key) = None
size_refusal (asked.Swap key expected value) = if nat_lt MAX_VALUE (length value) then Some (faults.TooLarge (length value)) else None

-- the action is a conditional swap
abbrev pub is_swap : Action → Bool
is_swap (asked.Put key value) = false
is_swap (asked.Get key) = false
is_swap (asked.Delete key) = false
is_swap (asked.Collect key) = false
is_swap (asked.Swap key expected value) = true
