-- Why an operation does not begin.
use Rattle.hy_put.specs.declared.fault.StartFault.{StartFault}
use Rattle.hy_put.specs.declared.fault.StartFault.TheVariants as starts
use Rattle.hy_client.specs.declared.fault.InvokeFault.{InvokeFault}
use Rattle.hy_client.specs.declared.fault.InvokeFault.TheVariants as faults

-- the fault of a put, as one of a client
abbrev pub fault_of : StartFault → InvokeFault
fault_of (starts.TooLarge size) = faults.TooLarge size
fault_of starts.NoMemory = faults.NoMemory
