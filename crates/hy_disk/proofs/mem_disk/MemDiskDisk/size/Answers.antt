use Rattle.std.proofs.Common.{ap, arith, rules}
use Rattle.hy_disk.specs.MemDisk.{DiskValue, FailsByNumber}
use Rattle.hy_disk.proofs.Doing.{reach_failed}
use Rattle.hy_disk.proofs.mem_disk.MemDiskDisk.size.Goals as goal

pub returns-then-next_fails-clause-reach : goal.returns-then-next_fails-clause-reach
returns-then-next_fails-clause-reach c =
    let fails : FailsByNumber c.args.self.now = rw (← c.self.view_is) (c.next_fails.ensures.fails.0 c.if-next_fails.true) in
    reach_failed c.args.self.now _ 0 0 0 (λ s. fails) (search rules)
    (omega (arith, c.next_fails.ensures.grows, ap (λ (d : DiskValue). d.calls) c.self.view_is))
    (omega (arith, c.fault.ensures.grows, ap (λ (d : DiskValue). d.faults) c.self.view_is))
