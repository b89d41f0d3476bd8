use Rattle.std.proofs.Common.{[], arith}
use Rattle.hy_disk.specs.MemDisk.{total_written}
use Rattle.hy_disk.proofs.Steps.{total-laid}
use Rattle.hy_disk.proofs.past.Past.size.Goals as goal

pub returns-clause-written : goal.returns-clause-written
unfolding total_written
returns-clause-written c = omega
    (arith, c.len.ensures, c.args.self.now.bytes.ok.0, total-laid c.args.self.now.marks.items c.args.self.now.bytes.items [] c.requires)
