use Rattle.std.proofs.Common.{[], arith}
use Rattle.hy_disk.proofs.Steps.{length-laid}
use Rattle.hy_disk.proofs.past.Past.count.Goals as goal

pub returns-clause-steps : goal.returns-clause-steps
returns-clause-steps c = omega (arith, c.len.ensures, c.args.self.now.marks.ok.0, length-laid c.args.self.now.marks.items c.args.self.now.bytes.items [])
