use Rattle.std.proofs.Common.{arith}
use Rattle.hy_get.proofs.Phases.{phase-reread, phase-watch, phase-fetch}
use Rattle.hy_get.proofs.fetch.Fetch.phase.Goals as goal

pub returns-then-self : goal.returns-then-self
returns-then-self c = λ since h. phase-reread c.args.self.now since h c.if-self.true

pub returns-then-attempts-from : goal.returns-then-attempts-from
returns-then-attempts-from c = λ since h. phase-watch c.args.self.now since h c.if-self.false (omega (arith, c.if-attempts-from.true, c.attempts.ensures.value, c.from.ensures, c.f.ensures))

pub returns-else-attempts-from : goal.returns-else-attempts-from
returns-else-attempts-from c = λ since h. phase-fetch c.args.self.now since h c.if-self.false (omega (arith, c.if-attempts-from.false, c.attempts.ensures.value, c.from.ensures, c.f.ensures))
