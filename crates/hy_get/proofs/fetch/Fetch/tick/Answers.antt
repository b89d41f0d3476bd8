use Rattle.std.proofs.Common.{refl}
use Rattle.hy_get.proofs.Since.{tick-counts}
use Rattle.hy_get.proofs.Outcomes.{moves-reads}
use Rattle.hy_get.proofs.fetch.Fetch.tick.Goals as goal

pub returns-then-self-clause-moves : goal.returns-then-self-clause-moves
returns-then-self-clause-moves c = moves-reads _ c.args.self.now c.read.result c.if-self.true c.read.ensures

pub returns-clause-moves : goal.returns-clause-moves
returns-clause-moves c = λ since a. tick-counts _ c.args.self.now _ since c.in_ok-sends.sends.items a c.if-self.false refl refl refl refl refl c.saturating_add-self.ensures (rw c.attempts-attempts.ensures.value at c.in_ok-sends.ensures)
