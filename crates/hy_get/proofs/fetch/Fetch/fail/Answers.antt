use Rattle.std.proofs.Common.{refl}
use Rattle.hy_get.proofs.Since.{fail-counts}
use Rattle.hy_get.proofs.fetch.Fetch.fail.Goals as goal

pub returns-clause-moves : goal.returns-clause-moves
returns-clause-moves c = λ since a. fail-counts _ c.args.self.now _ since c.args.reply.now c.in_ok-sends.sends.items a c.requires.stamp c.requires.invalid refl refl refl refl refl c.mark.ensures (rw (c.attempts-before.ensures.value, c.attempts-attempts.ensures.value) at c.in_ok-sends.ensures)
