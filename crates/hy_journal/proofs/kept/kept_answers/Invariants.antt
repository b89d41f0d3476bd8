use Rattle.std.proofs.Common.{take}
use Rattle.hy_journal.specs.Playing.{IsPlayed}
use Rattle.hy_journal.proofs.kept.kept_answers.Given as goal

abbrev pub invariant-loop-request : goal.invariant-loop-request
invariant-loop-request l = IsPlayed l.stop l.keeper (take l.request-index l.requests) l.output.items
