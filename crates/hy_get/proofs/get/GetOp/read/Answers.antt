use Rattle.std.proofs.Common.{refl, ◌∙◌, sym}
use Rattle.hy_get.proofs.Idle.{idle-goes, older-idle}
use Rattle.hy_get.proofs.Outcomes.{takes-record}
use Rattle.hy_get.proofs.get.GetOp.read.Goals as goal

pub returns-then-is_newer-clause-takes : goal.returns-then-is_newer-clause-takes
returns-then-is_newer-clause-takes c = takes-record c.args.self.now c.follow.new.self c.args.rec.now c.follow.result (sym c.is_newer.ensures ∙ c.if-is_newer.true) c.follow.ensures.rounds c.follow.ensures.begins c.follow.ensures.err

pub returns-else-is_newer-clause-takes : goal.returns-else-is_newer-clause-takes
returns-else-is_newer-clause-takes c =
    λ client op key inputs h. idle-goes _ c.args.self.now _ inputs _ _ h refl refl (older-idle c.args.self.now.state client op key c.args.rec.now (sym c.is_newer.ensures ∙ c.if-is_newer.false)) c.quiet.ensures
