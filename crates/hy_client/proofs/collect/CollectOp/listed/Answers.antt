use Rattle.std.proofs.Common.{refl}
use Rattle.hy_client.proofs.Collecting.{idle, later-list}
use Rattle.hy_client.proofs.collect.CollectOp.listed.Goals as goal

pub returns-in_default : goal.returns-in_default
returns-in_default c = λ client op key plan inputs h. idle plan c.args.self.now inputs _ _ h refl (later-list c.args.self.now client op key c.args.stamps.now c.in_default.not-Asking) c.quiet.ensures
