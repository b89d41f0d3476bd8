use Rattle.hy_client.proofs.Swaps.{is-updating, is-not-updating}
use Rattle.hy_client.proofs.swap.SwapOp.awaits_verdict.Goals as goal

pub returns-in-Update : goal.returns-in-Update
returns-in-Update c = is-updating c.args.self.now c.phase.result c.phase.ensures c.in-Update.is

pub returns-in_default : goal.returns-in_default
returns-in_default c = is-not-updating c.args.self.now c.phase.result c.phase.ensures c.in_default.not-Update
