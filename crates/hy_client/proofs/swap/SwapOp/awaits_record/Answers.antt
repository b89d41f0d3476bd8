use Rattle.hy_client.proofs.Swaps.{is-reading, is-past-reading}
use Rattle.hy_client.proofs.swap.SwapOp.awaits_record.Goals as goal

pub returns-in-Read : goal.returns-in-Read
returns-in-Read c = is-reading c.args.self.now c.phase.result c.phase.ensures c.in-Read.is

pub returns-in_default : goal.returns-in_default
returns-in_default c = is-past-reading c.args.self.now c.phase.result c.phase.ensures c.in_default.not-Read
