use Rattle.hy_client.proofs.Swaps.{told-at-first, told-at-answer}
use Rattle.hy_client.proofs.swap.SwapOp.progress_at_verdict.Goals as goal

pub returns-then-awaits_record : goal.returns-then-awaits_record
returns-then-awaits_record c = told-at-first c.args.self.now c.from.result c.awaits_record.result c.awaits_record.ensures c.if-awaits_record.true c.from.ensures

pub returns-else-awaits_record : goal.returns-else-awaits_record
returns-else-awaits_record c = told-at-answer c.args.self.now c.awaits_record.result c.awaits_record.ensures c.if-awaits_record.false
