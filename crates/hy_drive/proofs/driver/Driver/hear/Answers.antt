use Rattle.std.proofs.Common.{sym, ◌∙◌}
use Rattle.hy_drive.proofs.Telling.{client-heard}
use Rattle.hy_drive.proofs.driver.Driver.hear.Goals as goal

pub returns-then-is_some : goal.returns-then-is_some
returns-then-is_some c = client-heard c.args.job.now c.args.self.now c.hear_answer.new.self c.args.message c.hear_answer.result c.hear_answer.ensures (sym c.is_some.ensures ∙ c.if-is_some.true)
