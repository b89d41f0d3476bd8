-- What is kept of the client.
use Rattle.std.proofs.Common.{ap, ◌∙◌}
use Rattle.hy_meta.specs.Verdicts.{last_in, judged_there}
use Rattle.hy_meta.proofs.Lasts.{got}
use Rattle.hy_meta.proofs.verdicts.Verdicts.get.Goals as goal

pub returns-in-Some : goal.returns-in-Some
unfolding last_in
returns-in-Some c = got c.in-Some.verdict.now ∙ ap judged_there c.in-Some.ensures.value

pub returns-in-None : goal.returns-in-None
unfolding last_in
returns-in-None c = ap judged_there c.in-None.ensures.value
