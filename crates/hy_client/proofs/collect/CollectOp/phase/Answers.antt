use Rattle.std.proofs.Common.{◌∙◌, sym, ap}
use Rattle.hy_protocol.specs.Progress.{Progress}
use Rattle.hy_client.proofs.Collecting.{progress-is}
use Rattle.hy_client.proofs.collect.CollectOp.phase.Goals as goal

pub returns : goal.returns
returns c = λ plan inputs h. c.progress.ensures.phase ∙ ap (λ (p : Progress). p.phase) (sym (progress-is plan c.args.self.now inputs h))
