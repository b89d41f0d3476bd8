use Rattle.std.proofs.Common.{◌∙◌, sym, ap}
use Rattle.hy_protocol.specs.Progress.{Progress}
use Rattle.hy_client.proofs.Collecting.{progress-is}
use Rattle.hy_client.proofs.collect.CollectOp.need.Goals as goal

pub returns : goal.returns
returns c = λ plan inputs h. c.progress.ensures.need ∙ ap (λ (p : Progress). p.need) (sym (progress-is plan c.args.self.now inputs h))
