use Rattle.std.proofs.Common.{◌∙◌, sym, ap}
use Rattle.hy_protocol.specs.Progress.{Progress}
use Rattle.hy_client.proofs.SwapSteps.{progress-is}
use Rattle.hy_client.proofs.swap.SwapOp.phase.Goals as goal

pub returns : goal.returns
returns c = λ plan expected inputs h. (c.progress.ensures plan expected _ h).phase ∙ ap (λ (p : Progress). p.phase) (sym (progress-is plan expected inputs))
