use Rattle.std.proofs.Common.{◌∙◌, sym, ap}
use Rattle.hy_protocol.specs.Progress.{Progress}
use Rattle.hy_client.proofs.SwapSteps.{progress-is}
use Rattle.hy_client.proofs.swap.SwapOp.have.Goals as goal

pub returns : goal.returns
returns c = λ plan expected inputs h. (c.progress.ensures plan expected _ h).have ∙ ap (λ (p : Progress). p.have) (sym (progress-is plan expected inputs))
