-- What the piece did to the request that came before.
use Rattle.std.proofs.Common.{sym, subst, ◌∙◌}
use Rattle.hy_cwire.specs.Stages.{IsLive}
use Rattle.hy_cwire.specs.Readers.{IsAskAt}
use Rattle.hy_cwire.proofs.ask_reader.AskReader.feed.Goals as goal

pub returns-in-Ok-clause-stands : goal.returns-in-Ok-clause-stands
returns-in-Ok-clause-stands c = λ some live bytes at.
    let same = sym (c.replace-progress.ensures.value ∙ c.self.view_is) in
    c.in-Ok.ensures.stands (subst (λ progress. IsLive progress) same live) bytes (subst (λ progress. IsAskAt bytes progress) same at)
