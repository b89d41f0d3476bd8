-- What the piece did to the answer that came before.
use Rattle.std.proofs.Common.{sym, subst, ap, ◌∙◌}
use Rattle.hy_cwire.specs.Stages.{IsLive}
use Rattle.hy_cwire.specs.Readers.{Answering, IsSayAt}
use Rattle.hy_cwire.proofs.say_reader.SayReader.feed.Goals as goal

pub returns-in-Ok-clause-stands : goal.returns-in-Ok-clause-stands
returns-in-Ok-clause-stands c = λ some live bytes at.
    let same = sym (c.replace-progress.ensures.value ∙ ap (λ (answering : Answering). answering.progress) c.self.view_is) in
    c.in-Ok.ensures.stands (subst (λ progress. IsLive progress) same live) bytes (subst (λ progress. IsSayAt bytes progress) same at)
