use Rattle.std.proofs.Common.{sym, subst, ap, ◌∙◌}
use Rattle.hy_cwire.specs.Readers.{Answering, IsSayAt}
use Rattle.hy_cwire.proofs.say_reader.SayReader.end.Goals as goal

pub returns-clause-stands : goal.returns-clause-stands
returns-clause-stands c = λ bytes at.
    c.ended.ensures.stands bytes (subst (λ progress. IsSayAt bytes progress) (sym (c.replace-progress.ensures.value ∙ ap (λ (answering : Answering). answering.progress) c.self.view_is)) at)
