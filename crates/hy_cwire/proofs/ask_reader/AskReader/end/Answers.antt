use Rattle.std.proofs.Common.{sym, subst, ◌∙◌}
use Rattle.hy_cwire.specs.Readers.{IsAskAt}
use Rattle.hy_cwire.proofs.ask_reader.AskReader.end.Goals as goal

pub returns-clause-stands : goal.returns-clause-stands
returns-clause-stands c = λ bytes at. c.ended.ensures.stands bytes (subst (λ progress. IsAskAt bytes progress) (sym (c.replace-progress.ensures.value ∙ c.self.view_is)) at)
