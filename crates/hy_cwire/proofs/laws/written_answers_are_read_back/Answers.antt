use Rattle.hy_cwire.proofs.Responses.{said-back}
use Rattle.hy_cwire.proofs.laws.written_answers_are_read_back.Goals as goal

pub returns : goal.returns
returns c = said-back
