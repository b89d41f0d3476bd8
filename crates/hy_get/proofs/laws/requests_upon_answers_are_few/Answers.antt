use Rattle.hy_get.proofs.Counting.{few-requests}
use Rattle.hy_get.proofs.laws.requests_upon_answers_are_few.Goals as goal

pub returns : goal.returns
returns c = few-requests
