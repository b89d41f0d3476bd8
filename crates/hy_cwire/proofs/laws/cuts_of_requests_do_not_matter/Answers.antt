use Rattle.hy_cwire.specs.Readers.{ask_body_size}
use Rattle.hy_cwire.specs.Asks.{AskComesTo}
use Rattle.hy_cwire.proofs.Once.{ask-one, stage-one}
use Rattle.hy_cwire.proofs.laws.cuts_of_requests_do_not_matter.Goals as goal

pub returns : goal.returns
returns c = λ bytes a b one other at also. stage-one AskComesTo ask_body_size bytes a b ask-one one other at also
