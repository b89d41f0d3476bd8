use Rattle.hy_cwire.specs.Readers.{say_body_size}
use Rattle.hy_cwire.specs.Says.{SayComesTo}
use Rattle.hy_cwire.proofs.Once.{say-one, stage-one}
use Rattle.hy_cwire.proofs.laws.cuts_of_answers_do_not_matter.Goals as goal

pub returns : goal.returns
returns c = λ bytes a b one other at also. stage-one SayComesTo say_body_size bytes a b say-one one other at also
