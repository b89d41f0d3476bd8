use Rattle.hy_mwire.proofs.Streams.{messages-same, answers-same}
use Rattle.hy_mwire.proofs.laws.cuts_do_not_matter.Goals as goal

pub returns-clause-messages : goal.returns-clause-messages
returns-clause-messages c = messages-same

pub returns-clause-answers : goal.returns-clause-answers
returns-clause-answers c = answers-same
