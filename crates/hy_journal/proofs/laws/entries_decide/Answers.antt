use Rattle.hy_journal.proofs.Deciding.{records, olds, lists, verdicts, no_watches}
use Rattle.hy_journal.proofs.laws.entries_decide.Goals as goal

pub returns : goal.returns
returns c = record { records = records; olds = olds; lists = lists; swaps = verdicts; watches = no_watches }
