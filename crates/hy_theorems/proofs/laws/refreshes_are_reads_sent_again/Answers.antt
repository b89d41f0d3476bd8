use Rattle.hy_theorems.proofs.Rereads.{refreshes-are-reads}
use Rattle.hy_theorems.proofs.laws.refreshes_are_reads_sent_again.Goals as goal

pub returns : goal.returns
returns c = refreshes-are-reads
