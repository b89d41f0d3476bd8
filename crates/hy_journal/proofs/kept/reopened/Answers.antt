use Rattle.hy_journal.proofs.Keeping.{not_failing}
use Rattle.hy_journal.proofs.kept.reopened.Goals as goal

pub unreachable-requires : goal.unreachable-requires
unreachable-requires c =
    not_failing c.args.disk c.in-Err._disk 3 1 1 c.requires.suffices c.requires.small c.requires.past c.requires.few c.in-Err.ensures.reach_err
    (c.in-Err.ensures.rose c.in-DiskFault.is)
