use Rattle.std.proofs.Common.{ap}
use Rattle.std.specs.BTreeMap.{is_at}
use Rattle.std.specs.Map.{lookup}
use Rattle.std.specs.Ordering.{nat_cmp}
use Rattle.hy_drive.specs.Held.{line_at}
use Rattle.hy_drive.proofs.cloud_lines.CloudLines.new.Goals as goal

pub returns : goal.returns
unfolding line_at
returns c = λ conn. ap (λ entries. lookup (is_at (nat_cmp conn)) entries) c.new.ensures.empty
