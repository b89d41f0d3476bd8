-- Nothing is kept of any client.
use Rattle.std.proofs.Common.{ℕ, List, Option, ap}
use Rattle.std.specs.BTreeMap.{is_at}
use Rattle.std.specs.Map.{lookup}
use Rattle.std.specs.Ordering.{nat_cmp}
use Rattle.hy_meta.specs.declared.verdicts.Verdict.{Verdict}
use Rattle.hy_meta.specs.Verdicts.{last_in, judged_there}
use Rattle.hy_meta.proofs.verdicts.Verdicts.new.Goals as goal

pub returns : goal.returns
unfolding last_in
returns c = λ client. ap (λ (entries : List (ℕ × Option Verdict)). judged_there (lookup (is_at (nat_cmp client)) entries)) c.new.ensures.empty
