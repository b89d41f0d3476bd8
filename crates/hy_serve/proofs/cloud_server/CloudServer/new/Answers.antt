use Rattle.std.proofs.Common.{refl, sym, ap, subst}
use Rattle.std.specs.BTreeMap.{is_at}
use Rattle.std.specs.Map.{lookup}
use Rattle.std.specs.Ordering.{nat_cmp}
use Rattle.hy_serve.specs.CloudRole.{unopened}
use Rattle.hy_serve.specs.CloudStanding.{HeldLine, HoldsLine, line_at}
use Rattle.hy_serve.proofs.cloud_server.CloudServer.new.Goals as goal

pub returns : goal.returns
unfolding line_at
returns c = λ port arrivals. record {
  lines = λ conn. subst (λ (held : HeldLine). HoldsLine held unopened) (sym (ap (λ entries. lookup (is_at (nat_cmp conn)) entries) c.new-2.ensures.empty)) refl;
  cloud = record { stands = c.in_ok-cloud.ensures; small = tt };
}
