use Rattle.std.proofs.Common.{ap}
use Rattle.std.specs.BTreeMap.{is_at}
use Rattle.std.specs.Map.{lookup}
use Rattle.std.specs.Ordering.{nat_cmp}
use Rattle.hy_serve.specs.MetaLines.{seen}
use Rattle.hy_serve.specs.MetaStanding.{line_of, home_of}
use Rattle.hy_serve.proofs.meta_server.MetaServer.new.Goals as goal

pub returns : goal.returns
unfolding line_of home_of
returns c = λ port arrivals. record {
  lines = λ conn. ap (λ entries. seen (lookup (is_at (nat_cmp conn)) entries)) c.new-2.ensures.empty;
  homes = λ client. ap (λ entries. lookup (is_at (nat_cmp client)) entries) c.new-3.ensures.empty;
  given = c.in_ok-service.ensures.given;
  serves = c.in_ok-service.ensures.served;
}
