use Rattle.std.proofs.Common.{[], sym, subst}
use Rattle.hy_base.specs.Net.{Adds}
use Rattle.hy_base.proofs.Adding.{Adds-weaken}
use Rattle.hy_serve.specs.declared.letter.Turn.{Turn}
use Rattle.hy_serve.specs.MetaStanding.{requests_in}
use Rattle.hy_serve.specs.MetaPlaying.{Makes}
use Rattle.hy_serve.proofs.MetaMaking.{makes-close}
use Rattle.hy_serve.proofs.meta_serving.carry_out.Goals as goal

pub returns-in-Closes-clause-plays : goal.returns-in-Closes-clause-plays
returns-in-Closes-clause-plays g c =
    subst (λ (turn : Turn). Adds g.N.Net.told g.N.Net.tells c.args.net.now c.close.new.self (Makes c.args.server.now c.args.server.now (requests_in c.args.conn turn) []))
    (sym c.in-Closes.is)
    (Adds-weaken g.N.Net.told g.N.Net.tells c.args.net.now c.close.new.self _ _ c.close.ensures.tells
    (λ moves is. makes-close c.args.server.now c.args.conn moves is))
