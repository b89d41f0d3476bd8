use Rattle.std.proofs.Common.{length, refl}
use Rattle.hy_base.specs.Moves.{came}
use Rattle.hy_base.proofs.Taping.{tape-took}
use Rattle.hy_base.proofs.net_tape.NetTapeNet.next.Goals as goal

pub returns-clause-tells : goal.returns-clause-tells
returns-clause-tells c = tape-took c.args.self.now _ (came c.give.result c.give.new.buf) refl refl c.give.ensures.all
    (record { room = length c.args.buf.now; came = c.give.ensures.gives; rest = c.give.ensures.rest })
