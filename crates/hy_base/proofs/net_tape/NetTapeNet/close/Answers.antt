use Rattle.std.proofs.Common.{refl}
use Rattle.hy_base.specs.declared.net_call.NetCall.TheVariants as calls
use Rattle.hy_base.specs.Moves.{close, is_dialled}
use Rattle.hy_base.proofs.Taping.{tape-called, call-kept, none-dialled}
use Rattle.hy_base.proofs.net_tape.NetTapeNet.close.Goals as goal

pub returns-then-reserve-clause-tells : goal.returns-then-reserve-clause-tells
unfolding is_dialled
returns-then-reserve-clause-tells c = tape-called c.args.self.now _ (close c.args.conn) (λ told.
    call-kept c.args.self.now _ c.reserve.new.self 0 c.reserve.result (close c.args.conn) (calls.Close c.args.conn)
    c.reserve.ensures.room c.if-reserve.true c.reserve.ensures.after c.keep.ensures refl
    (λ conn. refl) refl (none-dialled c.args.self.now.dialled (close c.args.conn) (λ conn. refl)))
