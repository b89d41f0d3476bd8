use Rattle.std.proofs.Common.{length, true, false, refl}
use Rattle.hy_base.specs.declared.net_call.NetCall.TheVariants as calls
use Rattle.hy_base.specs.Moves.{send, is_dialled}
use Rattle.hy_base.proofs.Taping.{tape-called, call-kept, send-kept, none-dialled}
use Rattle.hy_base.proofs.net_tape.NetTapeNet.send.Goals as goal

pub returns-then-fails-clause-tells : goal.returns-then-fails-clause-tells
unfolding is_dialled
returns-then-fails-clause-tells c = tape-called c.args.self.now _ (send c.args.conn c.args.bytes.now false) (λ told.
    call-kept c.args.self.now _ c.reserve.new.self (length c.args.bytes.now) c.reserve.result (send c.args.conn c.args.bytes.now false) (calls.Send c.args.conn (length c.args.bytes.now) false)
    c.reserve.ensures.room c.if-not-reserve.false c.reserve.ensures.after c.keep.ensures refl
    (λ conn. refl) refl (none-dialled c.args.self.now.dialled (send c.args.conn c.args.bytes.now false) (λ conn. refl)))

pub returns-clause-tells : goal.returns-clause-tells
returns-clause-tells c = tape-called c.args.self.now _ (send c.args.conn c.args.bytes.now true) (λ told.
    send-kept c.args.self.now _ c.reserve.new.self c.reserve.result c.args.conn c.args.bytes.now
    c.reserve.ensures.room c.if-not-reserve.false c.reserve.ensures.after c.send.ensures.calls c.send.ensures.bytes refl refl)
