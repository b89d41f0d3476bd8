use Rattle.std.proofs.Common.{Bool, true, false, not, ap, refl}
use Rattle.hy_base.specs.declared.net_call.NetCall.TheVariants as calls
use Rattle.hy_base.specs.Moves.{listen, is_dialled}
use Rattle.hy_base.proofs.Taping.{tape-called, call-kept, none-dialled}
use Rattle.hy_base.proofs.net_tape.NetTapeNet.listen.Goals as goal

pub returns-then-fails-clause-tells : goal.returns-then-fails-clause-tells
unfolding is_dialled
returns-then-fails-clause-tells c = tape-called c.args.self.now _ (listen c.args.port false) (λ told.
    call-kept c.args.self.now _ c.reserve.new.self 0 c.reserve.result (listen c.args.port false) (calls.Listen c.args.port (not c.next_fails-fails.result))
    c.reserve.ensures.room c.if-not-reserve.false c.reserve.ensures.after c.keep.ensures (ap (λ (b : Bool). calls.Listen c.args.port (not b)) c.if-fails.true)
    (λ conn. refl) refl (none-dialled c.args.self.now.dialled (listen c.args.port false) (λ conn. refl)))

pub returns-clause-tells : goal.returns-clause-tells
unfolding is_dialled
returns-clause-tells c = tape-called c.args.self.now _ (listen c.args.port true) (λ told.
    call-kept c.args.self.now _ c.reserve.new.self 0 c.reserve.result (listen c.args.port true) (calls.Listen c.args.port (not c.next_fails-fails.result))
    c.reserve.ensures.room c.if-not-reserve.false c.reserve.ensures.after c.keep.ensures (ap (λ (b : Bool). calls.Listen c.args.port (not b)) c.if-fails.false)
    (λ conn. refl) refl (none-dialled c.args.self.now.dialled (listen c.args.port true) (λ conn. refl)))
