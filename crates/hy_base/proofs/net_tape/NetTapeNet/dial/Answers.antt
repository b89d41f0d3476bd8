use Rattle.std.proofs.Common.{◌+◌, ◌==◌, true, false, Some, None, refl, arith}
use Rattle.std.proofs.lemmas.Bool.{cond-false}
use Rattle.hy_base.specs.declared.net_call.NetCall.TheVariants as calls
use Rattle.hy_base.specs.Moves.{dial, is_dialled}
use Rattle.hy_base.proofs.Taping.{tape-called, call-kept, none-dialled, above-apart}
use Rattle.hy_base.proofs.net_tape.NetTapeNet.dial.Goals as goal

pub returns-then-fails-clause-tells : goal.returns-then-fails-clause-tells
unfolding is_dialled
returns-then-fails-clause-tells c = tape-called c.args.self.now _ (dial c.args.port None) (λ told.
    call-kept c.args.self.now _ c.reserve.new.self 0 c.reserve.result (dial c.args.port None) (calls.Dial c.args.port None)
    c.reserve.ensures.room c.if-not-reserve.false c.reserve.ensures.after c.keep.ensures refl
    (λ conn. refl) refl (none-dialled c.args.self.now.dialled (dial c.args.port None) (λ conn. refl)))

pub returns-clause-tells : goal.returns-clause-tells
unfolding is_dialled
returns-clause-tells c =
    let number = c.args.self.now.dialled + 1 in
    tape-called c.args.self.now _ (dial c.args.port (Some number)) (λ told.
    call-kept c.args.self.now _ c.reserve.new.self 0 c.reserve.result (dial c.args.port (Some number)) (calls.Dial c.args.port (Some number))
    c.reserve.ensures.room c.if-not-reserve.false c.reserve.ensures.after c.keep-2.ensures refl
    (λ conn. refl) refl (λ conn above. (omega (arith, above), cond-false (number == conn) true false (above-apart number conn above))))
