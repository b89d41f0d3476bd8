use Rattle.std.proofs.Common.{◌≡◌, option_copied, arith, ap, ◌∙◌, sym}
use Rattle.std.proofs.lemmas.Grind.{common_steps}
use Rattle.std.proofs.lemmas.Option.{gets}
use Rattle.std.specs.List.{slice_get}
use Rattle.hy_order.specs.Linearization.{operation_at}
use Rattle.hy_order.proofs.Places.{operation_at-slice_get, operation_at-zero}
use Rattle.hy_order.proofs.checker.index.operation_of.Goals as goal

pub returns : goal.returns
returns c =
    let e : operation_at c.args.ops.now c.args.number ≡ slice_get c.args.ops.now c.in_ok-place.place =
    operation_at-slice_get c.args.ops.now c.args.number c.in_ok-place.place c.requires (omega (arith, c.in_ok-place.ensures)) in
    rw e (grind (arith, common_steps, gets))

pub returns-in_err-place : goal.returns-in_err-place
returns-in_err-place c =
    ap option_copied c.from_residual.ensures ∙ sym (operation_at-zero c.args.ops.now c.args.number c.requires (omega (arith, c.in_err-place.ensures)))
