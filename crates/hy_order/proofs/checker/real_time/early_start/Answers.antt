use Rattle.std.proofs.Common.{◌≡◌, ℕ, ◌+◌, ◌-◌, ◌^◌, ◌<◌, ◌≤◌, min, List, length, map, get_or, drop, ap, ◌∙◌, sym, arith}
use Rattle.std.proofs.lemmas.List.{get_or-map, length-map}
use Rattle.std.specs.Borrow.{Bor}
use Rattle.hy_order.specs.declared.operation.Operation.{Operation}
use Rattle.hy_order.specs.Checking.{early_part}
use Rattle.hy_order.proofs.Listed.{earliest_return-more, early_part-here, early_part-later}
use Rattle.hy_order.proofs.checker.real_time.early_start.Goals as goal

pub loop-place-preserved : goal.loop-place-preserved
loop-place-preserved c =
    let target : Bor Operation → Operation = λ op. op.now in
    let ops : List Operation = map target c.args.listed.now in
    let place : ℕ = c.loop-place.place - 1 in
    let op : Operation = c.index-listed-place.result.now in
    let is_next : c.loop-place.place ≡ place + 1 = omega arith in
    let inside : place < length c.args.listed.now = omega arith in
    let within : place < length ops = omega (arith, length-map c.args.listed.now target) in
    let is : op ≡ get_or ops place op =
    ap target c.index-listed-place.is ∙ sym (get_or-map target c.args.listed.now place c.index-listed-place.result op inside) in
    let small : op.invoked < 2 ^ 64 = omega arith in
    let here : c.loop-place.earliest < op.invoked → drop place ops ≡ early_part (drop place ops) =
    early_part-here ops place c.loop-place.place c.loop-place.earliest op is_next within is c.loop-place.invariant.earliest small in
    let later : op.invoked ≤ c.loop-place.earliest → drop c.loop-place.start ops ≡ early_part (drop place ops) =
    λ late. early_part-later ops place c.loop-place.place c.loop-place.earliest op is_next within is c.loop-place.invariant.earliest (drop c.loop-place.start ops) small late c.loop-place.invariant.part in
    record {
      within = grind arith;
      earliest =
          c.min-earliest.ensures ∙ ap (min c.loop-place.earliest) c.return_step.ensures
          ∙ earliest_return-more ops place c.loop-place.place c.loop-place.earliest op is_next within is c.loop-place.invariant.earliest;
      part = grind (arith, here, later);
    }
