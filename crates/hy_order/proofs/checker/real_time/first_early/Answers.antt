use Rattle.std.proofs.Common.{◌≡◌, [], ◌∷◌, option_map, ap, ◌∙◌, sym}
use Rattle.std.proofs.lemmas.List.{nil_from_length}
use Rattle.hy_order.specs.Checking.{early_part}
use Rattle.hy_order.proofs.Listed.{early_numbers-none, early_numbers-at, early_part-targets, targets}
use Rattle.hy_order.proofs.checker.real_time.first_early.Goals as goal

pub returns-in_err-op : goal.returns-in_err-op
returns-in_err-op c =
    let none : early_part (targets c.args.listed.now) ≡ [] =
    early_part-targets c.args.listed.now c.early_start-start.result [] c.early_start-start.ensures.part (nil_from_length _ c.in_err-op.ensures.cases) in
    c.from_residual.ensures ∙ sym (early_numbers-none (targets c.args.listed.now) none)

pub returns-in_err-earlier : goal.returns-in_err-earlier
returns-in_err-earlier c =
    let part : early_part (targets c.args.listed.now) ≡ c.in_ok-op.op.now.now ∷ targets c.in_ok-op.later.now =
    early_part-targets c.args.listed.now c.early_start-start.result (c.in_ok-op.op.now ∷ c.in_ok-op.later.now) c.early_start-start.ensures.part c.in_ok-op.ensures.cases.0 in
    c.from_residual-in_err-earlier.ensures
    ∙ ap (option_map (λ earlier. (earlier, c.in_ok-op.op.now.now.number))) c.in_err-earlier.ensures
    ∙ sym (early_numbers-at (targets c.args.listed.now) c.in_ok-op.op.now.now (targets c.in_ok-op.later.now) part)

pub returns : goal.returns
returns c =
    let part : early_part (targets c.args.listed.now) ≡ c.in_ok-op.op.now.now ∷ targets c.in_ok-op.later.now =
    early_part-targets c.args.listed.now c.early_start-start.result (c.in_ok-op.op.now ∷ c.in_ok-op.later.now) c.early_start-start.ensures.part c.in_ok-op.ensures.cases.0 in
    ap (option_map (λ earlier. (earlier, c.in_ok-op.op.now.now.number))) c.in_ok-earlier.ensures
    ∙ sym (early_numbers-at (targets c.args.listed.now) c.in_ok-op.op.now.now (targets c.in_ok-op.later.now) part)
