use Rattle.std.proofs.Common.{◌≡◌, ◌≤◌, ℕ, ◌∙◌, ap, take, arith}
use Rattle.std.specs.List.{flat_map, range_with_len}
use Rattle.hy_code.specs.Fragments.{rebuilt_value, row_at}
use Rattle.hy_code.proofs.Ranges.{joined}
use Rattle.hy_code.proofs.rebuilding.parts_joined.Goals as goal

pub loop-part-preserved : goal.loop-part-preserved
loop-part-preserved c =
    let row = row_at c.fragment_size-fragment_size.result in
    let through = c.in_ok-polynomials.ensures in
    let view = c.polynomials.view_is in
    joined (row c.args.picks.now) c.loop-part.part c.loop-part.value.items c.append_part.new.value.items _
    c.loop-part.invariant c.in_ok-append_part.ensures cc

same : (a b : ℕ) → a ≤ b → b ≤ a → a ≡ b
same a b low high = omega arith

pub returns : goal.returns
unfolding rebuilt_value
returns c =
    c.truncate.ensures.items
    ∙ ap (take c.args.size)
    (c.loop-part.invariant
    ∙ ap (λ n. flat_map (row_at c.fragment_size-fragment_size.result c.args.picks.now) (range_with_len 0 n)) (same c.loop-part.part c.args.k c.loop-part.auto.part-end c.loop-part-test.false)
    ∙ ap (λ size. flat_map (row_at size c.args.picks.now) (range_with_len 0 c.args.k)) c.fragment_size-fragment_size.ensures)
