use Rattle.std.proofs.Common.{◌≡◌, ◌∙◌, ap, map, arith, ℕ, ◌≤◌}
use Rattle.std.specs.List.{range_with_len}
use Rattle.hy_code.specs.Fragments.{part_of, parts_of}
use Rattle.hy_code.proofs.Ranges.{pushed}
use Rattle.hy_code.proofs.parts.parts.Goals as goal

pub loop-number-preserved : goal.loop-number-preserved
loop-number-preserved c =
    pushed (part_of c.args.value.now c.fragment_size-size.result) c.loop-number.number c.loop-number.parts.items _ c.in_ok-part.field-0
    c.loop-number.invariant c.in_ok-push.ensures.items c.in_ok-part.ensures

same : (a b : ℕ) → a ≤ b → b ≤ a → a ≡ b
same a b low high = omega arith

pub returns : goal.returns
unfolding parts_of
returns c =
    c.loop-number.invariant
    ∙ ap (λ n. map (part_of c.args.value.now c.fragment_size-size.result) (range_with_len 0 n)) (same c.loop-number.number c.args.k c.loop-number.auto.number-end c.loop-number-test.false)
    ∙ ap (λ size. map (part_of c.args.value.now size) (range_with_len 0 c.args.k)) c.fragment_size-size.ensures
