use Rattle.std.proofs.Common.{◌∙◌, sym}
use Rattle.hy_code.proofs.Sums.{same_from_sum}
use Rattle.hy_code.proofs.polynomials.scale.Goals as goal

pub over-scale-requires : goal.over-scale-requires
over-scale-requires c none =
    c.if-pick-cloud.true
    (sym c.of-place.ensures.same
    ∙ sym (same_from_sum c.of-at.result c.of-place.result (sym c.plus.ensures.sum ∙ none))
    ∙ c.of-at.ensures.same)
