use Rattle.std.proofs.Common.{◌≡◌, [], ◌∷◌, ◌++◌, take, ap, ◌∙◌, arith}
use Rattle.hy_log.specs.Points.{those_told}
use Rattle.hy_log.proofs.Timing.{told-same}
use Rattle.hy_log.proofs.points.acting_moments.Goals as goal

pub returns : goal.returns
returns c =
    let all : c.loop-moment.moment-index ≡ 3 = omega (arith, c.loop-moment-test.false, c.loop-moment.auto.moment-index-end) in
    c.loop-moment.invariant
    ∙ ap (λ n. c.push.new.self.items ++ those_told (take n (c.ask_moment.result ∷ c.set_moment.result ∷ c.end_moment.result ∷ []))) all
    ∙ ap (λ ms. ms ++ those_told (c.ask_moment.result ∷ c.set_moment.result ∷ c.end_moment.result ∷ [])) (c.in_ok-push.ensures.items ∙ ap (λ ms. ms ++ c.begin_moment.result ∷ []) c.new-own.ensures.items)
    ∙ told-same _ _ _ _ _ _ _ _ c.begin_moment.ensures c.ask_moment.ensures c.set_moment.ensures c.end_moment.ensures
