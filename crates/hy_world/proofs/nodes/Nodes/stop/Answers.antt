use Rattle.std.proofs.Common.{rules, inl, inr}
use Rattle.hy_trace.specs.Deeds.{Nothing}
use Rattle.hy_trace.specs.declared.step.Step.TheVariants as steps
use Rattle.hy_trace.specs.Schedule.{deed_of}
use Rattle.hy_world.proofs.Standing.{stopping, does-other, stop-out}
use Rattle.hy_world.proofs.nodes.Nodes.stop.Goals as goal
use Rattle.hy_world.proofs.nodes.Nodes.stop.Goals.{then-client-eq0-via-then-client-eq0, then-client-eq0-via-else-client-eq0+then-client-len}

pub returns-then-client-eq0 : goal.returns-then-client-eq0
returns-then-client-eq0 c =
    let w = c.args.self.now in
    does-other (λ p t. Nothing) (λ p t. deed_of p (steps.Stop c.args.client) t) w w c.rest.result
    (λ p t few r. stop-out c.args.client p t w (elim c.then-client-eq0.branch [ then-client-eq0-via-then-client-eq0 u ↦ inl (search rules) | then-client-eq0-via-else-client-eq0+then-client-len u ↦ inr (search rules) ]) r)
    c.rest.ensures

pub returns : goal.returns
returns c =
    let w = c.args.self.now in
    λ p t trace few r. stopping p t w.params w.seats.items w.clouds.items c.args.client c.index_mut.result.now c.stop.new.self c.none.result (search rules) (search rules) c.index_mut.ensures.value c.stop.ensures c.none.ensures r
