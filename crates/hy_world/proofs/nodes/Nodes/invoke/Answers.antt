use Rattle.std.proofs.Common.{rules, inl, inr, refl, ap, Some, arith}
use Rattle.hy_record.specs.declared.action.Action.{Action}
use Rattle.hy_trace.specs.Deeds.{Nothing}
use Rattle.hy_trace.specs.declared.step.Step.TheVariants as steps
use Rattle.hy_trace.specs.Schedule.{deed_of}
use Rattle.hy_world.proofs.Standing.{invoking, refusing, does-other, invoke-out, not-many}
use Rattle.hy_world.proofs.nodes.Nodes.invoke.Goals as goal
use Rattle.hy_world.proofs.nodes.Nodes.invoke.Goals.{then-client-eq0-via-then-client-eq0, then-client-eq0-via-else-client-eq0+then-client-len}

pub returns-then-client-eq0 : goal.returns-then-client-eq0
returns-then-client-eq0 c =
    let w = c.args.self.now in
    does-other (λ p t. Nothing) (λ p t. deed_of p (steps.Invoke c.args.client c.args.action.now) t) w w c.rest.result
    (λ p t few r. invoke-out c.args.client c.args.action.now p t w (elim c.then-client-eq0.branch [ then-client-eq0-via-then-client-eq0 u ↦ inl (search rules) | then-client-eq0-via-else-client-eq0+then-client-len u ↦ inr (search rules) ]) r)
    c.rest.ensures

pub returns-then-begun : goal.returns-then-begun
returns-then-begun c =
    let w = c.args.self.now in
    does-other (λ p t. Nothing) (λ p t. deed_of p (steps.Invoke c.args.client c.args.action.now) t) w w c.rest-then-begun.result
    (λ p t few r. (let most = not-many p t w.seats.items c.args.client c.begun.result c.index.result.now (search rules) (search rules) c.index.ensures c.begun.ensures.session few r.standing in absurd (omega (arith, c.if-begun.true))))
    c.rest-then-begun.ensures

pub returns-in_ok-action-in-Some : goal.returns-in_ok-action-in-Some
returns-in_ok-action-in-Some c =
    let w = c.args.self.now in
    λ p t trace few r.
    invoking p t w.params w.seats.items w.clouds.items c.args.client c.args.action.now c.index_mut-seat.result.now c.begin.new.self c.in-Some.outs.items c.begun-op.result _
    (search rules) (search rules) c.index_mut-seat.ensures.value trace
    (record { idle = rw c.in-Some.is at c.in_ok-sent.ensures.idle; after = rw c.in-Some.is at c.in_ok-sent.ensures.begins; sends = rw c.in-Some.is at c.in_ok-sent.ensures.sends; number = c.begun-op.ensures.session })
    c.in_ok-posts-in-Some.ensures (ap (λ (a : Action). Some (record { client = c.args.client; op = c.begun-op.result; action = a })) c.in_ok-action-in-Some.ensures) refl refl refl r

pub returns-in-None : goal.returns-in-None
returns-in-None c =
    let w = c.args.self.now in
    λ p t trace few r.
    refusing p t w.params w.seats.items w.clouds.items c.args.client c.args.action.now c.index_mut-seat.result.now c.begin.new.self _
    (search rules) (search rules) c.index_mut-seat.ensures.value (rw c.in-None.is at c.in_ok-sent.ensures.idle) (rw c.in-None.is at c.in_ok-sent.ensures.begins)
    c.none.ensures r
