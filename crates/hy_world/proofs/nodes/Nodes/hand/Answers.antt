use Rattle.std.proofs.Common.{rules, inl, inr, refl, ap, ◌∙◌, List, map}
use Rattle.hy_record.specs.declared.turn.Out.{Out}
use Rattle.hy_trace.specs.Deeds.{Nothing}
use Rattle.hy_trace.specs.Messages.{message_of}
use Rattle.hy_trace.specs.Schedule.{hand}
use Rattle.hy_world.proofs.Standing.{hands, does-other, hand-out}
use Rattle.hy_log.specs.Effects.{post_of}
use Rattle.hy_world.proofs.nodes.Nodes.hand.Goals as goal
use Rattle.hy_world.proofs.nodes.Nodes.hand.Goals.{then-client-eq0-via-then-client-eq0, then-client-eq0-via-else-client-eq0+then-client-len}

pub returns-then-client-eq0 : goal.returns-then-client-eq0
returns-then-client-eq0 c =
    let w = c.args.self.now in
    does-other (λ p t. Nothing) (λ p t. hand p c.args.client c.args.made c.args.cue.now t) w w c.rest.result
    (λ p t few r. hand-out c.args.client c.args.made c.args.cue.now p t w (elim c.then-client-eq0.branch [ then-client-eq0-via-then-client-eq0 u ↦ inl (search rules) | then-client-eq0-via-else-client-eq0+then-client-len u ↦ inr (search rules) ]) r)
    c.rest.ensures

pub returns : goal.returns
returns c =
    let w = c.args.self.now in
    λ p t trace few r.
    hands p t w.params w.seats.items w.clouds.items c.args.client c.args.made c.args.cue.now c.index_mut-seat.result.now c.hand.new.self c.begun-op.result c.in_ok-turn.turn c.hears-heard.result _
    (search rules) (search rules) c.index_mut-seat.ensures.value
    (record { after = c.in_ok-turn.ensures.ok; turn_is = c.in_ok-turn.ensures.turn; number = c.begun-op.ensures.session; hears = c.hears-heard.ensures })
    (c.in_ok-posts.ensures ∙ ap (λ (o : List Out). map post_of (map message_of o)) c.into_items-outs.ensures) refl c.return_of-returned.ensures refl refl r
