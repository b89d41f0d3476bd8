use Rattle.std.proofs.Common.{rules, inl, inr}
use Rattle.hy_world.proofs.Standing.{awaits-is, awaits-in}
use Rattle.hy_world.proofs.nodes.Nodes.awaits_reply.Goals as goal
use Rattle.hy_world.proofs.nodes.Nodes.awaits_reply.Goals.{then-client-eq0-via-then-client-eq0, then-client-eq0-via-else-client-eq0+then-client-len}

pub returns-then-client-eq0 : goal.returns-then-client-eq0
returns-then-client-eq0 c =
    let w = c.args.self.now in
    λ p t has r. absurd (awaits-in p t w.params w.seats.items w.clouds.items c.args.client (elim c.then-client-eq0.branch [ then-client-eq0-via-then-client-eq0 u ↦ inl (search rules) | then-client-eq0-via-else-client-eq0+then-client-len u ↦ inr (search rules) ]) has r)

pub returns : goal.returns
returns c =
    let w = c.args.self.now in
    λ p t has r. awaits-is p t w.seats.items c.args.client c.index.result.now (search rules) (search rules) c.index.ensures has r.standing c.is_running.result c.is_running.ensures
