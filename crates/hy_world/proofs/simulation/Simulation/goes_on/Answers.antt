use Rattle.std.proofs.Common.{rules, sym, ◌∙◌}
use Rattle.hy_trace.specs.Schedule.{trace_of}
use Rattle.hy_world.proofs.Doing.{goes-on-then, goes-on-else, sent-count}
use Rattle.hy_world.proofs.simulation.Simulation.goes_on.Goals as goal

pub returns-then-awaits_reply : goal.returns-then-awaits_reply
returns-then-awaits_reply g c = λ p run has r.
    goes-on-then p c.args.client c.args.number _ run c.awaits_reply.result (sym c.if-awaits_reply.true) (c.awaits_reply.ensures p (trace_of p run) has r.machines_stand.nodes_stand)
    (let count = sent-count p (trace_of p run) c.args.self.now.log r.log_keeps in search rules)

pub returns-else-awaits_reply : goal.returns-else-awaits_reply
returns-else-awaits_reply g c = λ p run has r.
    c.if-awaits_reply.false ∙ goes-on-else p c.args.client c.args.number run c.awaits_reply.result (sym c.if-awaits_reply.false) (c.awaits_reply.ensures p (trace_of p run) has r.machines_stand.nodes_stand)
