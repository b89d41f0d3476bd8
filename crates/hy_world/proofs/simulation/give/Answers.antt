use Rattle.std.proofs.Common.{ℕ, Some, sym, subst, ◌∙◌}
use Rattle.hy_trace.specs.declared.step.Step.TheVariants as steps
use Rattle.hy_trace.specs.Deeds.{Nothing}
use Rattle.hy_trace.specs.Schedule.{delivery, deed_of}
use Rattle.hy_world.specs.Machines.{MachinesDo}
use Rattle.hy_world.proofs.Serving.{lift}
use Rattle.hy_world.proofs.Doing.{gives, gives-none, does-by}
use Rattle.hy_world.proofs.simulation.give.Goals as goal

pub returns-in-Some : goal.returns-in-Some
returns-in-Some g c =
    gives g.row.M.Denot g.M.Meta.served g.M.Meta.given c.args.log.now c.args.number c.in-Some.kept.now c.args.machines.now c.deliver.new.self c.deliver.result c.in-Some.ensures
    (λ message is. subst (λ (n : ℕ). MachinesDo g.M.Meta.served g.M.Meta.given (λ p t. delivery p t n (Some message)) c.args.machines.now c.deliver.new.self c.deliver.result) c.step.ensures (c.deliver.ensures message (is ∙ sym c.post.ensures)))

pub returns-in-None : goal.returns-in-None
returns-in-None g c =
    let w = c.args.machines.now in
    does-by g.row.M.Denot g.M.Meta.served g.M.Meta.given c.args.log.now (λ p t. Nothing) (λ p t. deed_of p (steps.Give c.args.number) t) w w c.rest.result
    (λ p t k. gives-none c.args.log.now c.args.number p t c.in-None.ensures k) (lift g.row.M.Denot g.M.Meta.served g.M.Meta.given (λ p t. Nothing) w.service w.nodes w.nodes c.rest.result c.rest.ensures)
