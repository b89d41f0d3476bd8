use Rattle.std.proofs.Common.{ap, sym, subst, ◌∙◌, arith, ◌≤◌}
use Rattle.hy_base.specs.declared.limits.TheConstants.{MAX_VALUE}
use Rattle.hy_record.specs.declared.action.Action.{Action}
use Rattle.hy_record.specs.declared.cloud.CloudSay.{CloudSay}
use Rattle.hy_trace.specs.declared.step.Step.{Step}
use Rattle.hy_trace.specs.declared.step.Step.TheVariants as steps
use Rattle.hy_world.specs.Schedules.{first_step, IsWritable, HasTextValue}
use Rattle.hy_world.specs.Seats.{value_size}
use Rattle.hy_world.proofs.Doing.{first-same, first-does, first-by}
use Rattle.hy_world.proofs.simulation.effects_of.Goals as goal

small : (a : Action) → IsWritable a → value_size a ≤ MAX_VALUE
small a is = omega (arith, is)

pub invoke-requires : goal.invoke-requires
invoke-requires g c = small _ (subst HasTextValue c.in-Do.is c.requires)

pub returns-in-Join : goal.returns-in-Join
returns-in-Join g c = first-does g.row.M.Denot g.M.Meta.served g.M.Meta.given c.args.log.now c.args.event.now _ c.args.machines.now c.join.new.self c.join.result (ap first_step c.in-Join.is) c.join.ensures

pub returns-in-Do : goal.returns-in-Do
returns-in-Do g c = first-by g.row.M.Denot g.M.Meta.served g.M.Meta.given c.args.log.now c.args.event.now _ c.args.machines.now.service c.args.machines.now.nodes c.invoke.new.self c.invoke.result (ap first_step c.in-Do.is) c.invoke.ensures

pub returns-in-Invoke : goal.returns-in-Invoke
returns-in-Invoke g c = first-by g.row.M.Denot g.M.Meta.served g.M.Meta.given c.args.log.now c.args.event.now _ c.args.machines.now.service c.args.machines.now.nodes c.invoke-in-Invoke.new.self c.invoke-in-Invoke.result (ap first_step c.in-Invoke.is) c.invoke-in-Invoke.ensures

pub returns-in-Give : goal.returns-in-Give
returns-in-Give g c = first-same g.row.M.Denot g.M.Meta.served g.M.Meta.given c.args.log.now c.args.event.now _ c.args.machines.now c.give.new.machines c.give.result (ap first_step c.in-Give.is) c.give.ensures

pub returns-in_ok-say-in-Lie : goal.returns-in_ok-say-in-Lie
returns-in_ok-say-in-Lie g c =
    let told : (say : CloudSay) → Step = λ say. steps.Lie (record { client = c.in-Lie.client; op = c.in-Lie.op; cloud = c.in-Lie.cloud; key = c.in-Lie.key; stamp = c.in-Lie.stamp; say = say }) in
    first-by g.row.M.Denot g.M.Meta.served g.M.Meta.given c.args.log.now c.args.event.now _ c.args.machines.now.service c.args.machines.now.nodes c.lie.new.self c.lie.result (ap first_step c.in-Lie.is ∙ ap told (sym c.in_ok-say-in-Lie.ensures)) c.lie.ensures

pub returns-in-Tick : goal.returns-in-Tick
returns-in-Tick g c = first-by g.row.M.Denot g.M.Meta.served g.M.Meta.given c.args.log.now c.args.event.now _ c.args.machines.now.service c.args.machines.now.nodes c.tick.new.self c.tick.result (ap first_step c.in-Tick.is) c.tick.ensures

pub returns-in-Stop : goal.returns-in-Stop
returns-in-Stop g c = first-by g.row.M.Denot g.M.Meta.served g.M.Meta.given c.args.log.now c.args.event.now _ c.args.machines.now.service c.args.machines.now.nodes c.stop.new.self c.stop.result (ap first_step c.in-Stop.is) c.stop.ensures
