use Rattle.std.proofs.Common.{◌∙◌, ap, Option}
use Rattle.hy_record.specs.Record.{RecordValue}
use Rattle.hy_trace.specs.Deeds.{served}
use Rattle.hy_trace.specs.Held.{held_with}
use Rattle.hy_world.proofs.machines.Machines.held.Goals as goal

pub returns-in-Some : goal.returns-in-Some
returns-in-Some g c = λ p t r. c.held_by.ensures p t r.nodes_stand ∙ ap (λ (o : Option RecordValue). held_with p t c.args.key.now o) (c.in-Some.ensures (served t) r.serving)

pub returns-in-None : goal.returns-in-None
returns-in-None g c = λ p t r. ap (λ (o : Option RecordValue). held_with p t c.args.key.now o) (c.in-None.ensures (served t) r.serving)
