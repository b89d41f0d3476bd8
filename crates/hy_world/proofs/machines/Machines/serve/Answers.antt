use Rattle.std.proofs.Common.{refl, ◌∙◌}
use Rattle.hy_world.proofs.Serving.{serving}
use Rattle.hy_world.proofs.machines.Machines.serve.Goals as goal

pub returns : goal.returns
returns g c =
    let w = c.args.self.now in
    λ p t trace few r.
    serving g.row.M.Denot g.M.Meta.served g.M.Meta.given p t w.service c.serve.new.self w.nodes c.args.ask.now c.in_ok-says.says.items c.updated_by-updated.result _
    c.in_ok-says.ensures.ok c.in_ok-says.ensures.says c.in_ok-says.ensures.given (λ asks is. c.updated_by-updated.ensures asks (c.attempted_by-attempted.ensures asks is) (c.deref.ensures.value ∙ c.in_ok-says.ensures.says asks is)) c.in_ok-posts.ensures refl refl refl refl r
