use Rattle.std.proofs.Common.{arith}
use Rattle.hy_world.proofs.Serving.{join-in, join-full, gave}
use Rattle.hy_world.proofs.machines.Machines.join.Goals as goal

pub add-requires : goal.add-requires
add-requires g c = let is = gave (g.M.Meta.given c.args.self.now.service) c.in-Ok.number c.in-Ok.ensures.id in omega (arith, is.1)

pub returns-in-Err : goal.returns-in-Err
returns-in-Err g c =
    let w = c.args.self.now in
    λ p t trace few r. join-full g.row.M.Denot g.M.Meta.served g.M.Meta.given p t w.service c.join.new.self w.nodes c.in-Err._full c.none-in-Err.result c.in-Err.ensures.id c.in-Err.ensures.given c.in-Err.ensures.same c.none-in-Err.ensures r

pub returns-in_ok-add-in-Ok : goal.returns-in_ok-add-in-Ok
returns-in_ok-add-in-Ok g c =
    let w = c.args.self.now in
    let seated = c.in_ok-add-in-Ok.ensures.seats in
    λ p t trace few r. join-in g.row.M.Denot g.M.Meta.served g.M.Meta.given p t w.service c.join.new.self w.nodes c.add.new.self c.in-Ok.number seated.0 c.none.result c.in-Ok.ensures.id c.in-Ok.ensures.given c.in-Ok.ensures.same seated.1 seated.2 c.in_ok-add-in-Ok.ensures.params c.in_ok-add-in-Ok.ensures.clouds c.none.ensures r
