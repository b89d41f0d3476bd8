use Rattle.hy_world.proofs.world.WorldOver.history.Goals as goal

pub returns : goal.returns
returns g c = c.in_ok-history.ensures
