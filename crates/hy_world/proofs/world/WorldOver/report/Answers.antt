use Rattle.hy_world.proofs.world.WorldOver.report.Goals as goal

pub returns : goal.returns
returns g c = c.in_ok-report.ensures
