use Rattle.std.proofs.Common.{refl, ◌∙◌, ap}
use Rattle.hy_record.specs.Clouds.{clouds_of}
use Rattle.hy_get.proofs.Since.{awaits-start}
use Rattle.hy_get.proofs.fetch.Fetch.new.Goals as goal

pub returns-clause-awaits : goal.returns-clause-awaits
returns-clause-awaits c = awaits-start _ (c.in_ok-holders.ensures ∙ ap clouds_of c.clouds.ensures) c.new.ensures.items c.none.ensures refl refl
