use Rattle.hy_get.proofs.Refreshes.{refreshes-once, refreshes-below-versions}
use Rattle.hy_get.proofs.laws.gets_refresh_once.Goals as goal

pub returns-clause-version : goal.returns-clause-version
returns-clause-version c = refreshes-once

pub returns-clause-all : goal.returns-clause-all
returns-clause-all c = refreshes-below-versions
