use Rattle.std.proofs.Common.{refl}
use Rattle.hy_protocol.specs.Cloud.{bytes_held}
use Rattle.hy_cloud.specs.Objects.{held_in}
use Rattle.hy_cloud.proofs.cloud.Cloud.new.Goals as goal

pub returns : goal.returns
unfolding held_in bytes_held
returns c key stamp = let empty = c.new.ensures.empty in rw empty refl
