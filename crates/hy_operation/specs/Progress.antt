-- How far an operation is, as it tells it.
use Rattle.std.specs.Prelude.{◌≡◌}
use Rattle.hy_protocol.specs.Progress as protocol
use Rattle.hy_operation.specs.declared.progress.Progress as told

-- what is told is how far the operation is
pub record Tells (told : told.Progress) (is : protocol.Progress) : Type 0 where
  pub phase : told.phase ≡ is.phase
  pub have : told.have ≡ is.have
  pub need : told.need ≡ is.need
