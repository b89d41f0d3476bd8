use Rattle.hy_mwire.proofs.Fronts.{frames-apart}
use Rattle.hy_mwire.proofs.laws.frames_are_apart.Goals as goal

pub returns : goal.returns
returns c = frames-apart
