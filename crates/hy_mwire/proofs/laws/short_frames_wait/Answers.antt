use Rattle.hy_mwire.proofs.Fronts.{partial_front, few_front}
use Rattle.hy_mwire.proofs.laws.short_frames_wait.Goals as goal

pub returns : goal.returns
returns c = λ place bytes. (partial_front place bytes, few_front place bytes)
