use Rattle.hy_mwire.proofs.Fronts.{front-frame, message_front}
use Rattle.hy_mwire.proofs.laws.frames_are_read_back.Goals as goal

pub returns-clause-again : goal.returns-clause-again
returns-clause-again c = front-frame

pub returns-clause-only : goal.returns-clause-only
returns-clause-only c = message_front
