use Rattle.hy_journal.proofs.Requesting.{one, sound, place}
use Rattle.hy_journal.proofs.laws.requests_are_read_in_one_way.Goals as goal

pub returns : goal.returns
returns c = record {
  one = one c.frames_are_apart.ensures;
  sound = sound c.frames_are_apart.ensures;
  place = place c.frames_are_apart.ensures;
}
