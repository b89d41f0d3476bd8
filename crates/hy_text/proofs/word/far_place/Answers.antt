use Rattle.hy_text.proofs.Places.{first_place}
use Rattle.hy_text.proofs.word.far_place.Goals as goal

pub returns : goal.returns
returns c = first_place c.args.separator c.args.bytes.now c.memchr.result c.memchr.ensures
