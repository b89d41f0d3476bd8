-- What `write_front` leaves behind the text are the zeros that stood there.
use Rattle.std.proofs.lemmas.List.{drop-replicate}
use Rattle.hy_record.proofs.key.padded.Goals as goal

pub returns : goal.returns
returns c = rw (c.write_front.ensures, drop-replicate)
