use Rattle.std.proofs.Common.{refl}
use Rattle.hy_base.proofs.Taking.{ReadConsumes-front}
use Rattle.hy_base.proofs.memory_source.BytesInSource.read.Goals as goal

pub returns-clause-takes : goal.returns-clause-takes
returns-clause-takes c =
    rw (← c.self.view_is, ← c.bytes.ensures)
    (ReadConsumes-front c.bytes.result.now c.args.buf.now c.copy_from_slice.new.self c.self.inside.at c.self.inside.cut c.min-count.result
    (rw c.bytes.ensures c.self.invariant.0) c.self.invariant.1 (rw (c.min-count.ensures, c.min.ensures) refl) c.copy_from_slice.ensures.after)
