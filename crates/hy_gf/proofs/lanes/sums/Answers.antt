use Rattle.std.proofs.Common.{get_or}
use Rattle.std.specs.Int.Bits.{bit_xor}
use Rattle.hy_gf.proofs.LaneLemmas.{lanes_of, zipped}
use Rattle.hy_gf.proofs.lanes.sums.Goals as goal

pub returns : goal.returns
returns c =
    zipped bit_xor c.args.a c.args.b (λ k. get_or c.args.a k 0) (λ k. get_or c.args.b k 0)
    (lanes_of c.args.a c.fits-a.0) (lanes_of c.args.b c.fits-b.0)
