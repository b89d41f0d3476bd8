use Rattle.std.proofs.Common.{arith, w8, Fits}
use Rattle.std.proofs.lemmas.Simd.{Each1-get_or}
use Rattle.hy_gf.proofs.LaneLemmas.{lanes_doubled}
use Rattle.hy_gf.proofs.lanes.doubled_lanes.Goals as goal

pub returns : goal.returns
returns c =
    lanes_doubled c.args.lanes c.fits-lanes.0
    (λ k l. (Each1-get_or (Fits w8) c.args.lanes k 0 (omega (arith, c.fits-lanes.0)) c.fits-lanes.1).fits)
