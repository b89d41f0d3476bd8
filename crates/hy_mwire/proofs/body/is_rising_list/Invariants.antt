use Rattle.std.proofs.Common.{◌≡◌, ◌∷◌, drop}
use Rattle.hy_record.specs.Stamps.{is_rising}
use Rattle.hy_mwire.proofs.body.is_rising_list.Given as goal

abbrev pub invariant-loop-stamp : goal.invariant-loop-stamp
invariant-loop-stamp l = is_rising (l.last ∷ drop l.stamp-index l.others) ≡ is_rising l.stamps
