use Rattle.std.proofs.Common.{take}
use Rattle.hy_points.specs.Lookups.{setting_at}
use Rattle.hy_points.specs.Index.{AreFirsts}
use Rattle.hy_points.proofs.firsts.settings_of.Given as goal

abbrev pub invariant-loop-place : goal.invariant-loop-place
invariant-loop-place l = AreFirsts setting_at (take l.place l.points) l.settings.entries
