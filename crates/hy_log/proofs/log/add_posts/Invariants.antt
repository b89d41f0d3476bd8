use Rattle.std.proofs.Common.{◌≡◌, ◌++◌, map}
use Rattle.hy_log.specs.Log.{posted}
use Rattle.hy_log.proofs.log.add_posts.Given as goal

abbrev pub invariant-loop-post : goal.invariant-loop-post
invariant-loop-post l = l.posts.items ≡ l.fn.posts.items ++ map (posted l.step) l.yielded
