use Rattle.std.proofs.Common.{◌≡◌, map}
use Rattle.hy_trace.specs.Messages.{Say}
use Rattle.hy_log.specs.Effects.{post_of}
use Rattle.hy_log.proofs.post.posts_of_says.Given as goal

abbrev pub invariant-loop-say : goal.invariant-loop-say
invariant-loop-say l = l.posts.items ≡ map post_of (map Say l.yielded)
