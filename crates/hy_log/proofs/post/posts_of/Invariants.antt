use Rattle.std.proofs.Common.{◌≡◌, map}
use Rattle.hy_trace.specs.Messages.{message_of}
use Rattle.hy_log.specs.Effects.{post_of}
use Rattle.hy_log.proofs.post.posts_of.Given as goal

abbrev pub invariant-loop-out : goal.invariant-loop-out
invariant-loop-out l = l.posts.items ≡ map post_of (map message_of l.yielded)
