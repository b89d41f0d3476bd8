use Rattle.std.proofs.Common.{◌≡◌, All, map}
use Rattle.hy_mwire.specs.declared.message.Message.TheVariants as messages
use Rattle.hy_mwire.specs.Frames.{frames_of}
use Rattle.hy_mwire.specs.Message.{IsFramedSay}
use Rattle.hy_journal.proofs.kept.frames_of_says.Given as goal

abbrev pub invariant-loop-say : goal.invariant-loop-say
invariant-loop-say l = (l.frames.items ≡ frames_of (map messages.Say l.yielded)) × All IsFramedSay l.say-iterator.rest.items
