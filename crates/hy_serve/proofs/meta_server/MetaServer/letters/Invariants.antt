use Rattle.std.proofs.Common.{◌≡◌, All}
use Rattle.hy_mwire.specs.Message.{IsFramedSay}
use Rattle.hy_serve.specs.MetaRole.{letters_for}
use Rattle.hy_serve.specs.MetaStanding.{home_of, requests_for}
use Rattle.hy_serve.proofs.meta_server.MetaServer.letters.Given as goal

abbrev pub invariant-loop-say : goal.invariant-loop-say
invariant-loop-say l = All IsFramedSay l.yielded → requests_for l.letters.items ≡ letters_for (home_of l.self) l.yielded
