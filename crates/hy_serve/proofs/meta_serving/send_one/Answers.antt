use Rattle.hy_base.proofs.Adding.{Adds-more, Adds-weaken}
use Rattle.std.proofs.Common.{sym}
use Rattle.hy_base.specs.Moves.{called, close}
use Rattle.hy_serve.proofs.MetaSends.{sends-done, sends-failed}
use Rattle.hy_serve.proofs.meta_serving.send_one.Goals as goal

pub returns-in-Ok-clause-plays : goal.returns-in-Ok-clause-plays
returns-in-Ok-clause-plays g c = Adds-weaken g.N.Net.told g.N.Net.tells c.args.net.now c.send.new.self _ _ c.in-Ok.ensures.tells
    (λ moves is. sends-done c.args.server.now c.args.letter.now c.bytes.result.now moves (sym c.if-not-is_open.ensures) c.bytes.ensures is)

pub returns-in-Err-clause-plays : goal.returns-in-Err-clause-plays
returns-in-Err-clause-plays g c = Adds-more g.N.Net.told g.N.Net.tells c.args.net.now c.send.new.self c.close-in-Err.new.self _ _ (called (close c.args.letter.now.conn))
    c.in-Err.ensures.tells c.close-in-Err.ensures.tells
    (λ moves is. sends-failed c.args.server.now c.close.new.self c.args.letter.now c.bytes.result.now moves (sym c.if-not-is_open.ensures) c.close.ensures c.bytes.ensures is)
