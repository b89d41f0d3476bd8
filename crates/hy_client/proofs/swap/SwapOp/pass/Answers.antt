use Rattle.std.proofs.Common.{refl}
use Rattle.hy_client.proofs.SwapSteps.{passed-replies, passed-sends}
use Rattle.hy_client.proofs.swap.SwapOp.pass.Goals as goal

pub returns-in-Some : goal.returns-in-Some
returns-in-Some c = passed-replies c.args.self.now _ c.args.cue.now c.in_ok-sends.field-0 c.in-Some.reply c.put_progress-progress.result c.replying.result (record { issuer = refl; seeks = refl; quorum = refl }) refl
    (record { does = c.in_ok-sends.ensures.turn; stands = c.in_ok-sends.ensures.ok }) c.in-Some.is c.put_progress-progress.ensures c.replying.ensures

pub returns-in-None : goal.returns-in-None
returns-in-None c = passed-sends c.args.self.now _ c.args.cue.now c.in_ok-sends.field-0 c.expecting-sends.result.items c.sending.result (record { issuer = refl; seeks = refl; quorum = refl }) refl
    (record { does = c.in_ok-sends.ensures.turn; stands = c.in_ok-sends.ensures.ok }) c.in-None.is
    c.expecting-sends.ensures c.sending.ensures
