use Rattle.std.proofs.Common.{None, sym, subst, take}
use Rattle.std.proofs.lemmas.Result.{IfOk-weaker}
use Rattle.hy_base.specs.declared.arrival.Arrival.{Arrival}
use Rattle.hy_base.specs.Moves.{came}
use Rattle.hy_serve.specs.CloudRole.{CloudState, IsIdle, opened, closed}
use Rattle.hy_serve.specs.CloudStanding.{StandsFor, Reacts, Replies, IsSome}
use Rattle.hy_serve.proofs.Reacting.{set-stands, reacts-opened, reacts-closed, reacts-quiet, bytes-came}
use Rattle.hy_serve.proofs.cloud_server.CloudServer.react.Goals as goal

pub returns-in_ok-open-in-Opened-clause-reacts : goal.returns-in_ok-open-in-Opened-clause-reacts
returns-in_ok-open-in-Opened-clause-reacts c = λ state idle stands.
    subst (λ (a : Arrival). Reacts state (came a c.args.buf.now) c.open.new.self None) (sym c.in-Opened.is)
    (reacts-opened c.args.self.now c.open.new.self state c.in-Opened.conn idle stands c.in_ok-open-in-Opened.ensures)

pub returns-in_ok-open-in-Opened-clause-stands : goal.returns-in_ok-open-in-Opened-clause-stands
returns-in_ok-open-in-Opened-clause-stands c =
    (_, set-stands c.args.self.now c.open.new.self c.requires.stands.0 c.in-Opened.conn opened c.requires.stands.1 c.in_ok-open-in-Opened.ensures)

pub returns-in_ok-reading-in-Bytes-clause-reacts : goal.returns-in_ok-reading-in-Bytes-clause-reacts
returns-in_ok-reading-in-Bytes-clause-reacts c = IfOk-weaker c.answer.result
    (Replies c.read.new.self c.answer.new.self c.in-Bytes.conn c.in_ok-reading-in-Bytes.reading)
    (λ answer. (state : CloudState) → IsIdle state → StandsFor c.args.self.now state → Reacts state (came c.args.arrival c.args.buf.now) c.answer.new.self answer)
    (λ answer replies state idle stands.
    subst (λ (a : Arrival). Reacts state (came a c.args.buf.now) c.answer.new.self answer) (sym c.in-Bytes.is)
    ((bytes-came c.args.self.now c.read.new.self c.answer.new.self state c.in-Bytes.conn (take c.in-Bytes.count c.args.buf.now) c.in_ok-reading-in-Bytes.reading answer stands c.in_ok-reading-in-Bytes.ensures replies).reacts idle))
    c.answer.ensures

pub returns-in_ok-reading-in-Bytes-clause-stands : goal.returns-in_ok-reading-in-Bytes-clause-stands
returns-in_ok-reading-in-Bytes-clause-stands c = IfOk-weaker c.answer.result
    (Replies c.read.new.self c.answer.new.self c.in-Bytes.conn c.in_ok-reading-in-Bytes.reading)
    (λ answer. IsSome c.answer.new.self)
    (λ answer replies.
    let behind = bytes-came c.args.self.now c.read.new.self c.answer.new.self c.requires.stands.0 c.in-Bytes.conn (take c.in-Bytes.count c.args.buf.now) c.in_ok-reading-in-Bytes.reading answer c.requires.stands.1 c.in_ok-reading-in-Bytes.ensures replies in
    (behind.after, behind.stands))
    c.answer.ensures

pub returns-in-Closed-clause-reacts : goal.returns-in-Closed-clause-reacts
returns-in-Closed-clause-reacts c = λ state idle stands.
    subst (λ (a : Arrival). Reacts state (came a c.args.buf.now) c.close.new.self None) (sym c.in-Closed.is)
    (reacts-closed c.args.self.now c.close.new.self state c.in-Closed.conn idle stands c.close.ensures)

pub returns-in-Closed-clause-stands : goal.returns-in-Closed-clause-stands
returns-in-Closed-clause-stands c =
    (_, set-stands c.args.self.now c.close.new.self c.requires.stands.0 c.in-Closed.conn closed c.requires.stands.1 c.close.ensures)

pub returns-in-Quiet-clause-reacts : goal.returns-in-Quiet-clause-reacts
returns-in-Quiet-clause-reacts c = λ state idle stands.
    subst (λ (a : Arrival). Reacts state (came a c.args.buf.now) c.args.self.now None) (sym c.in-Quiet.is)
    (reacts-quiet c.args.self.now state idle stands)
