use Rattle.std.proofs.Common.{◌≢◌, refl}
use Rattle.std.proofs.lemmas.Result.{IfOk-weaker}
use Rattle.hy_mwire.specs.declared.fault.FrameFault.TheVariants.{NoMemory}
use Rattle.std.proofs.Common.{Some}
use Rattle.hy_drive.specs.Held.{StreamsOn}
use Rattle.hy_drive.proofs.Hearing.{streams-on, ok-fed, err-fed}
use Rattle.hy_drive.proofs.service_line.ServiceLine.feed.Goals as goal

pub returns-in-Ok : goal.returns-in-Ok
returns-in-Ok c =
    let fed = ok-fed c.feed.result c.in-Ok.field-0 c.in-Ok.is in
    streams-on c.args.self.now (record c.args.self.now { reader = c.feed.new.self }) c.args.piece.now refl (c.feed.ensures.after fed) (c.feed.ensures.stands fed)

pub returns-in-Err : goal.returns-in-Err
returns-in-Err c = IfOk-weaker c.unless_memory.result (λ done. c.in-Err.fault ≢ NoMemory)
    (λ done. StreamsOn (Some c.args.self.now) (Some (record c.args.self.now { reader = c.feed.new.self })) c.args.piece.now)
    (λ done other.
    let fed = err-fed c.feed.result c.in-Err.fault c.in-Err.is other in
    streams-on c.args.self.now (record c.args.self.now { reader = c.feed.new.self }) c.args.piece.now refl (c.feed.ensures.after fed) (c.feed.ensures.stands fed))
    c.unless_memory.ensures
