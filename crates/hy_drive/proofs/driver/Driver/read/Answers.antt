use Rattle.std.proofs.Common.{refl, sym, subst, ◌∙◌, Option}
use Rattle.hy_record.specs.declared.turn.Cue.{Cue}
use Rattle.hy_drive.specs.Held.{ReadsOn}
use Rattle.hy_drive.proofs.Taking.{service-fed, cloud-fed, cloud-answered}
use Rattle.hy_drive.proofs.driver.Driver.read.Goals as goal

pub returns-then-is_service : goal.returns-then-is_service
returns-then-is_service c = service-fed c.args.self.now (record c.args.self.now { service = c.feed.new.line }) c.args.conn c.args.piece.now
    (sym c.is_service.ensures ∙ c.if-is_service.true) c.in_ok-feed.ensures refl refl (record { client = refl; sends = refl })

pub returns-in_ok-push_back-in-Some : goal.returns-in_ok-push_back-in-Some
returns-in_ok-push_back-in-Some c = cloud-answered c.args.self.now (record c.args.self.now { lines = c.read.new.self; inputs = c.push_back.new.self }) c.args.conn c.args.piece.now c.in-Some.input
    (sym c.is_service.ensures ∙ c.if-is_service.false)
    (subst (λ (i : Option Cue). ReadsOn c.args.self.now.lines c.read.new.self c.args.conn c.args.piece.now i) c.in-Some.is c.in_ok-input.ensures)
    refl c.in_ok-push_back-in-Some.ensures.items (record { client = refl; sends = refl })

pub returns-in-None : goal.returns-in-None
returns-in-None c = cloud-fed c.args.self.now (record c.args.self.now { lines = c.read.new.self }) c.args.conn c.args.piece.now
    (sym c.is_service.ensures ∙ c.if-is_service.false)
    (subst (λ (i : Option Cue). ReadsOn c.args.self.now.lines c.read.new.self c.args.conn c.args.piece.now i) c.in-None.is c.in_ok-input.ensures)
    refl refl (record { client = refl; sends = refl })
