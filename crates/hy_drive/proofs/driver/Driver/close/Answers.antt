use Rattle.std.proofs.Common.{refl, sym, ◌∙◌, None}
use Rattle.hy_drive.proofs.Taking.{service-closed, cloud-cut, cloud-ended}
use Rattle.hy_drive.proofs.driver.Driver.close.Goals as goal

pub returns-then-is_service : goal.returns-then-is_service
returns-then-is_service c = service-closed c.args.self.now (record c.args.self.now { service = None }) c.args.conn
    (sym c.is_service.ensures ∙ c.if-is_service.true) refl refl refl (record { client = refl; sends = refl })

pub returns-in_ok-push_back-in-Some : goal.returns-in_ok-push_back-in-Some
returns-in_ok-push_back-in-Some c = cloud-cut c.args.self.now (record c.args.self.now { lines = c.take.new.self; inputs = c.push_back.new.self }) c.args.conn c.in-Some.input
    (sym c.is_service.ensures ∙ c.if-is_service.false) c.in-Some.ensures
    refl c.in_ok-push_back-in-Some.ensures.items (record { client = refl; sends = refl })

pub returns-in-None : goal.returns-in-None
returns-in-None c = cloud-ended c.args.self.now (record c.args.self.now { lines = c.take.new.self }) c.args.conn
    (sym c.is_service.ensures ∙ c.if-is_service.false) c.in-None.ensures
    refl refl (record { client = refl; sends = refl })
