use Rattle.std.proofs.Common.{refl, ◌∙◌}
use Rattle.hy_drive.proofs.driver.Driver.after_sends.Goals as goal

pub returns-in-Some : goal.returns-in-Some
returns-in-Some c = λ state free sent stands.
    c.hand.ensures c.args.job.now c.requires.shape state c.pop_front.new.self.items free sent (stands.inputs ∙ c.in-Some.ensures.items)
    (record { service = stands.service; lines = stands.lines; client = stands.client; sends = stands.sends; inputs = refl; sendable = stands.sendable })
