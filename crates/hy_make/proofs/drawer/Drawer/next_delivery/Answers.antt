use Rattle.std.proofs.Common.{ap, sym, ◌∙◌}
use Rattle.hy_sched.specs.declared.event.Event.TheVariants.{Give}
use Rattle.hy_make.specs.declared.drawer.Drawer.{Drawer}
use Rattle.hy_make.proofs.Drawn.{delivers-passed}
use Rattle.hy_make.proofs.drawer.Drawer.next_delivery.Goals as goal

pub returns-then-pass-clause-event : goal.returns-then-pass-clause-event
returns-then-pass-clause-event c =
    ap (λ (drawer : Drawer). Give drawer.cursor) c.pass.ensures.after
    ∙ delivers-passed c.args.sent c.args.self.now c.timeout-timeout.new.self (sym c.pass.ensures.passes ∙ c.if-pass.true) c.timeout-timeout.ensures.cursor
