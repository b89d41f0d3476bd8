use Rattle.std.proofs.Common.{Ok, subst}
use Rattle.std.proofs.lemmas.Result.{err_from_is_err_and}
use Rattle.hy_base.proofs.Adding.{Adds-none, Adds-weaken}
use Rattle.hy_drive.specs.declared.driver.Next.{Next}
use Rattle.hy_drive.proofs.Rounds.{Follow, goes-refused, goes-again, goes-idle, goes-replied, goes-sent, goes-unsent, some-sends}
use Rattle.hy_drive.proofs.settling.go.Goals as goal

pub returns-in_err-out-clause-plays : goal.returns-in_err-out-clause-plays
returns-in_err-out-clause-plays g c =
    let p = err_from_is_err_and c.from_residual.result c.from_residual.ensures.1 in
    rw (p.1, p.2) (Adds-none g.N.Net.told g.N.Net.tells c.args.net.now _
    (goes-refused c.args.job.now c.args.driver.now c.next.new.self c.in_err-out.field-0.0 c.in_err-out.ensures))

pub returns-in_err-send_out-in-Send-clause-plays : goal.returns-in_err-send_out-in-Send-clause-plays
returns-in_err-send_out-in-Send-clause-plays g c =
    let p = err_from_is_err_and c.from_residual-in_err-send_out-in-Send.result c.from_residual-in_err-send_out-in-Send.ensures.1 in
    let follow = subst (λ (n : Next). Follow c.args.job.now c.args.driver.now c.next.new.self (Ok n)) c.in-Send.is c.in_ok-out.ensures in
    rw (p.1, p.2) (Adds-weaken g.N.Net.told g.N.Net.tells c.args.net.now c.send_out.new.net _ _ c.in_err-send_out-in-Send.ensures.plays
    (λ moves sends. goes-unsent c.args.job.now c.args.driver.now c.next.new.self c.send_out.new.driver c.in-Send.out c.in_err-send_out-in-Send.field-0.0 moves follow sends))

pub returns-in_err-send_out-in-Send-clause-sound : goal.returns-in_err-send_out-in-Send-clause-sound
returns-in_err-send_out-in-Send-clause-sound g c =
    let p = err_from_is_err_and c.from_residual-in_err-send_out-in-Send.result c.from_residual-in_err-send_out-in-Send.ensures.1 in
    rw (p.1, p.2) c.in_err-send_out-in-Send.ensures.large

pub returns-in_ok-send_out-in-Send-clause-plays : goal.returns-in_ok-send_out-in-Send-clause-plays
returns-in_ok-send_out-in-Send-clause-plays g c =
    let follow = subst (λ (n : Next). Follow c.args.job.now c.args.driver.now c.next.new.self (Ok n)) c.in-Send.is c.in_ok-out.ensures in
    Adds-weaken g.N.Net.told g.N.Net.tells c.args.net.now c.send_out.new.net _ _ c.in_ok-send_out-in-Send.ensures.plays
    (λ moves sends. goes-sent c.args.job.now c.args.driver.now c.next.new.self c.send_out.new.driver c.in-Send.out moves tt follow sends)

pub returns-in_ok-send_out-in-Send-clause-sound : goal.returns-in_ok-send_out-in-Send-clause-sound
returns-in_ok-send_out-in-Send-clause-sound g c =
    let follow = subst (λ (n : Next). Follow c.args.job.now c.args.driver.now c.next.new.self (Ok n)) c.in-Send.is c.in_ok-out.ensures in
    c.in_ok-send_out-in-Send.ensures.stands (some-sends c.args.job.now c.args.driver.now c.next.new.self c.in-Send.out follow c.requires.stands)

pub returns-in-Again-clause-plays : goal.returns-in-Again-clause-plays
returns-in-Again-clause-plays g c = Adds-none g.N.Net.told g.N.Net.tells c.args.net.now _
    (goes-again c.args.job.now c.args.driver.now c.next.new.self (subst (λ (n : Next). Follow c.args.job.now c.args.driver.now c.next.new.self (Ok n)) c.in-Again.is c.in_ok-out.ensures))

pub returns-in-Idle-clause-plays : goal.returns-in-Idle-clause-plays
returns-in-Idle-clause-plays g c = Adds-none g.N.Net.told g.N.Net.tells c.args.net.now _
    (goes-idle c.args.job.now c.args.driver.now c.next.new.self (subst (λ (n : Next). Follow c.args.job.now c.args.driver.now c.next.new.self (Ok n)) c.in-Idle.is c.in_ok-out.ensures))

pub returns-in-Replied-clause-plays : goal.returns-in-Replied-clause-plays
returns-in-Replied-clause-plays g c = Adds-none g.N.Net.told g.N.Net.tells c.args.net.now _
    (goes-replied c.args.job.now c.args.driver.now c.next.new.self c.in-Replied.reply
    (subst (λ (n : Next). Follow c.args.job.now c.args.driver.now c.next.new.self (Ok n)) c.in-Replied.is c.in_ok-out.ensures))
