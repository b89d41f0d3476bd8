use Rattle.std.proofs.Common.{ℕ, subst}
use Rattle.std.proofs.lemmas.Result.{err_from_is_err_and}
use Rattle.hy_base.specs.Faults.{Rose}
use Rattle.hy_base.proofs.Adding.{Adds-none, Adds-weaken, Adds-append}
use Rattle.hy_drive.proofs.Arrivals.{drives-nothing, drives-stopped, drives-starved, drives-joined, rests-joined}
use Rattle.hy_drive.proofs.driving.drive_client.Goals as goal

pub drive_over-requires-clause-rests : goal.drive_over-requires-clause-rests
drive_over-requires-clause-rests g c = rests-joined c.args.job.now c.in_ok-driver.driver c.in_ok-conn.conn c.in_ok-driver.ensures

pub returns-in_err-buf-clause-plays : goal.returns-in_err-buf-clause-plays
returns-in_err-buf-clause-plays g c =
    let p = err_from_is_err_and c.from_residual.result c.from_residual.ensures.1 in
    rw (p.1, p.2) (Adds-none g.N.Net.told g.N.Net.tells c.args.net.now _ (drives-nothing c.args.job.now c.args.arrivals))

pub returns-in_err-conn-clause-plays : goal.returns-in_err-conn-clause-plays
returns-in_err-conn-clause-plays g c =
    let p = err_from_is_err_and c.from_residual-in_err-conn.result c.from_residual-in_err-conn.ensures.1 in
    rw (p.1, p.2) (Adds-weaken g.N.Net.told g.N.Net.tells c.args.net.now c.join.new.net _ _ c.in_err-conn.ensures.plays
    (λ moves joined. drives-stopped c.args.job.now c.args.arrivals c.in_err-conn.field-0.0 moves joined))

pub returns-in_err-driver-clause-plays : goal.returns-in_err-driver-clause-plays
returns-in_err-driver-clause-plays g c =
    let p = err_from_is_err_and c.from_residual-in_err-driver.result c.from_residual-in_err-driver.ensures.1 in
    rw (p.1, p.2) (Adds-weaken g.N.Net.told g.N.Net.tells c.args.net.now c.join.new.net _ _ c.in_ok-conn.ensures.plays
    (λ moves joined. drives-starved c.args.job.now c.args.arrivals c.in_ok-conn.conn moves joined))

pub returns-clause-plays : goal.returns-clause-plays
returns-clause-plays g c =
    Adds-append g.N.Net.told g.N.Net.tells c.args.net.now c.join.new.net c.drive_over.new.net _ _ _ c.in_ok-conn.ensures.plays c.drive_over.ensures.plays
    (λ first second joined plays. drives-joined c.args.job.now c.in_ok-driver.driver c.args.arrivals c.in_ok-conn.conn c.drive_over.result first second
    (λ rose. subst (λ (n : ℕ). Rose n (g.N.Net.taking_faults c.drive_over.new.net)) c.in_ok-conn.ensures.taking rose) joined c.in_ok-driver.ensures plays)
