use Rattle.std.proofs.Common.{◌∙◌}
use Rattle.std.proofs.lemmas.Result.{err_from_is_err_and}
use Rattle.hy_base.proofs.Adding.{Adds-none, Adds-weaken, Adds-more}
use Rattle.hy_drive.proofs.Arrivals.{joins-starved, joins-refused, joins-unsent, joins-sent}
use Rattle.hy_drive.proofs.driving.join.Goals as goal

pub returns-in_err-frame-clause-plays : goal.returns-in_err-frame-clause-plays
returns-in_err-frame-clause-plays g c =
    let p = err_from_is_err_and c.from_residual.result c.from_residual.ensures.1 in
    rw (p.1, p.2) (Adds-none g.N.Net.told g.N.Net.tells c.args.net.now _ (joins-starved c.args.job.now))

pub returns-in_err-conn-clause-plays : goal.returns-in_err-conn-clause-plays
returns-in_err-conn-clause-plays g c =
    let p = err_from_is_err_and c.from_residual-in_err-conn.result c.from_residual-in_err-conn.ensures.1 in
    rw (p.1, p.2) (Adds-weaken g.N.Net.told g.N.Net.tells c.args.net.now c.dial.new.self _ _ c.in_err-conn.ensures.tells (λ moves is. joins-refused c.args.job.now moves is))

pub returns-in_err-send-clause-plays : goal.returns-in_err-send-clause-plays
returns-in_err-send-clause-plays g c =
    let p = err_from_is_err_and c.from_residual-in_err-send.result c.from_residual-in_err-send.ensures.1 in
    rw (p.1, p.2) (Adds-more g.N.Net.told g.N.Net.tells c.args.net.now c.dial.new.self c.send.new.self _ _ _ c.in_ok-conn.ensures.tells c.in_err-send.ensures.tells
    (λ moves is. joins-unsent c.args.job.now c.in_ok-conn.conn c.bytes.result.now moves (c.bytes.ensures ∙ c.in_ok-frame.ensures.frame) is))

pub returns-clause-plays : goal.returns-clause-plays
returns-clause-plays g c =
    Adds-more g.N.Net.told g.N.Net.tells c.args.net.now c.dial.new.self c.send.new.self _ _ _ c.in_ok-conn.ensures.tells c.in_ok-send.ensures.tells
    (λ moves is. joins-sent c.args.job.now c.in_ok-conn.conn c.bytes.result.now moves (c.bytes.ensures ∙ c.in_ok-frame.ensures.frame) is)

pub returns-in_err-frame-clause-large : goal.returns-in_err-frame-clause-large
returns-in_err-frame-clause-large g c =
    let p = err_from_is_err_and c.from_residual.result c.from_residual.ensures.1 in
    rw (p.1, p.2) tt

pub returns-in_err-conn-clause-large : goal.returns-in_err-conn-clause-large
returns-in_err-conn-clause-large g c =
    let p = err_from_is_err_and c.from_residual-in_err-conn.result c.from_residual-in_err-conn.ensures.1 in
    rw (p.1, p.2) tt

pub returns-in_err-send-clause-large : goal.returns-in_err-send-clause-large
returns-in_err-send-clause-large g c =
    let p = err_from_is_err_and c.from_residual-in_err-send.result c.from_residual-in_err-send.ensures.1 in
    rw (p.1, p.2) tt
