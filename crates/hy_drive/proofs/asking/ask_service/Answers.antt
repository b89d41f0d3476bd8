use Rattle.std.proofs.Common.{List, ℕ, [], ◌∷◌, true, false, ap, ◌∙◌}
use Rattle.std.proofs.lemmas.Result.{err_from_is_err_and}
use Rattle.hy_base.specs.Moves.{called, send}
use Rattle.hy_base.proofs.Adding.{Adds-none, Adds-weaken}
use Rattle.hy_drive.proofs.Sending.{service-starved, service-sent, service-failed, service-gone}
use Rattle.hy_drive.proofs.asking.ask_service.Goals as goal

pub returns-in_err-frame-in-Some-clause-plays : goal.returns-in_err-frame-in-Some-clause-plays
returns-in_err-frame-in-Some-clause-plays g c =
    let p = err_from_is_err_and c.from_residual.result c.from_residual.ensures.1 in
    rw (p.1, p.2) (Adds-none g.N.Net.told g.N.Net.tells c.args.net.now _ (service-starved c.args.driver.now c.args.ask))

pub returns-in_err-send-in-Some-clause-plays : goal.returns-in_err-send-in-Some-clause-plays
returns-in_err-send-in-Some-clause-plays g c =
    let p = err_from_is_err_and c.from_residual-in_err-send-in-Some.result c.from_residual-in_err-send-in-Some.ensures.1 in
    rw (p.1, p.2) (Adds-weaken g.N.Net.told g.N.Net.tells c.args.net.now c.send.new.self _ _ c.in_err-send-in-Some.ensures.tells
    (λ moves is. service-failed c.args.driver.now c.args.ask c.in-Some.conn moves c.in_ok-frame-in-Some.ensures.known c.in-Some.ensures
    (is ∙ ap (λ (bytes : List ℕ). called (send c.in-Some.conn bytes false) ∷ []) (c.bytes.ensures ∙ c.in_ok-frame-in-Some.ensures.frame))))

pub returns-in_ok-send-in-Some-clause-plays : goal.returns-in_ok-send-in-Some-clause-plays
returns-in_ok-send-in-Some-clause-plays g c =
    Adds-weaken g.N.Net.told g.N.Net.tells c.args.net.now c.send.new.self _ _ c.in_ok-send-in-Some.ensures.tells
    (λ moves is. service-sent c.args.driver.now c.args.ask c.in-Some.conn moves c.in_ok-frame-in-Some.ensures.known c.in-Some.ensures
    (is ∙ ap (λ (bytes : List ℕ). called (send c.in-Some.conn bytes true) ∷ []) (c.bytes.ensures ∙ c.in_ok-frame-in-Some.ensures.frame)))

pub returns-in-None-clause-plays : goal.returns-in-None-clause-plays
returns-in-None-clause-plays g c = Adds-none g.N.Net.told g.N.Net.tells c.args.net.now _ (service-gone c.args.driver.now c.args.ask c.in-None.ensures)

pub returns-in_err-frame-in-Some-clause-large : goal.returns-in_err-frame-in-Some-clause-large
returns-in_err-frame-in-Some-clause-large g c =
    let p = err_from_is_err_and c.from_residual.result c.from_residual.ensures.1 in
    λ job. rw (p.1, p.2) tt

pub returns-in_err-send-in-Some-clause-large : goal.returns-in_err-send-in-Some-clause-large
returns-in_err-send-in-Some-clause-large g c =
    let p = err_from_is_err_and c.from_residual-in_err-send-in-Some.result c.from_residual-in_err-send-in-Some.ensures.1 in
    λ job. rw (p.1, p.2) tt
