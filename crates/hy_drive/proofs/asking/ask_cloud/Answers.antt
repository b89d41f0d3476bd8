use Rattle.std.proofs.Common.{◌≡◌, ◌+◌, ℕ, List, [], ◌∷◌, None, true, false, ap, ◌∙◌}
use Rattle.std.proofs.lemmas.Result.{err_from_is_err_and}
use Rattle.hy_base.specs.Moves.{Move, called, dial, close}
use Rattle.hy_base.proofs.Adding.{Adds-none, Adds-weaken, Adds-more}
use Rattle.hy_drive.specs.State.{cloud_port}
use Rattle.hy_drive.proofs.Sending.{sent-moves, sent-as, cloud-starved, cloud-undialled, cloud-starved-undialled, cloud-sent, cloud-starved-sent, cloud-unsent, cloud-starved-unsent, lost-stands}
use Rattle.hy_drive.proofs.asking.ask_cloud.Goals as goal

pub returns-in_err-request-clause-plays : goal.returns-in_err-request-clause-plays
returns-in_err-request-clause-plays g c =
    let p = err_from_is_err_and c.from_residual.result c.from_residual.ensures.1 in
    rw (p.1, p.2) (Adds-none g.N.Net.told g.N.Net.tells c.args.net.now _ (cloud-starved c.args.job.now c.args.driver.now c.args.driver.now c.args.ask.now))

pub returns-in_err-await_answer-in-Ok-send-clause-plays : goal.returns-in_err-await_answer-in-Ok-send-clause-plays
returns-in_err-await_answer-in-Ok-send-clause-plays g c =
    let p = err_from_is_err_and c.from_residual-in_err-await_answer-in-Ok-send.result c.from_residual-in_err-await_answer-in-Ok-send.ensures.1 in
    let port-is : c.args.job.now.clouds + c.from.result ≡ cloud_port c.args.job.now.clouds c.args.ask.now = ap (λ (n : ℕ). c.args.job.now.clouds + n) c.from.ensures in
    rw (p.1, p.2) (Adds-more g.N.Net.told g.N.Net.tells c.args.net.now c.dial.new.self c.send.new.self _ _ _ c.in-Ok.ensures.tells c.in-Ok-send.ensures.tells
    (λ moves is. cloud-starved-sent c.args.job.now c.args.driver.now c.await_answer.new.self c.args.ask.now c.in-Ok.conn _ c.in_ok-request.ensures.known
    (sent-as c.args.job.now c.args.ask.now c.in-Ok.conn true _ _ moves port-is (c.bytes.ensures ∙ c.in_ok-request.ensures.bytes) is)))

pub returns-in-Ok-send-clause-plays : goal.returns-in-Ok-send-clause-plays
returns-in-Ok-send-clause-plays g c =
    let port-is : c.args.job.now.clouds + c.from.result ≡ cloud_port c.args.job.now.clouds c.args.ask.now = ap (λ (n : ℕ). c.args.job.now.clouds + n) c.from.ensures in
    Adds-more g.N.Net.told g.N.Net.tells c.args.net.now c.dial.new.self c.send.new.self _ _ _ c.in-Ok.ensures.tells c.in-Ok-send.ensures.tells
    (λ moves is. cloud-sent c.args.job.now c.args.driver.now c.await_answer.new.self c.args.ask.now c.in-Ok.conn c.of-errand.result c.kind_of.result _ c.in_ok-request.ensures.known c.in_ok-await_answer-in-Ok-send.ensures
    c.of-errand.ensures c.kind_of.ensures
    (sent-as c.args.job.now c.args.ask.now c.in-Ok.conn true _ _ moves port-is (c.bytes.ensures ∙ c.in_ok-request.ensures.bytes) is))

pub returns-in_err-lose-in-Err-send-clause-plays : goal.returns-in_err-lose-in-Err-send-clause-plays
returns-in_err-lose-in-Err-send-clause-plays g c =
    let p = err_from_is_err_and c.from_residual-in_err-lose-in-Err-send.result c.from_residual-in_err-lose-in-Err-send.ensures.1 in
    let port-is : c.args.job.now.clouds + c.from.result ≡ cloud_port c.args.job.now.clouds c.args.ask.now = ap (λ (n : ℕ). c.args.job.now.clouds + n) c.from.ensures in
    rw (p.1, p.2) (Adds-more g.N.Net.told g.N.Net.tells c.args.net.now c.send.new.self c.close.new.self
    (λ moves. moves ≡ sent-moves c.args.job.now c.args.ask.now c.in-Ok.conn false) _ (called (close c.in-Ok.conn))
    (Adds-more g.N.Net.told g.N.Net.tells c.args.net.now c.dial.new.self c.send.new.self _ _ _ c.in-Ok.ensures.tells c.in-Err-send.ensures.tells
    (λ moves is. sent-as c.args.job.now c.args.ask.now c.in-Ok.conn false _ _ moves port-is (c.bytes.ensures ∙ c.in_ok-request.ensures.bytes) is))
    c.close.ensures.tells
    (λ moves is. cloud-starved-unsent c.args.job.now c.args.driver.now c.lose.new.self c.args.ask.now c.in-Ok.conn _ c.in_ok-request.ensures.known (ap (λ (m : List Move). called (close c.in-Ok.conn) ∷ m) is)))

pub returns-in-Ok-clause-plays : goal.returns-in-Ok-clause-plays
returns-in-Ok-clause-plays g c =
    let port-is : c.args.job.now.clouds + c.from.result ≡ cloud_port c.args.job.now.clouds c.args.ask.now = ap (λ (n : ℕ). c.args.job.now.clouds + n) c.from.ensures in
    Adds-more g.N.Net.told g.N.Net.tells c.args.net.now c.send.new.self c.close.new.self
    (λ moves. moves ≡ sent-moves c.args.job.now c.args.ask.now c.in-Ok.conn false) _ (called (close c.in-Ok.conn))
    (Adds-more g.N.Net.told g.N.Net.tells c.args.net.now c.dial.new.self c.send.new.self _ _ _ c.in-Ok.ensures.tells c.in-Err-send.ensures.tells
    (λ moves is. sent-as c.args.job.now c.args.ask.now c.in-Ok.conn false _ _ moves port-is (c.bytes.ensures ∙ c.in_ok-request.ensures.bytes) is))
    c.close.ensures.tells
    (λ moves is. cloud-unsent c.args.job.now c.args.driver.now c.lose.new.self c.args.ask.now c.in-Ok.conn c.of-errand.result _ c.in_ok-request.ensures.known c.in_ok-lose-in-Err-send.ensures c.of-errand.ensures
    (ap (λ (m : List Move). called (close c.in-Ok.conn) ∷ m) is))

pub returns-in-Ok-clause-stands : goal.returns-in-Ok-clause-stands
returns-in-Ok-clause-stands g c = lost-stands c.args.driver.now c.lose.new.self c.args.ask.now c.of-errand.result c.in_ok-lose-in-Err-send.ensures c.of-errand.ensures

pub returns-in_err-lose-in-Err-clause-plays : goal.returns-in_err-lose-in-Err-clause-plays
returns-in_err-lose-in-Err-clause-plays g c =
    let p = err_from_is_err_and c.from_residual-in_err-lose-in-Err.result c.from_residual-in_err-lose-in-Err.ensures.1 in
    rw (p.1, p.2) (Adds-weaken g.N.Net.told g.N.Net.tells c.args.net.now c.dial.new.self _ _ c.in-Err.ensures.tells
    (λ moves is. cloud-starved-undialled c.args.job.now c.args.driver.now c.lose-in-Err.new.self c.args.ask.now moves
    (is ∙ ap (λ (n : ℕ). called (dial (c.args.job.now.clouds + n) None) ∷ []) c.from.ensures)))

pub returns-clause-plays : goal.returns-clause-plays
returns-clause-plays g c =
    Adds-weaken g.N.Net.told g.N.Net.tells c.args.net.now c.dial.new.self _ _ c.in-Err.ensures.tells
    (λ moves is. cloud-undialled c.args.job.now c.args.driver.now c.lose-in-Err.new.self c.args.ask.now c.of-errand.result moves c.in_ok-lose-in-Err.ensures c.of-errand.ensures
    (is ∙ ap (λ (n : ℕ). called (dial (c.args.job.now.clouds + n) None) ∷ []) c.from.ensures))

pub returns-clause-stands : goal.returns-clause-stands
returns-clause-stands g c = lost-stands c.args.driver.now c.lose-in-Err.new.self c.args.ask.now c.of-errand.result c.in_ok-lose-in-Err.ensures c.of-errand.ensures

pub returns-in_err-request-clause-large : goal.returns-in_err-request-clause-large
returns-in_err-request-clause-large g c =
    let p = err_from_is_err_and c.from_residual.result c.from_residual.ensures.1 in
    rw (p.1, p.2) tt

pub returns-in_err-await_answer-in-Ok-send-clause-large : goal.returns-in_err-await_answer-in-Ok-send-clause-large
returns-in_err-await_answer-in-Ok-send-clause-large g c =
    let p = err_from_is_err_and c.from_residual-in_err-await_answer-in-Ok-send.result c.from_residual-in_err-await_answer-in-Ok-send.ensures.1 in
    rw (p.1, p.2) tt

pub returns-in_err-lose-in-Err-send-clause-large : goal.returns-in_err-lose-in-Err-send-clause-large
returns-in_err-lose-in-Err-send-clause-large g c =
    let p = err_from_is_err_and c.from_residual-in_err-lose-in-Err-send.result c.from_residual-in_err-lose-in-Err-send.ensures.1 in
    rw (p.1, p.2) tt

pub returns-in_err-lose-in-Err-clause-large : goal.returns-in_err-lose-in-Err-clause-large
returns-in_err-lose-in-Err-clause-large g c =
    let p = err_from_is_err_and c.from_residual-in_err-lose-in-Err.result c.from_residual-in_err-lose-in-Err.ensures.1 in
    rw (p.1, p.2) tt
