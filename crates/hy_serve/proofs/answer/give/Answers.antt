use Rattle.std.proofs.Common.{◌≡◌, ◌∷◌, List, ℕ, [], Option, Some, sym, ap, subst, ◌∙◌}
use Rattle.std.specs.Prelude.{is_ok}
use Rattle.hy_base.specs.Moves.{Move, called, send, close}
use Rattle.hy_base.specs.Net.{Adds}
use Rattle.hy_base.proofs.Adding.{Adds-more}
use Rattle.hy_serve.specs.declared.answer.Answer.{Answer}
use Rattle.hy_serve.specs.Answer.{Answers}
use Rattle.hy_serve.proofs.answer.give.Goals as goal

pub returns-in-Some-clause-adds : goal.returns-in-Some-clause-adds
returns-in-Some-clause-adds g c =
    let conn = c.in-Some.answer.conn in
    let sent = is_ok c.send-sent.result in
    subst (λ (answer : Option Answer). Adds g.N.Net.told g.N.Net.tells c.args.net.now c.close.new.self (Answers answer)) (sym c.in-Some.is)
    (Adds-more g.N.Net.told g.N.Net.tells c.args.net.now c.send-sent.new.self c.close.new.self
    (λ moves. moves ≡ called (send conn c.bytes.result.now sent) ∷ []) (Answers (Some c.in-Some.answer)) (called (close conn)) c.send-sent.ensures.tells c.close.ensures.tells
    (λ moves is. record { sent = sent; are = ap (λ (m : List Move). called (close conn) ∷ m) (is ∙ ap (λ (bytes : List ℕ). called (send conn bytes sent) ∷ []) c.bytes.ensures) }))
