use Rattle.std.proofs.Common.{◌∷◌, [], sym, refl, ◌∙◌}
use Rattle.std.proofs.lemmas.Result.{IfOk-weaker}
use Rattle.hy_base.specs.Moves.{to_send}
use Rattle.hy_mwire.specs.declared.message.Message.TheVariants.{Joined, Full}
use Rattle.hy_mwire.specs.Frames.{frame_of}
use Rattle.hy_serve.specs.declared.letter.Turn.{Turn}
use Rattle.hy_serve.specs.declared.meta_lines.Session.TheVariants.{Of, Refused}
use Rattle.hy_serve.specs.declared.meta_lines.Step.TheVariants.{Joins}
use Rattle.hy_serve.specs.MetaStanding.{Answers, SendsAll}
use Rattle.hy_serve.proofs.Results.{any_ok}
use Rattle.hy_serve.proofs.MetaStands.{joins-one, joins-none}
use Rattle.hy_serve.proofs.MetaWeights.{weights-session}
use Rattle.hy_serve.proofs.meta_server.MetaServer.join.Goals as goal

pub returns-in_ok-insert-in-Ok-clause-answers : goal.returns-in_ok-insert-in-Ok-clause-answers
returns-in_ok-insert-in-Ok-clause-answers c = IfOk-weaker c.letter.result
    (λ (turn : Turn). SendsAll turn (to_send c.args.conn (frame_of (Joined c.in-Ok.client)) ∷ []))
    (Answers c.args.self.now c.set_session.new.self c.args.conn Joins)
    (λ turn sends. joins-one c.args.self.now (record { lines = c.args.self.now.lines; homes = c.insert.new.self; service = c.join.new.self }) c.set_session.new.self
    c.args.conn c.in-Ok.client turn (sym c.in-Ok.is ∙ c.join.ensures.id) c.join.ensures.given c.join.ensures.same refl
    c.in_ok-insert-in-Ok.ensures.updates c.set_session.ensures sends)
    c.letter.ensures

pub returns-in_ok-insert-in-Ok-clause-weights : goal.returns-in_ok-insert-in-Ok-clause-weights
returns-in_ok-insert-in-Ok-clause-weights c = any_ok c.letter.result
    (weights-session c.args.self.now (record { lines = c.args.self.now.lines; homes = c.insert.new.self; service = c.join.new.self }) c.set_session.new.self
    c.args.conn (Of c.in-Ok.client) refl c.set_session.ensures)

pub returns-in-Err-clause-answers : goal.returns-in-Err-clause-answers
returns-in-Err-clause-answers c = IfOk-weaker c.letter-in-Err.result
    (λ (turn : Turn). SendsAll turn (to_send c.args.conn (frame_of Full) ∷ []))
    (Answers c.args.self.now c.set_session-in-Err.new.self c.args.conn Joins)
    (λ turn sends. joins-none c.args.self.now (record { lines = c.args.self.now.lines; homes = c.args.self.now.homes; service = c.join.new.self }) c.set_session-in-Err.new.self
    c.args.conn c.in-Err.field-0 turn (sym c.in-Err.is ∙ c.join.ensures.id) c.join.ensures.given c.join.ensures.same refl refl c.set_session-in-Err.ensures sends)
    c.letter-in-Err.ensures

pub returns-in-Err-clause-weights : goal.returns-in-Err-clause-weights
returns-in-Err-clause-weights c = any_ok c.letter-in-Err.result
    (weights-session c.args.self.now (record { lines = c.args.self.now.lines; homes = c.args.self.now.homes; service = c.join.new.self }) c.set_session-in-Err.new.self
    c.args.conn Refused refl c.set_session-in-Err.ensures)
