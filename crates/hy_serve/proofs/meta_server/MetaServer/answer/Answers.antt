use Rattle.std.proofs.Common.{ℕ, sym, subst}
use Rattle.std.proofs.lemmas.Result.{IfOk-weaker}
use Rattle.hy_serve.specs.declared.letter.Turn.{Turn}
use Rattle.hy_serve.specs.declared.meta_lines.Step.{Step}
use Rattle.hy_serve.specs.declared.meta_lines.Step.TheVariants.{Asks}
use Rattle.hy_serve.specs.MetaStanding.{Answers, IsFramedStep}
use Rattle.hy_serve.proofs.Results.{any_ok}
use Rattle.hy_serve.proofs.MetaWeights.{weights-same}
use Rattle.hy_serve.proofs.meta_server.MetaServer.answer.Goals as goal

pub returns-in-Asks-clause-answers : goal.returns-in-Asks-clause-answers
returns-in-Asks-clause-answers c = IfOk-weaker c.serve.result
    (λ (turn : Turn). (conn : ℕ) → Answers c.args.self.now c.serve.new.self conn (Asks c.in-Asks.ask) turn)
    (Answers c.args.self.now c.serve.new.self c.args.conn c.args.step)
    (λ turn answers. subst (λ (step : Step). Answers c.args.self.now c.serve.new.self c.args.conn step turn) (sym c.in-Asks.is) (answers c.args.conn))
    c.serve.ensures.answers

pub returns-in-Asks-clause-weights : goal.returns-in-Asks-clause-weights
returns-in-Asks-clause-weights c = any_ok c.serve.result (weights-same c.args.self.now c.serve.new.self c.serve.ensures.lines)

pub serve-requires : goal.serve-requires
serve-requires c = subst IsFramedStep c.in-Asks.is c.requires
