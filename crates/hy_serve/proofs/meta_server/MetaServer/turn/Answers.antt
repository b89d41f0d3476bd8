use Rattle.std.proofs.Common.{◌≡◌, sym, subst}
use Rattle.std.proofs.lemmas.Result.{IfOk-weaker}
use Rattle.hy_serve.specs.declared.letter.Turn.{Turn}
use Rattle.hy_serve.specs.declared.letter.Turn.TheVariants.{Rests}
use Rattle.hy_serve.specs.declared.meta_lines.Step.TheVariants.{Waits}
use Rattle.hy_serve.specs.MetaStanding.{line_of, Answers, ReadsNext, Falls, IsFramedStep}
use Rattle.hy_serve.proofs.Results.{if_ok}
use Rattle.hy_serve.proofs.MetaStands.{reads-next}
use Rattle.hy_serve.proofs.MetaFramed.{step-framed}
use Rattle.hy_serve.proofs.MetaWeights.{falls-behind}
use Rattle.hy_serve.proofs.meta_server.MetaServer.turn.Goals as goal

pub returns-clause-reads : goal.returns-clause-reads
returns-clause-reads c = IfOk-weaker c.answer.result
    (Answers c.read.new.self c.answer.new.self c.args.conn c.in_ok-step.step)
    (ReadsNext c.args.self.now c.answer.new.self c.args.conn)
    (λ turn answers. reads-next c.args.self.now c.read.new.self c.answer.new.self c.args.conn c.in_ok-step.step turn c.in_ok-step.ensures.step c.in_ok-step.ensures.line answers)
    c.answer.ensures.answers

pub returns-clause-falls : goal.returns-clause-falls
returns-clause-falls c = if_ok c.answer.result
    (λ (turn : Turn). c.in_ok-step.step ≡ Waits → turn ≡ Rests)
    (Falls c.args.self.now c.answer.new.self c.args.conn)
    c.answer.ensures.rests c.answer.ensures.weights
    (λ turn rests weights. falls-behind c.args.self.now c.read.new.self c.answer.new.self c.args.conn c.in_ok-step.step turn c.in_ok-step.ensures.step c.in_ok-step.ensures.line rests weights)

pub answer-requires : goal.answer-requires
unfolding line_of
answer-requires c = subst IsFramedStep (sym c.in_ok-step.ensures.step) (step-framed (line_of c.args.self.now c.args.conn))
