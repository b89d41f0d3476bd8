use Rattle.std.proofs.Common.{refl, ap, ◌∙◌}
use Rattle.std.proofs.lemmas.Result.{IfOk-weaker}
use Rattle.hy_serve.specs.declared.meta_lines.Step.{Step}
use Rattle.hy_serve.specs.MetaRole.{next_step, next_line}
use Rattle.hy_serve.specs.MetaLines.{seen}
use Rattle.hy_serve.specs.MetaStanding.{line_of}
use Rattle.hy_serve.proofs.MetaLines.{Held, sets-known, sets-unknown}
use Rattle.hy_serve.proofs.Results.{on_ok}
use Rattle.hy_serve.proofs.meta_server.MetaServer.read.Goals as goal

pub returns-in-Some-clause-step : goal.returns-in-Some-clause-step
unfolding line_of
returns-in-Some-clause-step c = IfOk-weaker c.read.result _ _
    (λ (step : Step) is. is ∙ ap (λ (held : Held). next_step (seen held)) c.in-Some.ensures.value)
    c.read.ensures.step

pub returns-in-Some-clause-line : goal.returns-in-Some-clause-line
unfolding line_of
returns-in-Some-clause-line c = on_ok c.read.result
    (λ changed. sets-known c.args.self.now (c.get_mut.follows.lender c.read.new.line) c.args.conn c.in-Some.line.now c.read.new.line next_line
    c.in-Some.ensures.value (c.get_mut.follows.holds c.read.new.line).3 changed)
    c.read.ensures.line

pub returns-in-None-clause-step : goal.returns-in-None-clause-step
unfolding line_of
returns-in-None-clause-step c = ap (λ (held : Held). next_step (seen held)) c.in-None.ensures.value

pub returns-in-None-clause-line : goal.returns-in-None-clause-line
unfolding line_of
returns-in-None-clause-line c = sets-unknown c.args.self.now c.get_mut.follows.lender-at-none c.args.conn next_line c.get_mut.follows.holds-at-none c.in-None.ensures.value refl
