use Rattle.std.proofs.Common.{ap, ◌∙◌}
use Rattle.hy_serve.specs.MetaRole.{is_talking}
use Rattle.hy_serve.specs.MetaLines.{seen}
use Rattle.hy_serve.specs.MetaStanding.{line_of}
use Rattle.hy_serve.proofs.MetaLines.{Held, talks-where-some}
use Rattle.hy_serve.proofs.meta_server.MetaServer.is_open.Goals as goal

pub returns-in-Some : goal.returns-in-Some
unfolding line_of
returns-in-Some c = c.is_some.ensures ∙ talks-where-some c.in-Some.line.now ∙ ap (λ (held : Held). is_talking (seen held)) c.in-Some.ensures.value

pub returns-in-None : goal.returns-in-None
unfolding line_of
returns-in-None c = ap (λ (held : Held). is_talking (seen held)) c.in-None.ensures.value
