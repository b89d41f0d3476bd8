use Rattle.std.proofs.Common.{◌++◌, Option, Ok, refl, sym, ap, subst, ◌∙◌}
use Rattle.hy_mwire.specs.declared.message.Message.{Message}
use Rattle.hy_mwire.specs.Stream.{StandsFor, said_in}
use Rattle.hy_drive.proofs.Hearing.{gives-said, ok-next}
use Rattle.hy_drive.proofs.service_line.ServiceLine.read.Goals as goal

pub returns-in-Ok-Some : goal.returns-in-Ok-Some
returns-in-Ok-Some c =
    let fine = ok-next c.next.result c.in-Ok-Some.field-0 c.in-Ok-Some.is in
    let came = c.in-Ok-Some.is ∙ ap (λ (m : Option Message). Ok m) c.in-Ok-Some.field-0-is in
    gives-said c.args.self.now (record c.args.self.now { reader = c.next.new.self }) c.in-Ok-Some.message refl
    (sym came ∙ c.next.ensures.answer fine) (c.next.ensures.after fine)
    (λ taken told stands. subst (λ r. StandsFor taken (told ++ said_in r) c.next.new.self) came (c.next.ensures.stands taken told stands))
