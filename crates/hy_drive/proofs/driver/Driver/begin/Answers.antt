use Rattle.std.proofs.Common.{refl, sym, subst, ◌∙◌, Option, Some}
use Rattle.std.specs.Prelude.{IfSome}
use Rattle.hy_client.specs.declared.fault.InvokeFault.{InvokeFault}
use Rattle.hy_protocol.specs.Session.{fresh_session}
use Rattle.hy_client.specs.Clients.{invoke_refusal}
use Rattle.hy_drive.specs.Stepping.{IsOfNewClient}
use Rattle.hy_drive.proofs.Following.{begins-new, accepted, fits, fresh-refusal, size-new, refused-new}
use Rattle.hy_drive.proofs.driver.Driver.begin.Goals as goal

pub returns-in-Ok : goal.returns-in-Ok
returns-in-Ok c =
    let s = fresh_session c.args.job.now.f c.args.job.now.k c.args.number in
    let stands = c.new-client.ensures.stands in
    begins-new c.args.job.now c.args.self.now (record c.args.self.now { client = Some c.invoke.new.self; sends = c.from.result }) c.args.number c.invoke.new.self c.requires.shape
    (record { service = refl; lines = refl }) refl refl
    (fits c.args.job.now.action (sym (fresh-refusal c.args.job.now.f c.args.job.now.k c.args.number c.args.job.now.action c.requires.drives.key)
    ∙ accepted c.invoke.result (invoke_refusal s c.args.job.now.action) (c.invoke.ensures.refused s stands) c.in-Ok.sends c.in-Ok.is))
    c.requires.drives.no_swap
    (c.in-Ok.ensures.ok s stands) (c.from.ensures.0 ∙ c.in-Ok.ensures.sends s stands)

pub refusal-requires : goal.refusal-requires
refusal-requires c =
    let s = fresh_session c.args.job.now.f c.args.job.now.k c.args.number in
    let stands = c.new-client.ensures.stands in
    refused-new c.invoke.result c.in-Err.fault (invoke_refusal s c.args.job.now.action)
    (subst (λ (refusal : Option InvokeFault). IfSome refusal IsOfNewClient)
    (sym (fresh-refusal c.args.job.now.f c.args.job.now.k c.args.number c.args.job.now.action c.requires.drives.key)) (size-new c.args.job.now.action))
    (c.invoke.ensures.refused s stands) (c.invoke.ensures.accepted s stands) c.in-Err.is
