use Rattle.std.proofs.Common.{refl, rules, ap, sym, ◌∙◌, cond, Bool, Some}
use Rattle.hy_trace.specs.Deeds.{Nothing, Granted}
use Rattle.hy_trace.specs.Messages.{Request}
use Rattle.hy_trace.specs.Schedule.{delivery}
use Rattle.hy_world.proofs.Standing.{granting, does-other, honest-within, liar-is}
use Rattle.hy_world.proofs.nodes.Nodes.grant.Goals as goal

pub returns-then-is_liar : goal.returns-then-is_liar
returns-then-is_liar c =
    let w = c.args.self.now in
    λ made. does-other (λ p t. Nothing) (λ p t. delivery p t made (Some (Request c.args.ask.now))) w w c.rest.result
    (λ p t few r. ap (λ (b : Bool). cond b Nothing (Granted c.args.ask.now)) (liar-is p t w c.args.ask.now.cloud r ∙ (sym c.is_liar.ensures ∙ c.if-is_liar.true)))
    c.rest.ensures

pub index_mut-requires : goal.index_mut-requires
index_mut-requires c =
    let w = c.args.self.now in
    let inside = honest-within w.params c.args.ask.now.cloud (sym c.is_liar.ensures ∙ c.if-is_liar.false) in
    search rules

pub returns : goal.returns
returns c =
    let w = c.args.self.now in
    let honest = sym c.is_liar.ensures ∙ c.if-is_liar.false in
    let inside = honest-within w.params c.args.ask.now.cloud honest in
    λ made p t trace few r.
    granting p t w.params w.seats.items w.clouds.items made c.args.ask.now c.index_mut.result.now c.serve.new.self c.in_ok-say.say _
    honest (search rules) c.index_mut.ensures.value c.in_ok-say.ensures.ok c.in_ok-say.ensures.says
    (search rules) refl refl refl refl r
