use Rattle.std.proofs.Common.{◌∙◌, sym, rules}
use Rattle.hy_trace.specs.Deeds.{granted}
use Rattle.hy_world.proofs.Standing.{honest-within, liar-is}
use Rattle.hy_world.proofs.Holding.{kept, holds-liar, holds-bytes, holds-none}
use Rattle.hy_world.proofs.nodes.Nodes.holds_valid.Goals as goal

pub index-requires : goal.index-requires
index-requires c =
    let w = c.args.self.now in
    let inside = honest-within w.params c.args.cloud (sym c.is_liar.ensures ∙ c.if-is_liar.false) in
    search rules

pub returns-then-is_liar : goal.returns-then-is_liar
returns-then-is_liar c = λ p t r. holds-liar p t c.args.key.now c.args.rec.now c.args.cloud (liar-is p t c.args.self.now c.args.cloud r ∙ (sym c.is_liar.ensures ∙ c.if-is_liar.true))

pub returns-in-Some : goal.returns-in-Some
returns-in-Some c =
    let w = c.args.self.now in
    let honest = sym c.is_liar.ensures ∙ c.if-is_liar.false in
    let inside = honest-within w.params c.args.cloud honest in
    λ p t r. holds-bytes p t c.args.key.now c.args.rec.now c.args.cloud c.stamp.result c.in-Some.bytes.now c.is_valid.result
    (liar-is p t w c.args.cloud r ∙ honest) c.stamp.ensures
    (c.in-Some.ensures (granted c.args.cloud t) (kept p t w c.args.cloud c.index.result.now r (search rules) c.index.ensures))
    c.is_valid.ensures.value

pub returns-in-None : goal.returns-in-None
returns-in-None c =
    let w = c.args.self.now in
    let honest = sym c.is_liar.ensures ∙ c.if-is_liar.false in
    let inside = honest-within w.params c.args.cloud honest in
    λ p t r. holds-none p t c.args.key.now c.args.rec.now c.args.cloud c.stamp.result
    (liar-is p t w c.args.cloud r ∙ honest) c.stamp.ensures
    (c.in-None.ensures (granted c.args.cloud t) (kept p t w c.args.cloud c.index.result.now r (search rules) c.index.ensures))
