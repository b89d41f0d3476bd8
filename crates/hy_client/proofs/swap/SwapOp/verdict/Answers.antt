use Rattle.std.proofs.Common.{◌≡◌, refl, sym, subst, None}
use Rattle.hy_record.specs.declared.turn.Cue.{Cue}
use Rattle.hy_record.specs.declared.turn.Cue.TheVariants as cues
use Rattle.hy_client.specs.Swapping.{WhereOpen, verdict_at}
use Rattle.hy_client.proofs.Swaps.{verdict-silent}
use Rattle.hy_client.proofs.swap.SwapOp.verdict.Goals as goal

pub returns-in-Cloud : goal.returns-in-Cloud
returns-in-Cloud c = subst (λ (cue : Cue). WhereOpen c.args.self.now (λ plan expected own. None ≡ verdict_at plan expected cue own)) (sym c.in-Cloud.is)
    (verdict-silent c.args.self.now (cues.Cloud c.in-Cloud._reply) refl (λ r. refl))

pub returns-in-Tick : goal.returns-in-Tick
returns-in-Tick c = subst (λ (cue : Cue). WhereOpen c.args.self.now (λ plan expected own. None ≡ verdict_at plan expected cue own)) (sym c.in-Tick.is)
    (verdict-silent c.args.self.now cues.Tick refl (λ r. refl))
