use Rattle.std.proofs.Common.{◌≡◌, refl, sym, subst, None}
use Rattle.hy_record.specs.declared.message.MetaSay.{MetaSay}
use Rattle.hy_record.specs.declared.message.MetaSay.TheVariants as says
use Rattle.hy_record.specs.declared.turn.Cue.TheVariants as cues
use Rattle.hy_client.specs.Swapping.{WhereOpen, verdict_at}
use Rattle.hy_client.proofs.Swaps.{verdict-silent, verdict-swapped, verdict-changed}
use Rattle.hy_client.proofs.swap.SwapOp.judgement.Goals as goal

pub returns-in-Swapped : goal.returns-in-Swapped
returns-in-Swapped c = subst (λ (say : MetaSay). WhereOpen c.args.self.now (λ plan expected own. c.done.result ≡ verdict_at plan expected (cues.Meta say) own)) (sym c.in-Swapped.is)
    (verdict-swapped c.args.self.now c.in-Swapped.client c.in-Swapped.op c.in-Swapped.key c.in-Swapped.stamp c.done.result c.done.ensures)

pub returns-in-Changed : goal.returns-in-Changed
returns-in-Changed c = subst (λ (say : MetaSay). WhereOpen c.args.self.now (λ plan expected own. c.refused.result ≡ verdict_at plan expected (cues.Meta say) own)) (sym c.in-Changed.is)
    (verdict-changed c.args.self.now c.in-Changed.client c.in-Changed.op c.in-Changed.key c.in-Changed.stamp c.refused.result c.refused.ensures)

pub returns-in-Applied : goal.returns-in-Applied
returns-in-Applied c = subst (λ (say : MetaSay). WhereOpen c.args.self.now (λ plan expected own. None ≡ verdict_at plan expected (cues.Meta say) own)) (sym c.in-Applied.is)
    (verdict-silent c.args.self.now (cues.Meta (says.Applied c.in-Applied.client c.in-Applied.op c.in-Applied.key c.in-Applied.stamp)) refl (λ r. refl))

pub returns-in-Kept : goal.returns-in-Kept
returns-in-Kept c = subst (λ (say : MetaSay). WhereOpen c.args.self.now (λ plan expected own. None ≡ verdict_at plan expected (cues.Meta say) own)) (sym c.in-Kept.is)
    (verdict-silent c.args.self.now (cues.Meta (says.Kept c.in-Kept.client c.in-Kept.op c.in-Kept.key c.in-Kept.stamp)) refl (λ r. refl))

pub returns-in-Fired : goal.returns-in-Fired
returns-in-Fired c = subst (λ (say : MetaSay). WhereOpen c.args.self.now (λ plan expected own. None ≡ verdict_at plan expected (cues.Meta say) own)) (sym c.in-Fired.is)
    (verdict-silent c.args.self.now (cues.Meta (says.Fired c.in-Fired.client c.in-Fired.op c.in-Fired.key c.in-Fired.stamp)) refl (λ r. refl))

pub returns-in-OldList : goal.returns-in-OldList
returns-in-OldList c = subst (λ (say : MetaSay). WhereOpen c.args.self.now (λ plan expected own. None ≡ verdict_at plan expected (cues.Meta say) own)) (sym c.in-OldList.is)
    (verdict-silent c.args.self.now (cues.Meta (says.OldList c.in-OldList.client c.in-OldList.op c.in-OldList.key c.in-OldList.stamps)) refl (λ r. refl))

pub returns-in-Forgot : goal.returns-in-Forgot
returns-in-Forgot c = subst (λ (say : MetaSay). WhereOpen c.args.self.now (λ plan expected own. None ≡ verdict_at plan expected (cues.Meta say) own)) (sym c.in-Forgot.is)
    (verdict-silent c.args.self.now (cues.Meta (says.Forgot c.in-Forgot.client c.in-Forgot.op c.in-Forgot.key)) refl (λ r. refl))
