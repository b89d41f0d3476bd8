use Rattle.std.proofs.Common.{refl, ◌∙◌, sym, subst, true, false}
use Rattle.hy_record.specs.declared.message.MetaSay.TheVariants as says
use Rattle.hy_record.specs.declared.turn.Cue.TheVariants as cues
use Rattle.hy_get.specs.declared.get.State.{State}
use Rattle.hy_get.proofs.Since.{fired-does}
use Rattle.hy_get.proofs.Standing.{fetching-goes}
use Rattle.hy_get.proofs.Idle.{IsIdleAt, idle-goes, old-news-idle, is-news, fired-rounds}
use Rattle.hy_get.proofs.get.GetOp.supersede.Goals as goal

pub returns-then-not-is_news-clause-takes : goal.returns-then-not-is_news-clause-takes
returns-then-not-is_news-clause-takes c =
    λ client op key inputs h. idle-goes _ c.args.self.now _ inputs _ _ h (sym c.in-Fetching.is) refl (subst (λ (s : State). IsIdleAt s (cues.Meta (says.Fired client op key c.args.stamp.now))) (sym c.in-Fetching.is) (old-news-idle c.in-Fetching.fetch client op key c.args.stamp.now (sym c.is_news.ensures ∙ c.if-not-is_news.true))) c.quiet.ensures

pub returns-in-Reading-clause-takes : goal.returns-in-Reading-clause-takes
returns-in-Reading-clause-takes c =
    λ client op key inputs h. idle-goes _ c.args.self.now _ inputs _ _ h refl refl (subst (λ (s : State). IsIdleAt s (cues.Meta (says.Fired client op key c.args.stamp.now))) (sym c.in-Reading.is) (refl, refl)) c.quiet-in-Reading.ensures

pub returns-in-Replied-clause-takes : goal.returns-in-Replied-clause-takes
returns-in-Replied-clause-takes c =
    λ client op key inputs h. idle-goes _ c.args.self.now _ inputs _ _ h refl refl (subst (λ (s : State). IsIdleAt s (cues.Meta (says.Fired client op key c.args.stamp.now))) (sym c.in-Replied.is) tt) c.quiet-in-Replied.ensures

pub returns-in_ok-sends-in-Fetching-clause-takes : goal.returns-in_ok-sends-in-Fetching-clause-takes
returns-in_ok-sends-in-Fetching-clause-takes c =
    let news = is-news c.in-Fetching.fetch c.args.stamp.now (sym c.is_news.ensures ∙ c.if-not-is_news.false) in
    λ client op key inputs h. fetching-goes _ c.args.self.now _ inputs _ _ c.in-Fetching.fetch _ c.in_ok-sends-in-Fetching.sends.items h c.in-Fetching.is refl refl (λ since. refl)
    (λ since a. fired-does _ c.in-Fetching.fetch _ since client op key c.args.stamp.now _ a news.0 news.1 c.in_ok-sends-in-Fetching.ensures refl refl refl refl refl refl)
    (λ since a. c.saturating_add-self.ensures ∙ fired-rounds c.in-Fetching.fetch since client op key c.args.stamp.now c.args.self.now.rounds a news.0 news.1) c.sending.ensures
