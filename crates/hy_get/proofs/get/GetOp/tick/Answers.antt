use Rattle.std.proofs.Common.{List, None, refl, sym, subst, ◌∙◌, ap}
use Rattle.hy_record.specs.declared.turn.Out.{Out}
use Rattle.hy_record.specs.declared.turn.Cue.TheVariants as cues
use Rattle.hy_get.specs.declared.get.State.{State}
use Rattle.hy_get.proofs.Standing.{reading-goes, fetching-goes, calm-rounds, turn_with}
use Rattle.hy_get.proofs.Idle.{IsIdleAt, idle-goes}
use Rattle.hy_get.proofs.get.GetOp.tick.Goals as goal

pub returns-in_ok-sends-in-Reading-clause-takes : goal.returns-in_ok-sends-in-Reading-clause-takes
returns-in_ok-sends-in-Reading-clause-takes c =
    λ inputs h. reading-goes _ c.args.self.now _ inputs _ _ h c.in-Reading.is c.in-Reading.is refl refl (c.sending.ensures ∙ ap (λ (xs : List Out). turn_with xs None) c.in_ok-sends-in-Reading.ensures)

pub returns-in_ok-sends-in-Fetching-clause-takes : goal.returns-in_ok-sends-in-Fetching-clause-takes
returns-in_ok-sends-in-Fetching-clause-takes c =
    λ inputs h. fetching-goes _ c.args.self.now _ inputs _ _ c.in-Fetching.fetch _ c.in_ok-sends-in-Fetching.sends.items h c.in-Fetching.is refl c.tick.ensures.rec (λ since. refl) c.in_ok-sends-in-Fetching.ensures.moves (λ since a. calm-rounds c.in-Fetching.fetch since cues.Tick c.args.self.now.rounds refl) c.sending-in-Fetching.ensures

pub returns-in-Replied-clause-takes : goal.returns-in-Replied-clause-takes
returns-in-Replied-clause-takes c = λ inputs h. idle-goes _ c.args.self.now _ inputs _ _ h refl refl (subst (λ (s : State). IsIdleAt s cues.Tick) (sym c.in-Replied.is) tt) c.quiet.ensures
