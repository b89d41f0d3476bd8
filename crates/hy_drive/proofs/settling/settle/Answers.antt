use Rattle.std.proofs.Common.{Ok, refl, ◌∙◌, subst, arith}
use Rattle.std.proofs.lemmas.Result.{err_from_is_err_and}
use Rattle.hy_base.specs.Net.{Adds}
use Rattle.hy_base.proofs.Adding.{Adds-none, Adds-append}
use Rattle.hy_drive.specs.declared.settling.Step.{Step}
use Rattle.hy_drive.specs.Stepping.{Goes, GoesSoundly}
use Rattle.hy_drive.proofs.Rounds.{advances-none, advances-more, settles-idle, settles-replied, settles-stopped}
use Rattle.hy_drive.proofs.settling.settle.Goals as goal

pub loop-step-init : goal.loop-step-init
loop-step-init g c = record {
  plays = Adds-none g.N.Net.told g.N.Net.tells c.args.net.now _ (advances-none c.args.job.now c.args.driver.now);
  stands = c.requires.stands;
  taking = refl;
  sending = omega arith;
}

pub returns-in_err-go-clause-plays : goal.returns-in_err-go-clause-plays
returns-in_err-go-clause-plays g c =
    let p = err_from_is_err_and c.from_residual.result c.from_residual.ensures.1 in
    rw (p.1, p.2) (Adds-append g.N.Net.told g.N.Net.tells c.args.net.now c.loop-step.net c.go.new.net _ _ _ c.loop-step.invariant.plays c.in_err-go.ensures.plays
    (λ first second one two. settles-stopped c.args.job.now c.args.driver.now c.loop-step.driver c.go.new.driver c.in_err-go.field-0.0 first second one two))

pub returns-in-Idle-clause-plays : goal.returns-in-Idle-clause-plays
returns-in-Idle-clause-plays g c =
    Adds-append g.N.Net.told g.N.Net.tells c.args.net.now c.loop-step.net c.go.new.net _ _ _ c.loop-step.invariant.plays
    (subst (λ (s : Step). Adds g.N.Net.told g.N.Net.tells c.loop-step.net c.go.new.net (Goes c.args.job.now c.loop-step.driver c.go.new.driver (Ok s))) c.in-Idle.is c.in_ok-go.ensures.plays)
    (λ first second one two. settles-idle c.args.job.now c.args.driver.now c.loop-step.driver c.go.new.driver first second one two)

pub returns-in-Replied-clause-plays : goal.returns-in-Replied-clause-plays
returns-in-Replied-clause-plays g c =
    Adds-append g.N.Net.told g.N.Net.tells c.args.net.now c.loop-step.net c.go.new.net _ _ _ c.loop-step.invariant.plays
    (subst (λ (s : Step). Adds g.N.Net.told g.N.Net.tells c.loop-step.net c.go.new.net (Goes c.args.job.now c.loop-step.driver c.go.new.driver (Ok s))) c.in-Replied.is c.in_ok-go.ensures.plays)
    (λ first second one two. settles-replied c.args.job.now c.args.driver.now c.loop-step.driver c.go.new.driver c.in-Replied.reply first second one two)

pub loop-step-preserved : goal.loop-step-preserved
loop-step-preserved g c = record {
  plays = Adds-append g.N.Net.told g.N.Net.tells c.args.net.now c.loop-step.net c.go.new.net _ _ _ c.loop-step.invariant.plays
      (subst (λ (s : Step). Adds g.N.Net.told g.N.Net.tells c.loop-step.net c.go.new.net (Goes c.args.job.now c.loop-step.driver c.go.new.driver (Ok s))) c.in-More.is c.in_ok-go.ensures.plays)
      (λ first second one two. advances-more c.args.job.now c.args.driver.now c.loop-step.driver c.go.new.driver first second one two);
  stands = subst (λ (s : Step). GoesSoundly c.args.job.now c.go.new.driver (Ok s)) c.in-More.is c.in_ok-go.ensures.sound;
  taking = c.in_ok-go.ensures.taking ∙ c.loop-step.invariant.taking;
  sending = omega (arith, c.in_ok-go.ensures.sending, c.loop-step.invariant.sending);
}
