use Rattle.std.proofs.Common.{ℕ, Option, Ok, refl, ◌∙◌, subst, arith}
use Rattle.std.proofs.lemmas.Result.{err_from_is_err_and}
use Rattle.hy_base.specs.Faults.{Rose}
use Rattle.hy_base.specs.Moves.{came}
use Rattle.hy_base.specs.Net.{Adds}
use Rattle.hy_base.proofs.Adding.{Adds-none, Adds-weaken, Adds-kept, Adds-more, Adds-append}
use Rattle.hy_record.specs.declared.action.Reply.{Reply}
use Rattle.hy_drive.specs.Stepping.{Settles, SettlesSoundly}
use Rattle.hy_drive.proofs.Arrivals.{Stays, stays-first, some-taken, adds-behind, behind-stays, behind-replied, behind-stopped, plays-cut, plays-out, starved-taking}
use Rattle.hy_drive.proofs.driving.drive_over.Goals as goal

pub loop-taken-init : goal.loop-taken-init
loop-taken-init g c = record {
  plays = Adds-none g.N.Net.told g.N.Net.tells c.args.net.now _ (stays-first c.args.job.now c.args.driver.now c.args.arrivals);
  rests = c.requires.rests;
  taking = refl;
  sending = omega arith;
}

pub settle-requires-clause-stands : goal.settle-requires-clause-stands
settle-requires-clause-stands g c =
    some-taken c.args.job.now c.loop-taken.driver c.take.new.self (came c.in_ok-arrival.arrival c.next.new.buf) c.in_ok-done.done c.loop-taken.invariant.rests c.in_ok-done.ensures

pub returns-in_err-arrival-clause-plays : goal.returns-in_err-arrival-clause-plays
returns-in_err-arrival-clause-plays g c =
    let p = err_from_is_err_and c.from_residual.result c.from_residual.ensures.1 in
    rw (p.1, p.2) (Adds-kept g.N.Net.told g.N.Net.tells c.args.net.now c.loop-taken.net c.next.new.self _ _ c.loop-taken.invariant.plays c.in_err-arrival.ensures.tells
    (λ moves rests. plays-cut c.args.job.now c.args.driver.now c.loop-taken.driver c.args.arrivals c.loop-taken._taken moves
    (subst (λ (n : ℕ). Rose n (g.N.Net.taking_faults c.next.new.self)) c.loop-taken.invariant.taking c.in_err-arrival.ensures.cause.rose)
    rests c.loop-taken-test.true))

pub returns-in_err-done-clause-plays : goal.returns-in_err-done-clause-plays
returns-in_err-done-clause-plays g c =
    let p = err_from_is_err_and c.from_residual-in_err-done.result c.from_residual-in_err-done.ensures.1 in
    rw (p.1, p.2) (Adds-more g.N.Net.told g.N.Net.tells c.args.net.now c.loop-taken.net c.next.new.self _ _ _ c.loop-taken.invariant.plays c.in_ok-arrival.ensures.tells
    (λ moves rests. starved-taking c.args.job.now c.args.driver.now c.loop-taken.driver c.args.arrivals c.loop-taken._taken _ moves rests c.loop-taken-test.true))

pub returns-in_err-reply-clause-plays : goal.returns-in_err-reply-clause-plays
returns-in_err-reply-clause-plays g c =
    let p = err_from_is_err_and c.from_residual-in_err-reply.result c.from_residual-in_err-reply.ensures.1 in
    let a = came c.in_ok-arrival.arrival c.next.new.buf in
    rw (p.1, p.2) (Adds-append g.N.Net.told g.N.Net.tells c.args.net.now c.close_done.new.net c.settle.new.net _ _ _
    (adds-behind g.N.Net.told g.N.Net.tells c.args.net.now c.loop-taken.net c.next.new.self c.close_done.new.net c.args.job.now c.args.driver.now c.loop-taken.driver c.args.arrivals c.loop-taken._taken a
    c.in_ok-done.done c.loop-taken.invariant.plays c.in_ok-arrival.ensures.tells c.close_done.ensures.plays)
    c.in_err-reply.ensures.plays
    (λ first second b settles. behind-stopped c.args.job.now c.args.driver.now c.loop-taken.driver c.take.new.self c.settle.new.driver c.args.arrivals c.loop-taken._taken a c.in_ok-done.done
    c.in_err-reply.field-0.0 first second c.loop-taken-test.true c.in_ok-done.ensures b settles))

pub returns-in-Some-clause-plays : goal.returns-in-Some-clause-plays
returns-in-Some-clause-plays g c =
    let a = came c.in_ok-arrival.arrival c.next.new.buf in
    Adds-append g.N.Net.told g.N.Net.tells c.args.net.now c.close_done.new.net c.settle.new.net _ _ _
    (adds-behind g.N.Net.told g.N.Net.tells c.args.net.now c.loop-taken.net c.next.new.self c.close_done.new.net c.args.job.now c.args.driver.now c.loop-taken.driver c.args.arrivals c.loop-taken._taken a
    c.in_ok-done.done c.loop-taken.invariant.plays c.in_ok-arrival.ensures.tells c.close_done.ensures.plays)
    (subst (λ (reply : Option Reply). Adds g.N.Net.told g.N.Net.tells c.close_done.new.net c.settle.new.net (Settles c.args.job.now c.take.new.self c.settle.new.driver (Ok reply)))
    c.in-Some.is c.in_ok-reply.ensures.plays)
    (λ first second b settles. behind-replied c.args.job.now c.args.driver.now c.loop-taken.driver c.take.new.self c.settle.new.driver c.args.arrivals c.loop-taken._taken a c.in_ok-done.done
    c.in-Some.reply first second c.loop-taken-test.true c.in_ok-done.ensures b settles)

pub returns-clause-plays : goal.returns-clause-plays
returns-clause-plays g c =
    Adds-weaken g.N.Net.told g.N.Net.tells c.args.net.now c.loop-taken.net _ _ c.loop-taken.invariant.plays
    (λ moves rests. plays-out c.args.job.now c.args.driver.now c.loop-taken.driver c.args.arrivals c.not_yet.result moves
    (subst (λ (n : ℕ). Stays c.args.job.now c.args.driver.now c.args.arrivals n c.loop-taken.driver moves) (omega arith) rests) c.not_yet.ensures)

pub loop-taken-preserved : goal.loop-taken-preserved
loop-taken-preserved g c =
    let a = came c.in_ok-arrival.arrival c.next.new.buf in
    record {
      plays = Adds-append g.N.Net.told g.N.Net.tells c.args.net.now c.close_done.new.net c.settle.new.net _ _ _
          (adds-behind g.N.Net.told g.N.Net.tells c.args.net.now c.loop-taken.net c.next.new.self c.close_done.new.net c.args.job.now c.args.driver.now c.loop-taken.driver c.args.arrivals c.loop-taken._taken a
          c.in_ok-done.done c.loop-taken.invariant.plays c.in_ok-arrival.ensures.tells c.close_done.ensures.plays)
          (subst (λ (reply : Option Reply). Adds g.N.Net.told g.N.Net.tells c.close_done.new.net c.settle.new.net (Settles c.args.job.now c.take.new.self c.settle.new.driver (Ok reply)))
          c.in-None.is c.in_ok-reply.ensures.plays)
          (λ first second b settles. behind-stays c.args.job.now c.args.driver.now c.loop-taken.driver c.take.new.self c.settle.new.driver c.args.arrivals c.loop-taken._taken a c.in_ok-done.done
          first second c.loop-taken-test.true c.in_ok-done.ensures b settles);
      rests = subst (λ (reply : Option Reply). SettlesSoundly c.args.job.now c.settle.new.driver (Ok reply)) c.in-None.is c.in_ok-reply.ensures.sound;
      taking = c.in_ok-reply.ensures.taking ∙ c.close_done.ensures.taking ∙ c.in_ok-arrival.ensures.cause.kept ∙ c.loop-taken.invariant.taking;
      sending = omega (arith, c.in_ok-reply.ensures.sending, c.close_done.ensures.sending, c.in_ok-arrival.ensures.other, c.loop-taken.invariant.sending);
    }
