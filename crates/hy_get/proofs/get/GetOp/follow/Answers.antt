use Rattle.std.proofs.Common.{◌∙◌, ap, sym, subst, [], Option, Some}
use Rattle.hy_record.specs.declared.action.Reply.TheVariants as told
use Rattle.hy_record.specs.Stamp.{Timestamp}
use Rattle.hy_record.specs.Record.{RecordValue, IsRecord}
use Rattle.hy_get.specs.declared.get.GetOp.{GetOp}
use Rattle.hy_get.specs.declared.get.State.TheVariants.{Fetching}
use Rattle.hy_get.specs.Requests.{plan_of}
use Rattle.hy_get.specs.Standing.{Begins}
use Rattle.hy_get.proofs.Standing.{turn_with}
use Rattle.hy_get.proofs.Beginnings.{begins-none, begins-tomb, begins-value}
use Rattle.hy_get.proofs.get.GetOp.follow.Goals as goal

pub returns-in-None-clause-begins : goal.returns-in-None-clause-begins
returns-in-None-clause-begins c =
    subst (λ (x : Option RecordValue). Begins (plan_of c.args.self.now.issuer) x c.reply_absent.result c.reply_absent.new.self.state) (sym c.in-None.is)
    (begins-none _ c.reply_absent.result c.reply_absent.new.self.state (c.reply_absent.ensures.turn ∙ ap (λ (t : Timestamp). turn_with [] (Some (told.Absent t))) c.zero.ensures) (ap (λ (g : GetOp). g.state) c.reply_absent.ensures.after))

pub returns-then-is_tomb-clause-begins : goal.returns-then-is_tomb-clause-begins
returns-then-is_tomb-clause-begins c =
    subst (λ (x : Option RecordValue). Begins (plan_of c.args.self.now.issuer) x c.reply_absent-then-is_tomb.result c.reply_absent-then-is_tomb.new.self.state) (sym c.in-Some.is)
    (begins-tomb _ c.in-Some.rec c.reply_absent-then-is_tomb.result c.reply_absent-then-is_tomb.new.self.state (subst IsRecord c.known.ensures.same c.known.ensures.ruled) (sym c.is_tomb.ensures ∙ c.if-is_tomb.true)
    (c.reply_absent-then-is_tomb.ensures.turn ∙ ap (λ (t : Timestamp). turn_with [] (Some (told.Absent t))) (c.stamp.ensures ∙ ap (λ (r : RecordValue). r.stamp) c.known.ensures.same)) (ap (λ (g : GetOp). g.state) c.reply_absent-then-is_tomb.ensures.after))

pub returns-in_ok-sends-in-Some-clause-begins : goal.returns-in_ok-sends-in-Some-clause-begins
returns-in_ok-sends-in-Some-clause-begins c =
    subst (λ (x : Option RecordValue). Begins (plan_of c.args.self.now.issuer) x c.sending.result (Fetching c.in_ok-fetch-in-Some.fetch)) (sym c.in-Some.is)
    (begins-value _ c.in-Some.rec _ c.in_ok-fetch-in-Some.fetch _ c.in_ok-fetch-in-Some.ensures.rec c.in_ok-fetch-in-Some.ensures.awaits (c.in_ok-sends-in-Some.ensures _ c.in_ok-fetch-in-Some.ensures.awaits.follows) c.sending.ensures)
