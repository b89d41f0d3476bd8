use Rattle.std.proofs.Common.{◌≡◌, ◌≢◌, ◌++◌, Option, Some, None, Ok, sym, ap, ◌∙◌, subst}
use Rattle.std.proofs.lemmas.Result.{IfOk-weaker}
use Rattle.hy_record.specs.declared.cloud.CloudSay.{CloudSay}
use Rattle.hy_record.specs.declared.cloud.CloudSay.TheVariants as says
use Rattle.hy_cwire.specs.declared.fault.HttpFault.TheVariants.{NoMemory}
use Rattle.hy_cwire.specs.declared.kind.WishKind.{WishKind}
use Rattle.hy_cwire.specs.Readers.{Answering, say_body_size}
use Rattle.hy_drive.specs.Held.{ReadsReply, ReadsTo}
use Rattle.hy_serve.proofs.Incomplete.{ok-memory, err-memory, incomplete-live, incomplete-open}
use Rattle.hy_drive.proofs.Reading.{reads-wrong, reads-whole, reads-partial}
use Rattle.hy_drive.proofs.cloud_lines.read.Goals as goal

pub returns-in-Ok-Some : goal.returns-in-Ok-Some
returns-in-Ok-Some c = λ waiting bytes at.
    let fed = ok-memory c.feed.result c.in-Ok.field-0 c.in-Ok.is in
    subst (λ (asked : WishKind). ReadsTo (bytes ++ c.args.piece.now) asked c.next.new.self (Some c.in-Ok-Some.say)) c.feed.ensures.asked
    (reads-whole c.feed.new.self.asked (bytes ++ c.args.piece.now) c.feed.new.self.progress c.next.new.self c.in-Ok-Some.say
    (ap (λ (g : Option CloudSay). Ok g) (sym c.in-Ok-Some.field-0-is) ∙ sym c.in-Ok-Some.is ∙ c.next.ensures.answer)
    (c.feed.ensures.stands fed (incomplete-live say_body_size _ waiting) bytes at) (ap (λ (a : Answering). a.asked) c.next.ensures.after))

pub returns-in-Ok-None : goal.returns-in-Ok-None
returns-in-Ok-None c = λ waiting bytes at.
    let fed = ok-memory c.feed.result c.in-Ok.field-0 c.in-Ok.is in
    subst (λ (asked : WishKind). ReadsTo (bytes ++ c.args.piece.now) asked c.next.new.self None) c.feed.ensures.asked
    (reads-partial c.feed.new.self.asked (bytes ++ c.args.piece.now) c.feed.new.self.progress c.next.new.self
    (ap (λ (g : Option CloudSay). Ok g) (sym c.in-Ok-None.field-0-is) ∙ sym c.in-Ok-None.is ∙ c.next.ensures.answer)
    (ap (λ (a : Answering). a.progress) c.next.ensures.after)
    (c.feed.ensures.stands fed (incomplete-live say_body_size _ waiting) bytes at) (c.feed.ensures.open fed (incomplete-open say_body_size _ waiting)) (ap (λ (a : Answering). a.asked) c.next.ensures.after))

pub returns-in-Err : goal.returns-in-Err
returns-in-Err c = IfOk-weaker c.unreadable-in-Err.result
    (λ (say : Option CloudSay). (say ≡ Some (says.Bad 0)) × (c.in-Err.fault ≢ NoMemory))
    (ReadsReply c.args.reader.now c.feed.new.self c.args.piece.now)
    (λ say is waiting bytes at.
    let fed = err-memory c.feed.result c.in-Err.fault c.in-Err.is is.1 in
    subst (λ (s : Option CloudSay). ReadsTo (bytes ++ c.args.piece.now) c.args.reader.now.asked c.feed.new.self s) (sym is.0)
    (reads-wrong c.args.reader.now.asked (bytes ++ c.args.piece.now) c.feed.new.self.progress c.feed.new.self c.in-Err.fault (sym c.in-Err.is ∙ c.feed.ensures.answer fed)
    (c.feed.ensures.stands fed (incomplete-live say_body_size _ waiting) bytes at) (c.feed.ensures.open fed (incomplete-open say_body_size _ waiting)) c.feed.ensures.asked))
    c.unreadable-in-Err.ensures
