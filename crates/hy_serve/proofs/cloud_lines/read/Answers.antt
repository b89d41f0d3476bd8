use Rattle.std.proofs.Common.{◌≡◌, ◌≢◌, ◌++◌, Option, Ok, sym, ap, ◌∙◌, subst}
use Rattle.std.proofs.lemmas.Result.{IfOk-weaker}
use Rattle.hy_record.specs.declared.cloud.Wish.{Wish}
use Rattle.hy_serve.specs.declared.cloud_lines.Reading.{Reading}
use Rattle.hy_cwire.specs.declared.fault.HttpFault.TheVariants.{NoMemory}
use Rattle.hy_serve.specs.declared.cloud_lines.Reading.TheVariants.{Wrong}
use Rattle.hy_serve.specs.CloudStanding.{Reads, ReadsTo}
use Rattle.hy_cwire.specs.Readers.{ask_body_size}
use Rattle.hy_serve.proofs.Incomplete.{ok-memory, err-memory, incomplete-live, incomplete-open}
use Rattle.hy_serve.proofs.Reading.{reads-wrong, reads-whole, reads-partial}
use Rattle.hy_serve.proofs.cloud_lines.read.Goals as goal

pub returns-in-Ok-Some : goal.returns-in-Ok-Some
returns-in-Ok-Some c = λ waiting bytes at.
    let fed = ok-memory c.feed.result c.in-Ok.field-0 c.in-Ok.is in
    reads-whole (bytes ++ c.args.piece.now) c.feed.new.self c.next.new.self c.in-Ok-Some.wish
    (ap (λ (g : Option Wish). Ok g) (sym c.in-Ok-Some.field-0-is) ∙ sym c.in-Ok-Some.is ∙ c.next.ensures.answer)
    (c.feed.ensures.stands fed (incomplete-live ask_body_size _ waiting) bytes at)

pub returns-in-Ok-None : goal.returns-in-Ok-None
returns-in-Ok-None c = λ waiting bytes at.
    let fed = ok-memory c.feed.result c.in-Ok.field-0 c.in-Ok.is in
    reads-partial (bytes ++ c.args.piece.now) c.feed.new.self c.next.new.self
    (ap (λ (g : Option Wish). Ok g) (sym c.in-Ok-None.field-0-is) ∙ sym c.in-Ok-None.is ∙ c.next.ensures.answer)
    c.next.ensures.after (c.feed.ensures.stands fed (incomplete-live ask_body_size _ waiting) bytes at) (c.feed.ensures.open fed (incomplete-open ask_body_size _ waiting))

pub returns-in-Err : goal.returns-in-Err
returns-in-Err c = IfOk-weaker c.wrong-in-Err.result
    (λ (reading : Reading). (reading ≡ Wrong c.in-Err.fault) × (c.in-Err.fault ≢ NoMemory))
    (Reads c.args.reader.now c.feed.new.self c.args.piece.now)
    (λ reading is waiting bytes at.
    let fed = err-memory c.feed.result c.in-Err.fault c.in-Err.is is.1 in
    subst (λ (r : Reading). ReadsTo (bytes ++ c.args.piece.now) c.feed.new.self r) (sym is.0)
    (reads-wrong (bytes ++ c.args.piece.now) c.feed.new.self c.in-Err.fault (sym c.in-Err.is ∙ c.feed.ensures.answer fed)
    (c.feed.ensures.stands fed (incomplete-live ask_body_size _ waiting) bytes at) (c.feed.ensures.open fed (incomplete-open ask_body_size _ waiting))))
    c.wrong-in-Err.ensures
