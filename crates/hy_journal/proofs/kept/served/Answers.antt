use Rattle.std.proofs.Common.{◌++◌, List, All, map, refl, ap, sym, subst, ◌∙◌}
use Rattle.hy_record.specs.declared.message.MetaSay.{MetaSay}
use Rattle.hy_mwire.specs.declared.message.Message.TheVariants as messages
use Rattle.hy_mwire.specs.Frames.{frames_of}
use Rattle.hy_mwire.specs.Message.{IsFramedSay}
use Rattle.hy_journal.specs.Fold.{entries_of}
use Rattle.hy_journal.specs.Playing.{CanReopen}
use Rattle.hy_journal.proofs.Keeping.{can_reopen, holds_after, not_full, goes_answered, goes_reopened}
use Rattle.hy_journal.proofs.Answering.{answers_framed, weighs_served, calls_served}
use Rattle.hy_journal.proofs.kept.served.Goals as goal

pub push_says-requires : goal.push_says-requires
push_says-requires c =
    let place = c.requires.place in
    subst (λ (l : List MetaSay). All IsFramedSay l) (sym (c.in-Ok.ensures.says place.entries place.served c.requires.at.stands))
    (answers_framed place.served c.args.ask.now c.requires.known.1)

pub reopened-requires : goal.reopened-requires
reopened-requires c =
    let place = c.requires.place in
    let stands = c.requires.at.stands in
    let ask = c.args.ask.now in
    let why = rw c.in-Err-DiskFault.field-0-is at c.in-Err-DiskFault.ensures.cause in
    let ends = why.2 place.entries place.served stands in
    subst CanReopen (sym c.into_disk.ensures)
    (can_reopen place (messages.Ask ask) c.args.keeper c.serve.new.self (entries_of ask) ends.0 c.requires.at c.requires.fits
    (weighs_served place.entries ask c.requires.known.1) ends.1
    (c.in-Err-DiskFault.ensures.reach place.entries place.served stands) c.in-Err-DiskFault.ensures.few why.1
    (holds_after place.entries (entries_of ask) c.args.keeper.disk c.serve.new.self.disk (c.in-Err-DiskFault.ensures.any_moment place.entries place.served stands)))

pub unreachable-requires-in-Err-Full : goal.unreachable-requires-in-Err-Full
unreachable-requires-in-Err-Full c =
    let place = c.requires.place in
    let stands = c.requires.at.stands in
    let ask = c.args.ask.now in
    let why = rw c.in-Err-Full.field-0-is at c.in-Err-Full.ensures.cause in
    not_full place (messages.Ask ask) c.args.keeper (entries_of ask) c.in-Err-Full.field-0-0 c.requires.at c.requires.fits
    (weighs_served place.entries ask c.requires.known.1) (why.2 place.entries place.served stands) why.1

pub returns-in_ok-push_says-in-Ok : goal.returns-in_ok-push_says-in-Ok
returns-in_ok-push_says-in-Ok c place at known fits =
    let stands = at.stands in
    let ask = c.args.ask.now in
    goes_answered place (messages.Ask ask) c.args.keeper c.serve.new.self (entries_of ask) c.args.output.now.items c.push_says.new.output.items
    refl at fits (weighs_served place.entries ask known.1) (c.in-Ok.ensures.ok place.entries place.served stands)
    (c.in-Ok.ensures.reach place.entries place.served stands) c.in-Ok.ensures.kept
    (c.in-Ok.ensures.calls ∙ calls_served ask c.args.keeper.disk.calls)
    (c.in_ok-push_says-in-Ok.ensures
    ∙ ap (λ (l : List MetaSay). c.args.output.now.items ++ frames_of (map messages.Say l)) (c.in-Ok.ensures.says place.entries place.served stands))

pub returns-in_ok-again-in-Err-DiskFault : goal.returns-in_ok-again-in-Err-DiskFault
returns-in_ok-again-in-Err-DiskFault c place at known fits =
    let stands = at.stands in
    let ask = c.args.ask.now in
    let why = rw c.in-Err-DiskFault.field-0-is at c.in-Err-DiskFault.ensures.cause in
    let ends = why.2 place.entries place.served stands in
    let holds = holds_after place.entries (entries_of ask) c.args.keeper.disk c.serve.new.self.disk
    (c.in-Err-DiskFault.ensures.any_moment place.entries place.served stands) in
    goes_reopened place (messages.Ask ask) c.args.keeper c.serve.new.self c.in_ok-again-in-Err-DiskFault.again c.into_disk.result (entries_of ask) ends.0
    c.args.output.now.items refl at fits (weighs_served place.entries ask known.1) ends.1
    (c.in-Err-DiskFault.ensures.reach place.entries place.served stands) c.in-Err-DiskFault.ensures.few why.1 holds c.into_disk.ensures
    c.in_ok-again-in-Err-DiskFault.ensures.finds c.in_ok-again-in-Err-DiskFault.ensures.reach
