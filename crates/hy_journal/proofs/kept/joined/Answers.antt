use Rattle.std.proofs.Common.{Err, ◌∷◌, [], ◌++◌, List, ℕ, refl, ap, sym, subst, ◌∙◌}
use Rattle.hy_mwire.specs.declared.message.Message.TheVariants as messages
use Rattle.hy_journal.specs.declared.entry.Entry.TheVariants.{Join}
use Rattle.hy_journal.specs.Fold.{sessions_of}
use Rattle.hy_journal.specs.Playing.{CanReopen}
use Rattle.hy_journal.proofs.Weighing.{weighs_join}
use Rattle.hy_journal.proofs.Keeping.{can_reopen, holds_after, not_full, goes_answered, goes_reopened}
use Rattle.hy_journal.proofs.Answering.{id_some, id_left, session_left, not_both, not_both_full, adds_join, adds_none, says_id, says_full, goes_same}
use Rattle.hy_journal.proofs.kept.joined.Goals as goal

pub push_frame-requires : goal.push_frame-requires
push_frame-requires c =
    let at = c.requires.at in
    id_some c.requires.place.entries c.in-Ok.client (c.in-Ok.ensures.id c.requires.place.entries c.requires.place.served at.stands)

pub reopened-requires : goal.reopened-requires
reopened-requires c =
    let place = c.requires.place in
    let stands = c.requires.at.stands in
    let why = rw c.in-Err-DiskFault.field-0-is at c.in-Err-DiskFault.ensures.cause in
    let left = session_left (sessions_of place.entries) (λ full.
    not_both {T = ℕ} (Err c.in-Err-DiskFault.field-0) c.in-Err-DiskFault.field-0 refl c.in-Err-DiskFault.field-0-is
    (c.in-Err-DiskFault.ensures.none_left place.entries place.served stands full)) in
    let ends = why.2 place.entries place.served stands in
    subst CanReopen (sym c.into_disk.ensures)
    (can_reopen place messages.Join c.args.keeper c.join.new.self (Join ∷ []) ends.0 c.requires.at c.requires.fits (weighs_join place.entries left) ends.1
    (c.in-Err-DiskFault.ensures.reach place.entries place.served stands) c.in-Err-DiskFault.ensures.few why.1
    (holds_after place.entries (Join ∷ []) c.args.keeper.disk c.join.new.self.disk (c.in-Err-DiskFault.ensures.any_moment place.entries place.served stands)))

pub unreachable-requires-in-Err-Full : goal.unreachable-requires-in-Err-Full
unreachable-requires-in-Err-Full c =
    let place = c.requires.place in
    let stands = c.requires.at.stands in
    let why = rw c.in-Err-Full.field-0-is at c.in-Err-Full.ensures.cause in
    let left = session_left (sessions_of place.entries) (λ full.
    not_both_full {T = ℕ} (Err c.in-Err-Full.field-0) c.in-Err-Full.field-0 c.in-Err-Full.field-0-0 refl c.in-Err-Full.field-0-is
    (c.in-Err-Full.ensures.none_left place.entries place.served stands full)) in
    not_full place messages.Join c.args.keeper (Join ∷ []) c.in-Err-Full.field-0-0 c.requires.at c.requires.fits (weighs_join place.entries left)
    (why.2 place.entries place.served stands) why.1

pub returns-in_ok-push_frame-in-Ok : goal.returns-in_ok-push_frame-in-Ok
returns-in_ok-push_frame-in-Ok c place at known fits =
    let stands = at.stands in
    let id = c.in-Ok.ensures.id place.entries place.served stands in
    let left = id_left place.entries c.in-Ok.client id in
    goes_answered place messages.Join c.args.keeper c.join.new.self (Join ∷ []) c.args.output.now.items c.push_frame.new.output.items
    (adds_join place.entries left) at fits (weighs_join place.entries left) (c.in-Ok.ensures.ok place.entries place.served stands)
    (c.in-Ok.ensures.reach place.entries place.served stands) c.in-Ok.ensures.kept c.in-Ok.ensures.calls
    (c.in_ok-push_frame-in-Ok.ensures ∙ ap (λ (l : List ℕ). c.args.output.now.items ++ l) (sym (says_id place.entries place.served c.in-Ok.client id)))

pub returns-in_ok-push_frame-in-Err-SessionsFull : goal.returns-in_ok-push_frame-in-Err-SessionsFull
returns-in_ok-push_frame-in-Err-SessionsFull c place at known fits =
    let why = rw c.in-Err-SessionsFull.field-0-is at c.in-Err-SessionsFull.ensures.cause in
    let full = c.in-Err-SessionsFull.ensures.full c.in-Err-SessionsFull.field-0-is place.entries place.served at.stands in
    goes_same place messages.Join c.args.keeper c.join.new.self c.args.output.now.items c.push_frame-in-Err-SessionsFull.new.output.items
    (adds_none place.entries full) refl at fits why
    (c.in_ok-push_frame-in-Err-SessionsFull.ensures ∙ ap (λ (l : List ℕ). c.args.output.now.items ++ l) (sym (says_full place.entries place.served full)))

pub returns-in_ok-again-in-Err-DiskFault : goal.returns-in_ok-again-in-Err-DiskFault
returns-in_ok-again-in-Err-DiskFault c place at known fits =
    let stands = at.stands in
    let why = rw c.in-Err-DiskFault.field-0-is at c.in-Err-DiskFault.ensures.cause in
    let left = session_left (sessions_of place.entries) (λ full.
    not_both {T = ℕ} (Err c.in-Err-DiskFault.field-0) c.in-Err-DiskFault.field-0 refl c.in-Err-DiskFault.field-0-is
    (c.in-Err-DiskFault.ensures.none_left place.entries place.served stands full)) in
    let ends = why.2 place.entries place.served stands in
    let holds = holds_after place.entries (Join ∷ []) c.args.keeper.disk c.join.new.self.disk
    (c.in-Err-DiskFault.ensures.any_moment place.entries place.served stands) in
    goes_reopened place messages.Join c.args.keeper c.join.new.self c.in_ok-again-in-Err-DiskFault.again c.into_disk.result (Join ∷ []) ends.0
    c.args.output.now.items (adds_join place.entries left) at fits (weighs_join place.entries left) ends.1
    (c.in-Err-DiskFault.ensures.reach place.entries place.served stands) c.in-Err-DiskFault.ensures.few why.1 holds c.into_disk.ensures
    c.in_ok-again-in-Err-DiskFault.ensures.finds c.in_ok-again-in-Err-DiskFault.ensures.reach
