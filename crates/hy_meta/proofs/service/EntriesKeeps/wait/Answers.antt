-- The entry that was lent is put back.
use Rattle.std.proofs.Common.{◌≡◌, ap}
use Rattle.std.specs.Result.{is_ok}
use Rattle.hy_meta.specs.Entry.{EntryValue, EntryPut, waited}
use Rattle.hy_meta.specs.Entries.{entry_at}
use Rattle.hy_meta.proofs.Places.{on_ok, on_err}
use Rattle.hy_meta.proofs.Puts.{put-made, put-same}
use Rattle.hy_meta.proofs.service.EntriesKeeps.wait.Goals as goal

pub returns-clause-ok : goal.returns-clause-ok
returns-clause-ok c =
    let old = entry_at c.args.self.now in
    let key = c.args.watcher.key in
    let was : EntryValue = c.in_ok-entry.entry.now in
    let now : EntryValue = c.wait.new.self in
    let new = entry_at (c.get_or_add.follows.lender now) in
    let found : was ≡ old key = c.in_ok-entry.ensures.value in
    let puts : EntryPut old new key now = c.get_or_add.follows.holds now (ap is_ok c.in_ok-entry.was) in
    on_ok c.wait.result c.wait.ensures.ok (λ made. put-made old new key now (λ e. waited e c.args.watcher) was found made puts)

pub returns-clause-err : goal.returns-clause-err
returns-clause-err c =
    let old = entry_at c.args.self.now in
    let key = c.args.watcher.key in
    let was : EntryValue = c.in_ok-entry.entry.now in
    let now : EntryValue = c.wait.new.self in
    let new = entry_at (c.get_or_add.follows.lender now) in
    let found : was ≡ old key = c.in_ok-entry.ensures.value in
    let puts : EntryPut old new key now = c.get_or_add.follows.holds now (ap is_ok c.in_ok-entry.was) in
    on_err c.wait.result c.wait.ensures.err (λ same. put-same old new key was now found same puts)
