-- The entry that was lent is put back.
use Rattle.std.proofs.Common.{◌≡◌, refl}
use Rattle.hy_meta.specs.Entry.{EntryValue, EntryPut, outdated}
use Rattle.hy_meta.specs.Entries.{entry_at}
use Rattle.hy_meta.proofs.Places.{on_ok, on_err}
use Rattle.hy_meta.proofs.Puts.{put-made, put-same, nothing-made}
use Rattle.hy_meta.proofs.service.EntriesKeeps.outdate.Goals as goal

pub returns-in-Some-clause-ok : goal.returns-in-Some-clause-ok
returns-in-Some-clause-ok c =
    let old = entry_at c.args.self.now in
    let key = c.args.key.now in
    let was : EntryValue = c.in-Some.entry.now in
    let now : EntryValue = c.outdate.new.self in
    let new = entry_at (c.get_mut.follows.lender now) in
    let found : was ≡ old key = c.in-Some.ensures.value in
    let puts : EntryPut old new key now = (rw c.in-Some.is at c.get_mut.follows.holds now) in
    on_ok c.outdate.result c.outdate.ensures.ok (λ made. put-made old new key now (λ e. outdated e c.args.stamp) was found made puts)

pub returns-in-Some-clause-err : goal.returns-in-Some-clause-err
returns-in-Some-clause-err c =
    let old = entry_at c.args.self.now in
    let key = c.args.key.now in
    let was : EntryValue = c.in-Some.entry.now in
    let now : EntryValue = c.outdate.new.self in
    let new = entry_at (c.get_mut.follows.lender now) in
    let found : was ≡ old key = c.in-Some.ensures.value in
    let puts : EntryPut old new key now = (rw c.in-Some.is at c.get_mut.follows.holds now) in
    on_err c.outdate.result c.outdate.ensures.err (λ same. put-same old new key was now found same puts)

pub returns-in-None-clause-ok : goal.returns-in-None-clause-ok
returns-in-None-clause-ok c =
    nothing-made (entry_at c.args.self.now) (entry_at c.get_mut.follows.lender-at-none) c.args.key.now (λ e. outdated e c.args.stamp) c.get_mut.follows.holds-at-none c.in-None.ensures.value refl
