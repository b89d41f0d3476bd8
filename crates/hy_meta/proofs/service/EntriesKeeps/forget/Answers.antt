-- The entry that was lent is put back.
use Rattle.std.proofs.Common.{◌≡◌, refl}
use Rattle.hy_meta.specs.Entry.{EntryValue, EntryPut, forgotten}
use Rattle.hy_meta.specs.Entries.{entry_at}
use Rattle.hy_meta.proofs.Puts.{put-made, nothing-made}
use Rattle.hy_meta.proofs.service.EntriesKeeps.forget.Goals as goal

pub returns-in-Some : goal.returns-in-Some
returns-in-Some c =
    let old = entry_at c.args.self.now in
    let key = c.args.key.now in
    let was : EntryValue = c.in-Some.entry.now in
    let now : EntryValue = c.forget.new.self in
    let new = entry_at (c.get_mut.follows.lender now) in
    let found : was ≡ old key = c.in-Some.ensures.value in
    let puts : EntryPut old new key now = (rw c.in-Some.is at c.get_mut.follows.holds now) in
    put-made old new key now (λ e. forgotten e c.args.stamps.now) was found c.forget.ensures puts

pub returns-in-None : goal.returns-in-None
returns-in-None c =
    nothing-made (entry_at c.args.self.now) (entry_at c.get_mut.follows.lender-at-none) c.args.key.now (λ e. forgotten e c.args.stamps.now) c.get_mut.follows.holds-at-none c.in-None.ensures.value refl
