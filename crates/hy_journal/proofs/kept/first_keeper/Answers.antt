use Rattle.std.proofs.Common.{◌∷◌, [], List, ℕ, ap, ◌∙◌}
use Rattle.hy_disk.specs.MemDisk.{fresh_disk}
use Rattle.hy_journal.specs.declared.kept.TheConstants.{KEPT_ROOM}
use Rattle.hy_journal.proofs.Beginning.{fresh_holds, played_from, fails_from, played_again}
use Rattle.hy_journal.proofs.kept.first_keeper.Goals as goal

pub reopened-requires : goal.reopened-requires
reopened-requires c =
    let failing = ap (λ (l : List ℕ). fresh_disk KEPT_ROOM l) c.in_ok-failing.ensures.items in
    let fresh = c.in_ok-disk.ensures ∙ failing in
    let holds = fresh_holds c.in_ok-disk.disk (c.args.stop ∷ []) fresh in
    let left = (c.in-Err.ensures.survives_err [] [] holds).1 in
    (fails_from c.args.stop c.in_ok-disk.disk c.in-Err.disk c.ranges.stop.fits fresh c.in-Err.ensures.reach_err c.in-Err.ensures.few
    (c.in-Err.ensures.rose c.in-DiskFault.is) left).reopens

pub unreachable-requires-in-BadEntry : goal.unreachable-requires-in-BadEntry
unreachable-requires-in-BadEntry c =
    let failing = ap (λ (l : List ℕ). fresh_disk KEPT_ROOM l) c.in_ok-failing.ensures.items in
    let fresh = c.in_ok-disk.ensures ∙ failing in
    let holds = fresh_holds c.in_ok-disk.disk (c.args.stop ∷ []) fresh in
    rw c.in-BadEntry.is at (c.in-Err.ensures.survives_err [] [] holds).0

pub returns-in-Ok : goal.returns-in-Ok
returns-in-Ok c =
    let failing = ap (λ (l : List ℕ). fresh_disk KEPT_ROOM l) c.in_ok-failing.ensures.items in
    let fresh = c.in_ok-disk.ensures ∙ failing in
    let holds = fresh_holds c.in_ok-disk.disk (c.args.stop ∷ []) fresh in
    played_from c.args.stop c.in_ok-disk.disk c.in-Ok.keeper c.ranges.stop.fits fresh (c.in-Ok.ensures.survives [] [] holds).0
    c.in-Ok.ensures.reach c.in-Ok.ensures.calls

pub returns-in_ok-again-in-DiskFault : goal.returns-in_ok-again-in-DiskFault
returns-in_ok-again-in-DiskFault c =
    let failing = ap (λ (l : List ℕ). fresh_disk KEPT_ROOM l) c.in_ok-failing.ensures.items in
    let fresh = c.in_ok-disk.ensures ∙ failing in
    let holds = fresh_holds c.in_ok-disk.disk (c.args.stop ∷ []) fresh in
    let left = (c.in-Err.ensures.survives_err [] [] holds).1 in
    let fails = fails_from c.args.stop c.in_ok-disk.disk c.in-Err.disk c.ranges.stop.fits fresh c.in-Err.ensures.reach_err c.in-Err.ensures.few
    (c.in-Err.ensures.rose c.in-DiskFault.is) left in
    played_again c.args.stop c.in-Err.disk c.in_ok-again-in-DiskFault.again c.ranges.stop.fits fails c.in_ok-again-in-DiskFault.ensures.finds c.in_ok-again-in-DiskFault.ensures.reach
