use Rattle.std.proofs.Common.{◌≡◌, ◌+◌, ◌<◌, ℕ, [], ◌∷◌, length, ap, ◌∙◌, arith, length-append}
use Rattle.hy_base.specs.declared.limits.TheConstants.{MAX_SESSIONS}
use Rattle.hy_journal.specs.declared.entry.Entry.TheVariants.{Join}
use Rattle.hy_journal.specs.Entry.{entry_bytes}
use Rattle.hy_journal.specs.Keeper.{disk_of, end_with}
use Rattle.hy_journal.proofs.Adding.{folded_join, session_more}
use Rattle.hy_journal.proofs.Standing.{is_join, still, can_append, same_fold}
use Rattle.hy_journal.proofs.keeper.Keeper.join.Goals as goal

pub returns-then-self-ge-MAX_SESSIONS-clause-any_moment : goal.returns-then-self-ge-MAX_SESSIONS-clause-any_moment
returns-then-self-ge-MAX_SESSIONS-clause-any_moment g c entries served stands =
    still g.D.Disk.contents g.D.Disk.may_leave g.D.Disk.moment g.D.Disk.left_since g.met.D.Disk.only_now c.args.self.now entries (Join ∷ []) served stands

pub returns-in_err-bytes-clause-any_moment : goal.returns-in_err-bytes-clause-any_moment
returns-in_err-bytes-clause-any_moment g c entries served stands =
    still g.D.Disk.contents g.D.Disk.may_leave g.D.Disk.moment g.D.Disk.left_since g.met.D.Disk.only_now c.args.self.now entries (Join ∷ []) served stands

pub returns-then-end-gt-MAX_JOURNAL-clause-any_moment : goal.returns-then-end-gt-MAX_JOURNAL-clause-any_moment
returns-then-end-gt-MAX_JOURNAL-clause-any_moment g c entries served stands =
    still g.D.Disk.contents g.D.Disk.may_leave g.D.Disk.moment g.D.Disk.left_since g.met.D.Disk.only_now c.args.self.now entries (Join ∷ []) served stands

pub returns-in_err-write-clause-any_moment : goal.returns-in_err-write-clause-any_moment
returns-in_err-write-clause-any_moment g c entries served stands =
    let size : length c.deref.result.now ≡ c.len.result = omega (arith, ap (length {A = ℕ}) c.deref.ensures.value, c.len.ensures, c.in_ok-bytes.bytes.ok.0) in
    let can = can_append g.D.Disk.contents g.D.Disk.may_leave c.args.self.now entries served stands Join c.deref.result.now is_join
    (c.deref.ensures.value ∙ c.in_ok-bytes.ensures) (omega (arith, size, c.if-end-gt-MAX_JOURNAL.false)) in
    c.write.ensures.any_moment entries Join can

pub returns-clause-any_moment : goal.returns-clause-any_moment
returns-clause-any_moment g c entries served stands =
    let size : length c.deref.result.now ≡ c.len.result = omega (arith, ap (length {A = ℕ}) c.deref.ensures.value, c.len.ensures, c.in_ok-bytes.bytes.ok.0) in
    let can = can_append g.D.Disk.contents g.D.Disk.may_leave c.args.self.now entries served stands Join c.deref.result.now is_join
    (c.deref.ensures.value ∙ c.in_ok-bytes.ensures) (omega (arith, size, c.if-end-gt-MAX_JOURNAL.false)) in
    c.write.ensures.any_moment entries Join can

pub returns-clause-ok : goal.returns-clause-ok
returns-clause-ok g c entries served stands =
    let size : length c.deref.result.now ≡ c.len.result = omega (arith, ap (length {A = ℕ}) c.deref.ensures.value, c.len.ensures, c.in_ok-bytes.bytes.ok.0) in
    let can = can_append g.D.Disk.contents g.D.Disk.may_leave c.args.self.now entries served stands Join c.deref.result.now is_join
    (c.deref.ensures.value ∙ c.in_ok-bytes.ensures) (omega (arith, size, c.if-end-gt-MAX_JOURNAL.false)) in
    let new = c.write.new.self.state in
    let old = c.args.self.now.state in
    let folds = same_fold entries served old.service new.service old.given new.given stands.folded c.write.ensures.service c.write.ensures.given in
    let below : new.given < MAX_SESSIONS = omega (arith, c.write.ensures.given, c.if-self-ge-MAX_SESSIONS.false) in
    record {
      sound = c.in_ok-write.ensures.sound;
      settled = c.in_ok-write.ensures.settled entries Join can;
      folded = folded_join entries served new.service new.given (new.given + 1) folds (session_more new.given below);
    }

pub returns-then-self-ge-MAX_SESSIONS-clause-reach : goal.returns-then-self-ge-MAX_SESSIONS-clause-reach
returns-then-self-ge-MAX_SESSIONS-clause-reach g c entries served stands =
    g.met.D.Disk.reach_more (disk_of c.args.self.now) (disk_of c.args.self.now) 0 4 0 (length (entry_bytes Join) + 2) 0
    (end_with entries (entry_bytes Join)) (omega arith) (omega arith) (omega arith)
    (g.met.D.Disk.reach_same (disk_of c.args.self.now))

pub returns-in_err-bytes-clause-reach : goal.returns-in_err-bytes-clause-reach
returns-in_err-bytes-clause-reach g c entries served stands =
    g.met.D.Disk.reach_more (disk_of c.args.self.now) (disk_of c.args.self.now) 0 4 0 (length (entry_bytes Join) + 2) 0
    (end_with entries (entry_bytes Join)) (omega arith) (omega arith) (omega arith)
    (g.met.D.Disk.reach_same (disk_of c.args.self.now))

pub returns-then-end-gt-MAX_JOURNAL-clause-reach : goal.returns-then-end-gt-MAX_JOURNAL-clause-reach
returns-then-end-gt-MAX_JOURNAL-clause-reach g c entries served stands =
    g.met.D.Disk.reach_more (disk_of c.args.self.now) (disk_of c.args.self.now) 0 4 0 (length (entry_bytes Join) + 2) 0
    (end_with entries (entry_bytes Join)) (omega arith) (omega arith) (omega arith)
    (g.met.D.Disk.reach_same (disk_of c.args.self.now))

pub returns-in_err-write-clause-reach : goal.returns-in_err-write-clause-reach
returns-in_err-write-clause-reach g c entries served stands =
    let size : length c.deref.result.now ≡ length (entry_bytes Join) + 1 = ap (length {A = ℕ}) (c.deref.ensures.value ∙ c.in_ok-bytes.ensures)
    ∙ length-append (entry_bytes Join) (0 ∷ []) in
    let e = c.args.self.now.state.end in
    let n = length c.deref.result.now in
    g.met.D.Disk.reach_more c.args.self.now.disk c.write.new.self.disk 4 4 (n + 1) (length (entry_bytes Join) + 2) (e + n)
    (end_with entries (entry_bytes Join)) (omega arith) (omega (arith, size))
    (omega (arith, size, stands.settled.behind)) c.write.ensures.reach

pub returns-clause-reach : goal.returns-clause-reach
returns-clause-reach g c entries served stands =
    let size : length c.deref.result.now ≡ length (entry_bytes Join) + 1 = ap (length {A = ℕ}) (c.deref.ensures.value ∙ c.in_ok-bytes.ensures)
    ∙ length-append (entry_bytes Join) (0 ∷ []) in
    let e = c.args.self.now.state.end in
    let n = length c.deref.result.now in
    g.met.D.Disk.reach_more c.args.self.now.disk c.write.new.self.disk 4 4 (n + 1) (length (entry_bytes Join) + 2) (e + n)
    (end_with entries (entry_bytes Join)) (omega arith) (omega (arith, size))
    (omega (arith, size, stands.settled.behind)) c.write.ensures.reach
