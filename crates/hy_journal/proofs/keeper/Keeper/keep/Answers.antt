use Rattle.std.proofs.Common.{◌≡◌, ◌+◌, ◌++◌, true, ℕ, [], ◌∷◌, length, ap, ◌∙◌, arith, length-append}
use Rattle.hy_journal.specs.declared.entry.Entry.TheVariants.{Ask}
use Rattle.hy_journal.specs.Entry.{is_kept, entry_bytes}
use Rattle.hy_journal.specs.Keeper.{disk_of, end_with}
use Rattle.hy_journal.proofs.Adding.{folded_ask}
use Rattle.hy_journal.proofs.Standing.{still, can_append, same_fold}
use Rattle.hy_journal.proofs.keeper.Keeper.keep.Goals as goal

pub returns-in_err-bytes-clause-any_moment : goal.returns-in_err-bytes-clause-any_moment
returns-in_err-bytes-clause-any_moment g c entries served stands =
    still g.D.Disk.contents g.D.Disk.may_leave g.D.Disk.moment g.D.Disk.left_since g.met.D.Disk.only_now c.args.self.now entries
    (Ask c.args.ask.now ∷ []) served stands

pub returns-then-end-gt-MAX_JOURNAL-clause-any_moment : goal.returns-then-end-gt-MAX_JOURNAL-clause-any_moment
returns-then-end-gt-MAX_JOURNAL-clause-any_moment g c entries served stands =
    still g.D.Disk.contents g.D.Disk.may_leave g.D.Disk.moment g.D.Disk.left_since g.met.D.Disk.only_now c.args.self.now entries
    (Ask c.args.ask.now ∷ []) served stands

pub returns-in_err-says-clause-any_moment : goal.returns-in_err-says-clause-any_moment
returns-in_err-says-clause-any_moment g c entries served stands =
    still g.D.Disk.contents g.D.Disk.may_leave g.D.Disk.moment g.D.Disk.left_since g.met.D.Disk.only_now c.args.self.now entries
    (Ask c.args.ask.now ∷ []) served stands

pub returns-in_err-write-clause-any_moment : goal.returns-in_err-write-clause-any_moment
returns-in_err-write-clause-any_moment g c entries served stands =
    let ask = c.args.ask.now in
    let size : length c.deref.result.now ≡ c.len.result = omega (arith, ap (length {A = ℕ}) c.deref.ensures.value, c.len.ensures, c.in_ok-bytes.bytes.ok.0) in
    let can = can_append g.D.Disk.contents g.D.Disk.may_leave c.args.self.now entries served stands
    (Ask ask) c.deref.result.now c.in_ok-bytes.ensures.known (c.deref.ensures.value ∙ c.in_ok-bytes.ensures.bytes)
    (omega (arith, size, c.if-end-gt-MAX_JOURNAL.false)) in
    c.write.ensures.any_moment entries (Ask ask) can

pub returns-clause-any_moment : goal.returns-clause-any_moment
returns-clause-any_moment g c entries served stands =
    let ask = c.args.ask.now in
    let size : length c.deref.result.now ≡ c.len.result = omega (arith, ap (length {A = ℕ}) c.deref.ensures.value, c.len.ensures, c.in_ok-bytes.bytes.ok.0) in
    let can = can_append g.D.Disk.contents g.D.Disk.may_leave c.args.self.now entries served stands
    (Ask ask) c.deref.result.now c.in_ok-bytes.ensures.known (c.deref.ensures.value ∙ c.in_ok-bytes.ensures.bytes)
    (omega (arith, size, c.if-end-gt-MAX_JOURNAL.false)) in
    c.write.ensures.any_moment entries (Ask ask) can

pub returns-clause-ok : goal.returns-clause-ok
returns-clause-ok g c entries served stands =
    let ask = c.args.ask.now in
    let size : length c.deref.result.now ≡ c.len.result = omega (arith, ap (length {A = ℕ}) c.deref.ensures.value, c.len.ensures, c.in_ok-bytes.bytes.ok.0) in
    let can = can_append g.D.Disk.contents g.D.Disk.may_leave c.args.self.now entries served stands
    (Ask ask) c.deref.result.now c.in_ok-bytes.ensures.known (c.deref.ensures.value ∙ c.in_ok-bytes.ensures.bytes)
    (omega (arith, size, c.if-end-gt-MAX_JOURNAL.false)) in
    let new = c.write.new.self.state in
    let old = c.args.self.now.state in
    let kept : is_kept ask ≡ true = c.requires.kept in
    let folds = folded_ask entries served ask old.service c.serve.new.self old.given stands.folded kept (c.in_ok-says.ensures.ok served) in
    record {
      sound = c.in_ok-write.ensures.sound;
      settled = c.in_ok-write.ensures.settled entries (Ask ask) can;
      folded = same_fold (entries ++ Ask ask ∷ [])
          (ask ∷ served) c.serve.new.self new.service old.given new.given folds c.write.ensures.service c.write.ensures.given;
    }

pub returns-in_err-bytes-clause-reach : goal.returns-in_err-bytes-clause-reach
returns-in_err-bytes-clause-reach g c entries served stands =
    g.met.D.Disk.reach_more (disk_of c.args.self.now) (disk_of c.args.self.now) 0 4 0 (length (entry_bytes (Ask c.args.ask.now)) + 2) 0
    (end_with entries (entry_bytes (Ask c.args.ask.now))) (omega arith) (omega arith) (omega arith)
    (g.met.D.Disk.reach_same (disk_of c.args.self.now))

pub returns-then-end-gt-MAX_JOURNAL-clause-reach : goal.returns-then-end-gt-MAX_JOURNAL-clause-reach
returns-then-end-gt-MAX_JOURNAL-clause-reach g c entries served stands =
    g.met.D.Disk.reach_more (disk_of c.args.self.now) (disk_of c.args.self.now) 0 4 0 (length (entry_bytes (Ask c.args.ask.now)) + 2) 0
    (end_with entries (entry_bytes (Ask c.args.ask.now))) (omega arith) (omega arith) (omega arith)
    (g.met.D.Disk.reach_same (disk_of c.args.self.now))

pub returns-in_err-says-clause-reach : goal.returns-in_err-says-clause-reach
returns-in_err-says-clause-reach g c entries served stands =
    g.met.D.Disk.reach_more (disk_of c.args.self.now) (disk_of c.args.self.now) 0 4 0 (length (entry_bytes (Ask c.args.ask.now)) + 2) 0
    (end_with entries (entry_bytes (Ask c.args.ask.now))) (omega arith) (omega arith) (omega arith)
    (g.met.D.Disk.reach_same (disk_of c.args.self.now))

pub returns-in_err-write-clause-reach : goal.returns-in_err-write-clause-reach
returns-in_err-write-clause-reach g c entries served stands =
    let size : length c.deref.result.now ≡ length (entry_bytes (Ask c.args.ask.now)) + 1 = ap (length {A = ℕ})
    (c.deref.ensures.value ∙ c.in_ok-bytes.ensures.bytes) ∙ length-append (entry_bytes (Ask c.args.ask.now)) (0 ∷ []) in
    let e = c.args.self.now.state.end in
    let n = length c.deref.result.now in
    g.met.D.Disk.reach_more c.args.self.now.disk c.write.new.self.disk 4 4 (n + 1) (length (entry_bytes (Ask c.args.ask.now)) + 2) (e + n)
    (end_with entries (entry_bytes (Ask c.args.ask.now))) (omega arith) (omega (arith, size))
    (omega (arith, size, stands.settled.behind)) c.write.ensures.reach

pub returns-clause-reach : goal.returns-clause-reach
returns-clause-reach g c entries served stands =
    let size : length c.deref.result.now ≡ length (entry_bytes (Ask c.args.ask.now)) + 1 = ap (length {A = ℕ})
    (c.deref.ensures.value ∙ c.in_ok-bytes.ensures.bytes) ∙ length-append (entry_bytes (Ask c.args.ask.now)) (0 ∷ []) in
    let e = c.args.self.now.state.end in
    let n = length c.deref.result.now in
    g.met.D.Disk.reach_more c.args.self.now.disk c.write.new.self.disk 4 4 (n + 1) (length (entry_bytes (Ask c.args.ask.now)) + 2) (e + n)
    (end_with entries (entry_bytes (Ask c.args.ask.now))) (omega arith) (omega (arith, size))
    (omega (arith, size, stands.settled.behind)) c.write.ensures.reach
