use Rattle.std.proofs.Common.{◌≡◌, ◌++◌, [], ◌∷◌, false, List, ap, sym, subst, ◌∙◌}
use Rattle.std.proofs.lemmas.List.{append-nil}
use Rattle.hy_journal.specs.declared.entry.Entry.{Entry}
use Rattle.hy_journal.specs.declared.entry.Entry.TheVariants.{Ask}
use Rattle.hy_journal.specs.Entry.{is_kept}
use Rattle.hy_journal.specs.Fold.{entries_of}
use Rattle.hy_journal.specs.File.{HasOrLacks}
use Rattle.hy_journal.specs.Keeper.{KeepCause, AddsAtMost, disk_of}
use Rattle.hy_disk.specs.Crash.{LeavesOnly}
use Rattle.hy_journal.proofs.Adding.{folded_look}
use Rattle.hy_journal.proofs.Results.{on_ok_map, if_err_map}
use Rattle.hy_journal.proofs.Standing.{still, stands_with, kept_entries, no_entries}
use Rattle.hy_journal.proofs.keeper.Keeper.serve.Goals as goal

pub returns-in_err-says-clause-any_moment : goal.returns-in_err-says-clause-any_moment
returns-in_err-says-clause-any_moment g c entries served stands =
    still g.D.Disk.contents g.D.Disk.may_leave g.D.Disk.moment g.D.Disk.left_since g.met.D.Disk.only_now c.args.self.now entries
    (entries_of c.args.ask.now) served stands

pub returns-then-is_kept-clause-ok : goal.returns-then-is_kept-clause-ok
returns-then-is_kept-clause-ok g c =
    let ask = c.args.ask.now in
    let is : entries_of ask ≡ Ask ask ∷ [] = kept_entries ask (sym c.is_kept.ensures ∙ c.if-is_kept.true) in
    on_ok_map c.keep.result (λ done entries served stands.
    stands_with g.D.Disk.contents g.D.Disk.may_leave c.keep.new.self _ _ (ask ∷ served) (ap (λ (l : List Entry). entries ++ l) (sym is))
    (done entries served stands)) c.keep.ensures.ok

pub returns-then-is_kept-clause-any_moment : goal.returns-then-is_kept-clause-any_moment
returns-then-is_kept-clause-any_moment g c entries served stands =
    let ask = c.args.ask.now in
    let is : entries_of ask ≡ Ask ask ∷ [] = kept_entries ask (sym c.is_kept.ensures ∙ c.if-is_kept.true) in
    subst (λ (l : List Entry). LeavesOnly g.D.Disk.moment g.D.Disk.left_since (disk_of c.args.self.now) (disk_of c.keep.new.self) (HasOrLacks entries l))
    (sym is) (c.keep.ensures.any_moment entries served stands)

pub returns-then-is_kept-clause-cause : goal.returns-then-is_kept-clause-cause
returns-then-is_kept-clause-cause g c =
    let ask = c.args.ask.now in
    let is : entries_of ask ≡ Ask ask ∷ [] = kept_entries ask (sym c.is_kept.ensures ∙ c.if-is_kept.true) in
    if_err_map c.keep.result _ _ (λ fault why. subst
    (λ (l : List Entry). KeepCause g.D.Disk.contents g.D.Disk.may_leave g.D.Disk.faults c.args.self.now c.keep.new.self l fault)
    (sym is) why) c.keep.ensures.cause

pub returns-in_ok-says-clause-ok : goal.returns-in_ok-says-clause-ok
returns-in_ok-says-clause-ok g c entries served stands =
    let ask = c.args.ask.now in
    let not_kept : is_kept ask ≡ false = sym c.is_kept.ensures ∙ c.if-is_kept.false in
    let same : entries ≡ entries ++ entries_of ask = sym (ap (λ (l : List Entry). entries ++ l) (no_entries ask not_kept) ∙ append-nil entries) in
    let s = c.args.self.now in
    stands_with g.D.Disk.contents g.D.Disk.may_leave _ entries (entries ++ entries_of ask) (ask ∷ served) same (record {
      sound = stands.sound;
      settled = stands.settled;
      folded = folded_look entries served ask s.state.service c.serve.new.self s.state.given stands.folded not_kept (c.in_ok-says.ensures.ok served);
    })

pub returns-in_ok-says-clause-any_moment : goal.returns-in_ok-says-clause-any_moment
returns-in_ok-says-clause-any_moment g c entries served stands =
    still g.D.Disk.contents g.D.Disk.may_leave g.D.Disk.moment g.D.Disk.left_since g.met.D.Disk.only_now c.args.self.now entries
    (entries_of c.args.ask.now) served stands

pub returns-in_err-says-clause-reach : goal.returns-in_err-says-clause-reach
returns-in_err-says-clause-reach g c entries served stands =
    let ask = c.args.ask.now in
    let not_kept : is_kept ask ≡ false = sym c.is_kept.ensures ∙ c.if-is_kept.false in
    subst (λ (l : List Entry). AddsAtMost g.D.Disk.reach (disk_of c.args.self.now) (disk_of c.args.self.now) entries l) (sym (no_entries ask not_kept))
    (g.met.D.Disk.reach_same (disk_of c.args.self.now))

pub returns-in_ok-says-clause-reach : goal.returns-in_ok-says-clause-reach
returns-in_ok-says-clause-reach g c entries served stands =
    let ask = c.args.ask.now in
    let not_kept : is_kept ask ≡ false = sym c.is_kept.ensures ∙ c.if-is_kept.false in
    subst (λ (l : List Entry). AddsAtMost g.D.Disk.reach (disk_of c.args.self.now) (disk_of c.args.self.now) entries l) (sym (no_entries ask not_kept))
    (g.met.D.Disk.reach_same (disk_of c.args.self.now))

pub returns-then-is_kept-clause-reach : goal.returns-then-is_kept-clause-reach
returns-then-is_kept-clause-reach g c entries served stands =
    let ask = c.args.ask.now in
    let is : entries_of ask ≡ Ask ask ∷ [] = kept_entries ask (sym c.is_kept.ensures ∙ c.if-is_kept.true) in
    subst (λ (l : List Entry). AddsAtMost g.D.Disk.reach (disk_of c.args.self.now) (disk_of c.keep.new.self) entries l) (sym is)
    (c.keep.ensures.reach entries served stands)
