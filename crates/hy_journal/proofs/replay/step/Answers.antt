use Rattle.std.proofs.Common.{ℕ, List, drop, subst, arith}
use Rattle.std.proofs.lemmas.List.{take_rest}
use Rattle.hy_journal.specs.Entry.{LacksEntry, HasEntry}
use Rattle.hy_journal.proofs.Replaying.{one_more, bad_here}
use Rattle.hy_journal.proofs.replay.step.Goals as goal

pub returns-in_ok-add-in-Some-clause-next : goal.returns-in_ok-add-in-Some-clause-next
returns-in_ok-add-in-Some-clause-next c =
    let s = c.args.state.now in
    let bytes = c.args.bytes.now in
    let found = rw c.in-Some.is at c.in_ok-entry.ensures in
    let has = subst (λ (l : List ℕ). HasEntry l c.in-Some.entry c.in-Some.size) (take_rest bytes s.end) found in
    one_more bytes s.service s.given s.end c.requires.so_far c.in-Some.entry c.in-Some.size _ _ _ c.requires.open has c.in_ok-add-in-Some.ensures.folded
    (omega (arith, c.add.ensures.end))

pub returns-in-None-clause-cause : goal.returns-in-None-clause-cause
returns-in-None-clause-cause c =
    let s = c.args.state.now in
    let bytes = c.args.bytes.now in
    let found = rw c.in-None.is at c.in_ok-entry.ensures in
    let lacks : LacksEntry (drop s.end bytes) = subst (λ (l : List ℕ). LacksEntry l) (take_rest bytes s.end) found in
    bad_here bytes s.service s.given s.end c.requires.so_far c.requires.open c.requires.not_new c.requires.within lacks
