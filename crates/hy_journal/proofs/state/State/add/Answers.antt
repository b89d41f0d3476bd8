use Rattle.std.proofs.Common.{◌+◌, ◌++◌, ◌∷◌, [], subst, sym}
use Rattle.hy_journal.specs.declared.entry.Entry.{Entry}
use Rattle.hy_journal.specs.Entry.{IsEntry}
use Rattle.hy_journal.specs.Fold.{asks_with}
use Rattle.hy_journal.specs.Keeper.{FoldsTo}
use Rattle.hy_journal.proofs.Adding.{folded_join, folded_ask, session_more, session_none, entry_kept}
use Rattle.hy_journal.proofs.state.State.add.Goals as goal

pub returns-then-self-lt-MAX_SESSIONS-clause-folded : goal.returns-then-self-lt-MAX_SESSIONS-clause-folded
returns-then-self-lt-MAX_SESSIONS-clause-folded c entries served is known =
    let s = c.args.self.now in
    subst (λ (e : Entry). FoldsTo (entries ++ e ∷ []) (asks_with served e) s.service (s.given + 1)) (sym c.in-Join.is)
    (folded_join entries served s.service s.given (s.given + 1) is (session_more s.given c.if-self-lt-MAX_SESSIONS.true))

pub returns-else-self-lt-MAX_SESSIONS-clause-folded : goal.returns-else-self-lt-MAX_SESSIONS-clause-folded
returns-else-self-lt-MAX_SESSIONS-clause-folded c entries served is known =
    let s = c.args.self.now in
    subst (λ (e : Entry). FoldsTo (entries ++ e ∷ []) (asks_with served e) s.service s.given) (sym c.in-Join.is)
    (folded_join entries served s.service s.given s.given is (session_none s.given c.if-self-lt-MAX_SESSIONS.false))

pub returns-in_ok-_says-in-Ask-clause-folded : goal.returns-in_ok-_says-in-Ask-clause-folded
returns-in_ok-_says-in-Ask-clause-folded c entries served is known =
    let s = c.args.self.now in
    subst (λ (e : Entry). FoldsTo (entries ++ e ∷ []) (asks_with served e) c.serve.new.self s.given) (sym c.in-Ask.is)
    (folded_ask entries served c.in-Ask.ask s.service c.serve.new.self s.given is (entry_kept c.in-Ask.ask (subst IsEntry c.in-Ask.is known))
    (c.in_ok-_says-in-Ask.ensures.ok served))
