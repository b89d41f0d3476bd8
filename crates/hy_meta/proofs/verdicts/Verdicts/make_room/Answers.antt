-- Room alone tells of no swap.
use Rattle.std.proofs.Common.{ℕ, List, Option, sym, ap, ◌∙◌}
use Rattle.std.specs.BTreeMap.{is_at}
use Rattle.std.specs.Map.{lookup}
use Rattle.std.specs.Ordering.{nat_cmp}
use Rattle.hy_meta.specs.declared.verdicts.Verdict.{Verdict}
use Rattle.hy_meta.specs.Verdicts.{last_in, IsKnown, judged_there, kept_of}
use Rattle.hy_meta.proofs.Lasts.{made-room, room-there}
use Rattle.hy_meta.proofs.verdicts.Verdicts.make_room.Goals as goal

pub returns-then-contains_key-clause-known : goal.returns-then-contains_key-clause-known
unfolding IsKnown
returns-then-contains_key-clause-known c = sym c.contains_key.ensures ∙ c.if-contains_key.true

pub returns-in_err-insert-clause-same : goal.returns-in_err-insert-clause-same
unfolding last_in
returns-in_err-insert-clause-same c = λ client. ap (λ (entries : List (ℕ × Option Verdict)). judged_there (lookup (is_at (nat_cmp client)) entries)) c.in_err-insert.ensures.err

pub returns-clause-known : goal.returns-clause-known
unfolding IsKnown
returns-clause-known c = room-there (kept_of c.args.self.now) (kept_of (record { last = c.insert.new.self })) c.args.client c.in_ok-insert.ensures.updates.0

pub returns-clause-same : goal.returns-clause-same
unfolding last_in
returns-clause-same c = made-room (kept_of c.args.self.now) (kept_of (record { last = c.insert.new.self })) c.args.client (sym c.contains_key.ensures ∙ c.if-contains_key.false) c.in_ok-insert.ensures.updates.0
