-- A client of which something is kept is not refused.
use Rattle.std.proofs.Common.{Option, sym, ap, ◌∙◌}
use Rattle.hy_meta.specs.declared.verdicts.Verdict.{Verdict}
use Rattle.hy_meta.specs.Verdicts.{last_in, IsKnown, kept_of}
use Rattle.std.specs.Prelude.{is_some}
use Rattle.std.proofs.lemmas.Bool.{false≢true}
use Rattle.hy_meta.proofs.Lasts.{noted}
use Rattle.hy_meta.proofs.verdicts.Verdicts.note.Goals as goal

pub returns-in-Ok : goal.returns-in-Ok
unfolding last_in
returns-in-Ok c = noted (kept_of c.args.self.now) (kept_of (record { last = c.insert.new.self })) c.args.verdict.client c.args.verdict c.in-Ok.ensures.updates.0

pub returns-in-Err : goal.returns-in-Err
unfolding IsKnown
returns-in-Err c = absurd (false≢true (ap (λ (o : Option (Option Verdict)). is_some o) (sym c.in-Err.ensures.absent) ∙ c.requires))
