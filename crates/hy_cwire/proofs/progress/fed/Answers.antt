use Rattle.std.proofs.Common.{sym, subst, ◌++◌}
use Rattle.hy_cwire.specs.declared.progress.Progress.TheVariants.{Body}
use Rattle.hy_cwire.specs.Stages.{IsAt}
use Rattle.hy_cwire.proofs.Stages.{body-taken}
use Rattle.hy_cwire.proofs.progress.fed.Goals as goal

pub returns-in-Ok-in_body-clause-stands : goal.returns-in-Ok-in_body-clause-stands
returns-in-Ok-in_body-clause-stands g c = λ live bytes at.
    let before = subst (λ progress. IsAt g.H.Head.comes_to g.H.Head.size bytes progress) c.in-Body.is at in
    let after = body-taken g.H.Head.comes_to g.H.Head.size bytes c.args.piece.now c.in-Body.head c.in-Body.body c.in-Ok-in_body.body before c.in-Ok-in_body.ensures.1 in
    subst (λ head. IsAt g.H.Head.comes_to g.H.Head.size (bytes ++ c.args.piece.now) (Body head c.in-Ok-in_body.body)) (sym c.in-Ok-in_body.ensures.0) after
