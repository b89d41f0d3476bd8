use Rattle.std.proofs.Common.{◌∙◌}
use Rattle.hy_log.proofs.Telling.{told-history}
use Rattle.hy_log.proofs.log.Log.history.Goals as goal

pub returns : goal.returns
returns c =
    let log = c.args.self.now in
    λ p t trace keeps are. c.in_ok-operations.ensures ∙ told-history p t log.posts.items log.starts.items log.courses c.args.running.now log.steps trace keeps are
