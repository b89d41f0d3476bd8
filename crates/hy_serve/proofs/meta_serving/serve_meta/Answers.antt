use Rattle.std.proofs.lemmas.Result.{err_from_is_err_and}
use Rattle.hy_base.proofs.Adding.{Adds-none}
use Rattle.hy_serve.proofs.MetaServing.{serves-nothing}
use Rattle.hy_serve.proofs.meta_serving.serve_meta.Goals as goal

pub returns-in_err-buf-clause-plays : goal.returns-in_err-buf-clause-plays
returns-in_err-buf-clause-plays g c =
    let p = err_from_is_err_and c.from_residual.result c.from_residual.ensures.1 in
    rw (p.1, p.2) (Adds-none g.N.Net.told g.N.Net.tells c.args.net.now _ (serves-nothing c.args.port c.args.arrivals))
