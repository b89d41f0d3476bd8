use Rattle.std.proofs.Common.{◌+◌, ◌≡◌, ◌∷◌, ◌++◌, List, ℕ, Err, refl, sym, ◌∙◌, subst, arith}
use Rattle.std.proofs.lemmas.Result.{err_from_is_err_and}
use Rattle.hy_base.specs.Moves.{Move, came, arrived}
use Rattle.hy_base.proofs.Adding.{Adds-none, Adds-more, Adds-kept, Adds-append, Adds-weaken}
use Rattle.hy_serve.specs.declared.fault.ServeFault.TheVariants.{NoMemory}
use Rattle.hy_serve.specs.MetaRole.{ServesMeta}
use Rattle.hy_serve.specs.MetaPlaying.{MetaWaits}
use Rattle.hy_serve.proofs.MetaServing.{serves-nothing, serves-refused, serves-cut, serves-starved, serves-stuck, serves-done, waits-first, waits-turned}
use Rattle.hy_serve.proofs.meta_serving.serve_over.Goals as goal

pub returns-in_err-server-clause-plays : goal.returns-in_err-server-clause-plays
returns-in_err-server-clause-plays g c =
    let p = err_from_is_err_and c.from_residual.result c.from_residual.ensures.1 in
    rw (p.1, p.2) (Adds-none g.N.Net.told g.N.Net.tells c.args.net.now _ (serves-nothing c.args.port c.args.arrivals))

pub returns-in_err-listen-clause-plays : goal.returns-in_err-listen-clause-plays
returns-in_err-listen-clause-plays g c =
    let p = err_from_is_err_and c.from_residual-in_err-listen.result c.from_residual-in_err-listen.ensures.1 in
    rw (p.1, p.2) (Adds-weaken g.N.Net.told g.N.Net.tells c.args.net.now c.listen.new.self _ _ c.in_err-listen.ensures.tells
    (λ moves is. subst (ServesMeta c.args.port c.args.arrivals _) (sym is) (serves-refused c.args.port c.args.arrivals)))

pub returns-in_err-arrival-clause-plays : goal.returns-in_err-arrival-clause-plays
returns-in_err-arrival-clause-plays g c =
    let p = err_from_is_err_and c.from_residual-in_err-arrival.result c.from_residual-in_err-arrival.ensures.1 in
    rw (p.1, p.2) (Adds-kept g.N.Net.told g.N.Net.tells c.args.net.now c.loop-taken.net c.next.new.self _ _ c.loop-taken.invariant.plays c.in_err-arrival.ensures.tells
    (λ moves waits. serves-cut c.args.port c.args.arrivals c.loop-taken._taken c.loop-taken.server moves waits c.loop-taken-test.true))

pub returns-in_err-reading-clause-plays : goal.returns-in_err-reading-clause-plays
returns-in_err-reading-clause-plays g c =
    let p = err_from_is_err_and c.from_residual-in_err-reading.result c.from_residual-in_err-reading.ensures.1 in
    rw (p.1, p.2) (Adds-more g.N.Net.told g.N.Net.tells c.args.net.now c.loop-taken.net c.next.new.self _ _ _ c.loop-taken.invariant.plays c.in_ok-arrival.ensures.tells
    (λ moves waits. serves-starved c.args.port c.args.arrivals c.loop-taken._taken c.loop-taken.server moves _ waits c.loop-taken-test.true))

pub returns-clause-plays : goal.returns-clause-plays
returns-clause-plays g c = Adds-weaken g.N.Net.told g.N.Net.tells c.args.net.now c.loop-taken.net _ _ c.loop-taken.invariant.plays
    (λ moves waits. serves-done c.args.port c.args.arrivals c.loop-taken.server moves (subst (λ (n : ℕ). MetaWaits c.args.port c.args.arrivals n c.loop-taken.server moves) (omega arith) waits))

pub loop-taken-init : goal.loop-taken-init
loop-taken-init g c = record {
  plays = Adds-weaken g.N.Net.told g.N.Net.tells c.args.net.now c.listen.new.self _ _ c.in_ok-listen.ensures.tells
      (λ moves is. subst (MetaWaits c.args.port c.args.arrivals 0 c.in_ok-server.server) (sym is)
      (waits-first c.args.port c.args.arrivals c.in_ok-server.server (c.in_ok-server.ensures c.args.port c.args.arrivals)));
  stays = c.in_ok-listen.ensures.cause.kept;
}

pub returns-in_err-read_all-clause-plays : goal.returns-in_err-read_all-clause-plays
returns-in_err-read_all-clause-plays g c =
    let p = err_from_is_err_and c.from_residual-in_err-read_all.result c.from_residual-in_err-read_all.ensures.1 in
    let a = came c.in_ok-arrival.arrival c.next.new.buf in
    rw (p.1, p.2) (Adds-append g.N.Net.told g.N.Net.tells c.args.net.now c.next.new.self c.read_all.new.net
    (λ moves. (before : List Move) × MetaWaits c.args.port c.args.arrivals c.loop-taken._taken c.loop-taken.server before × (moves ≡ arrived a ∷ before)) _ _
    (Adds-more g.N.Net.told g.N.Net.tells c.args.net.now c.loop-taken.net c.next.new.self _ _ (arrived a) c.loop-taken.invariant.plays
    c.in_ok-arrival.ensures.tells
    (λ moves waits. (moves, waits, refl)))
    c.in_err-read_all.ensures.plays
    (λ moves reads old all. subst (λ (m : List Move). ServesMeta c.args.port c.args.arrivals (Err NoMemory) (reads ++ m)) (sym old.2)
    (serves-stuck c.args.port c.args.arrivals c.loop-taken._taken c.loop-taken.server c.take.new.self c.read_all.new.server old.0 reads a c.in_ok-reading.reading
    c.in_err-read_all.field-0.0 old.1 c.loop-taken-test.true c.in_ok-reading.ensures all)))

pub loop-taken-preserved : goal.loop-taken-preserved
loop-taken-preserved g c =
    let a = came c.in_ok-arrival.arrival c.next.new.buf in
    record {
      plays = Adds-append g.N.Net.told g.N.Net.tells c.args.net.now c.next.new.self c.read_all.new.net
          (λ moves. (before : List Move) × MetaWaits c.args.port c.args.arrivals c.loop-taken._taken c.loop-taken.server before × (moves ≡ arrived a ∷ before)) _ _
          (Adds-more g.N.Net.told g.N.Net.tells c.args.net.now c.loop-taken.net c.next.new.self _ _ (arrived a) c.loop-taken.invariant.plays
          c.in_ok-arrival.ensures.tells
          (λ moves waits. (moves, waits, refl)))
          c.in_ok-read_all.ensures.plays
          (λ moves reads old all. subst (λ (m : List Move). MetaWaits c.args.port c.args.arrivals (c.loop-taken._taken + 1) c.read_all.new.server (reads ++ m)) (sym old.2)
          (waits-turned c.args.port c.args.arrivals c.loop-taken._taken c.loop-taken.server c.take.new.self c.read_all.new.server old.0 reads a c.in_ok-reading.reading
          old.1 c.loop-taken-test.true c.in_ok-reading.ensures all));
      stays = c.in_ok-read_all.ensures.taking ∙ c.in_ok-arrival.ensures.cause.kept ∙ c.loop-taken.invariant.stays;
    }
