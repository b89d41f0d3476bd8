use Rattle.std.proofs.Common.{◌≡◌, ◌∙◌, ◌<◌, ◌++◌, length, take, arith, length-append, length-take}
use Rattle.std.proofs.lemmas.Result.{err_from_is_err_and}
use Rattle.std.proofs.lemmas.List.{take_at}
use Rattle.std.proofs.KnownBytes.{Consumes-trans, Consumes-kept}
use Rattle.hy_base.proofs.Taking.{Consumes-none, Reading-stopped, Reading-over, Reading-ended, Reading-told}
use Rattle.hy_base.proofs.reading.read_all.Goals as goal

pub returns-in_err-count-clause-taken : goal.returns-in_err-count-clause-taken
returns-in_err-count-clause-taken g c =
    let fault = err_from_is_err_and c.from_residual-in_err-count.result c.from_residual-in_err-count.ensures.1 in
    rw (fault.1, fault.2)
    (Reading-stopped _ _ c.args.limit _ _ (λ is. cc) (Consumes-kept _ _ _ _ c.loop-bytes.invariant.taken c.in_err-count.ensures.takes) c.loop-bytes.invariant.within)

pub returns-then-count-eq0-clause-taken : goal.returns-then-count-eq0-clause-taken
returns-then-count-eq0-clause-taken g c =
    let none = rw c.if-count-eq0.true at c.in_ok-count.ensures.takes.0 in
    let room : 0 < length c.read.new.buf = omega (arith, c.loop-bytes.invariant.room, c.read.auto.buf, c.deref_mut.ensures.len) in
    rw c.of.ensures
    (Reading-ended _ _ c.args.limit _ (Consumes-none _ _ _ _ c.loop-bytes.invariant.taken none) c.loop-bytes.invariant.within
    (c.in_ok-count.ensures.takes.1 c.if-count-eq0.true room))

pub returns-then-count-eq0-clause-told : goal.returns-then-count-eq0-clause-told
returns-then-count-eq0-clause-told g c = Reading-told _ _ c.args.limit _ (returns-then-count-eq0-clause-taken g c)

pub returns-then-count-limit-clause-taken : goal.returns-then-count-limit-clause-taken
returns-then-count-limit-clause-taken g c =
    Reading-over _ _ c.args.limit _ (Consumes-trans _ _ _ _ _ c.loop-bytes.invariant.taken c.in_ok-count.ensures.takes.0)
    (omega (
      arith,
      length-append c.loop-bytes.bytes.items (take c.in_ok-count.count c.read.new.buf),
      length-take c.in_ok-count.count c.read.new.buf,
      c.in_ok-count.ensures.count,
      c.loop-bytes.bytes.ok.0,
    ))

pub returns-then-count-limit-clause-told : goal.returns-then-count-limit-clause-told
returns-then-count-limit-clause-told g c = Reading-told _ _ c.args.limit _ (returns-then-count-limit-clause-taken g c)

pub loop-bytes-preserved : goal.loop-bytes-preserved
loop-bytes-preserved g c =
    let size : length c.read.new.buf ≡ c.loop-bytes.chunk.len = omega (arith, c.read.auto.buf, c.deref_mut.ensures.len) in
    let same : c.deref.result.now ≡ c.read.new.buf = c.deref.ensures.value ∙ take_at _ _ _ size in
    let grown : c.extend_from_slice.new.self.items ≡ c.loop-bytes.bytes.items ++ take c.in_ok-count.count c.read.new.buf =
    rw same at c.in_ok-extend_from_slice.ensures.items in
    record {
      room = c.loop-bytes.invariant.room;
      within = rw grown (omega (
        arith,
        length-append c.loop-bytes.bytes.items (take c.in_ok-count.count c.read.new.buf),
        length-take c.in_ok-count.count c.read.new.buf,
        c.loop-bytes.bytes.ok.0,
      ));
      taken = rw grown (Consumes-trans _ _ _ _ _ c.loop-bytes.invariant.taken c.in_ok-count.ensures.takes.0);
      kept = c.in_ok-count.ensures.cause.kept ∙ c.loop-bytes.invariant.kept;
    }

pub returns-in_err-extend_from_slice-clause-taken : goal.returns-in_err-extend_from_slice-clause-taken
returns-in_err-extend_from_slice-clause-taken g c =
    let fault = err_from_is_err_and c.from_residual-in_err-extend_from_slice.result c.from_residual-in_err-extend_from_slice.ensures.1 in
    rw (fault.1, fault.2)
    (Reading-stopped _ _ c.args.limit _ _ (λ is. cc) (Consumes-trans _ _ _ _ _ c.loop-bytes.invariant.taken c.in_ok-count.ensures.takes.0)
    (omega (
      arith,
      length-append c.loop-bytes.bytes.items (take c.in_ok-count.count c.read.new.buf),
      length-take c.in_ok-count.count c.read.new.buf,
      c.loop-bytes.bytes.ok.0,
    )))
