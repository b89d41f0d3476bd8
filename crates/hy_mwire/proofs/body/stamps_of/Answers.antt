-- One more timestamp is read as the definition reads it.
use Rattle.std.proofs.Common.{◌≡◌, ◌++◌, ◌∷◌, [], arith}
use Rattle.std.proofs.lemmas.Result.{err_from_is_err_and}
use Rattle.std.proofs.lemmas.List.{length-append}
use Rattle.hy_mwire.specs.Reading.{stamps_at}
use Rattle.hy_mwire.proofs.Stamps.{goes_on, ends, ends_early, is_done}
use Rattle.hy_mwire.proofs.body.stamps_of.Goals as goal

pub loop-preserved : goal.loop-preserved
loop-preserved c =
    let pushed : c.push.new.self.items ≡ c.loop.stamps.items ++ c.in_ok-stamp.stamp ∷ [] = c.in_ok-push.ensures.items in
    record {
      read = rw pushed (goes_on c.loop.stamps.items c.args.count c.loop.counter c.loop.rest.now c.in_ok-front.front.now c.in_ok-front.after.now c.in_ok-stamp.stamp (stamps_at c.args.count c.args.bytes.now) c.loop-test.true c.in_ok-front.ensures c.in_ok-stamp.ensures c.loop.invariant.read);
      count = rw pushed (simp length-append (omega (arith, c.loop.invariant.count)));
    }

pub returns-clause-value : goal.returns-clause-value
returns-clause-value c = is_done c.loop.stamps.items c.args.count c.loop.counter c.loop.rest.now (stamps_at c.args.count c.args.bytes.now) c.loop-test.false c.loop.invariant.read

pub returns-in_err-front-clause-value : goal.returns-in_err-front-clause-value
returns-in_err-front-clause-value c =
    let p = err_from_is_err_and c.from_residual.result c.from_residual.ensures.1 in
    rw (p.1, p.2) (ends_early c.in_err-front.field-0.0 c.loop.stamps.items c.args.count c.loop.counter c.loop.rest.now (stamps_at c.args.count c.args.bytes.now) c.loop-test.true c.in_err-front.ensures c.loop.invariant.read)

pub returns-in_err-stamp-clause-value : goal.returns-in_err-stamp-clause-value
returns-in_err-stamp-clause-value c =
    let p = err_from_is_err_and c.from_residual-in_err-stamp.result c.from_residual-in_err-stamp.ensures.1 in
    rw (p.1, p.2) (ends c.in_err-stamp.field-0.0 c.loop.stamps.items c.args.count c.loop.counter c.loop.rest.now c.in_ok-front.front.now c.in_ok-front.after.now (stamps_at c.args.count c.args.bytes.now) c.loop-test.true c.in_ok-front.ensures c.in_err-stamp.ensures c.loop.invariant.read)
