use Rattle.std.proofs.Common.{inl, inr, rules, sym, ◌∙◌, arith}
use Rattle.hy_trace.specs.declared.step.TheConstants.{MAX_GIVES}
use Rattle.hy_world.proofs.Doing.{gives-begin, gives-more, gives-over}
use Rattle.hy_world.proofs.simulation.Simulation.take_gives.Goals as goal

pub loop-i-init : goal.loop-i-init
loop-i-init g c = record { count = search rules; stands = λ p before has r. gives-begin g.row.M.Denot g.M.Meta.served g.M.Meta.given p before MAX_GIVES c.args.client c.args.first c.args.self.now has r }

pub loop-i-preserved : goal.loop-i-preserved
loop-i-preserved g c =
    record {
      count = omega (arith, c.loop-i.invariant.count, c.in_ok-take_give.ensures.steps);
      stands = λ p before has r. gives-more g.row.M.Denot g.M.Meta.served g.M.Meta.given p before MAX_GIVES c.args.client c.args.first c.loop-i.i c.loop-i.self c.take_give.new.self (search rules)
          (λ run begun s. sym (c.goes_on.ensures p run begun s) ∙ c.if-not-goes_on.false)
          (λ run s. c.in_ok-take_give.ensures.stands p run s)
          (c.loop-i.invariant.stands p before has r);
    }

pub returns-then-not-goes_on-clause-stands : goal.returns-then-not-goes_on-clause-stands
returns-then-not-goes_on-clause-stands g c = λ p before has r.
    gives-over g.row.M.Denot g.M.Meta.served g.M.Meta.given p before MAX_GIVES c.args.client c.args.first c.loop-i.i c.loop-i.self (inr (λ run begun s. sym (c.goes_on.ensures p run begun s) ∙ c.if-not-goes_on.true)) (c.loop-i.invariant.stands p before has r)

pub returns-clause-stands : goal.returns-clause-stands
returns-clause-stands g c = λ p before has r.
    gives-over g.row.M.Denot g.M.Meta.served g.M.Meta.given p before MAX_GIVES c.args.client c.args.first c.loop-i.i c.loop-i.self (inl (search rules)) (c.loop-i.invariant.stands p before has r)
