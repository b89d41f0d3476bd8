use Rattle.std.proofs.Common.{List, ◌≤◌, length, arith, refl, ◌∙◌}
use Rattle.hy_base.proofs.Adding.{Adds-none, Adds-append, Adds-weaken}
use Rattle.hy_serve.specs.declared.letter.Letter.{Letter}
use Rattle.hy_serve.specs.MetaStanding.{requests_for}
use Rattle.hy_serve.proofs.MetaMaking.{makes-none, makes-next, makes-all}
use Rattle.hy_serve.proofs.meta_serving.send_all.Goals as goal

pub loop-letter-init : goal.loop-letter-init
loop-letter-init g c = record {
  plays = Adds-none g.N.Net.told g.N.Net.tells c.args.net.now _ (makes-none c.args.server.now (requests_for c.args.letters.now));
  taking = refl;
  lighter = λ conn. omega arith;
}

pub loop-letter-preserved : goal.loop-letter-preserved
loop-letter-preserved g c = record {
  plays = Adds-append g.N.Net.told g.N.Net.tells c.args.net.now c.loop-letter.net c.send_one.new.net _ _ _ c.loop-letter.invariant.plays c.send_one.ensures.plays
      (λ first second one two. makes-next c.args.server.now c.loop-letter.server c.send_one.new.server c.args.letters.now c.loop-letter.letter-index c.letter-item.result first second
      c.loop-letter-test.true c.letter-item.is one two);
  taking = c.send_one.ensures.taking ∙ c.loop-letter.invariant.taking;
  lighter = λ conn. omega (arith, c.send_one.ensures.lighter conn, c.loop-letter.invariant.lighter conn);
}

pub returns-clause-plays : goal.returns-clause-plays
returns-clause-plays g c =
    let letters : List Letter = c.args.letters.now in
    let past : length letters ≤ c.loop-letter.letter-index = omega arith in
    Adds-weaken g.N.Net.told g.N.Net.tells c.args.net.now c.loop-letter.net _ _ c.loop-letter.invariant.plays
    (λ moves makes. makes-all c.args.server.now c.loop-letter.server letters c.loop-letter.letter-index moves past makes)
