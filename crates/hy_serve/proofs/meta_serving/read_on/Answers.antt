use Rattle.std.proofs.Common.{◌<◌, arith, refl, subst, ◌∙◌}
use Rattle.hy_base.proofs.Adding.{Adds-none, Adds-append, Adds-weaken}
use Rattle.hy_serve.specs.declared.letter.Turn.{Turn}
use Rattle.hy_serve.specs.MetaStanding.{ReadsNext, weight_at}
use Rattle.hy_serve.proofs.MetaReading.{reads-none, reads-turn, reads-done, falls-on}
use Rattle.hy_serve.proofs.meta_serving.read_on.Goals as goal

pub messages-init : goal.messages-init
messages-init g c = record {
  plays = Adds-none g.N.Net.told g.N.Net.tells c.args.net.now _ (reads-none c.args.server.now c.args.conn);
  taking = refl;
}

pub messages-preserved : goal.messages-preserved
messages-preserved g c = record {
  plays = Adds-append g.N.Net.told g.N.Net.tells c.args.net.now c.messages.net c.carry_out.new.net _ _ _ c.messages.invariant.plays c.carry_out.ensures.plays
      (λ first second some makes. reads-turn c.args.server.now c.messages.server c.turn.new.self c.carry_out.new.server c.args.conn c.in_ok-turn.turn first second
      some c.in_ok-turn.ensures.reads c.in_default.not-Rests makes);
  taking = c.carry_out.ensures.taking ∙ c.messages.invariant.taking;
}

pub messages-smaller : goal.messages-smaller
messages-smaller g c =
    let falls : weight_at c.turn.new.self c.args.conn < weight_at c.messages.server c.args.conn =
    falls-on c.messages.server c.turn.new.self c.args.conn c.in_ok-turn.turn c.in_default.not-Rests c.in_ok-turn.ensures.falls in
    omega (arith, falls, c.carry_out.ensures.lighter c.args.conn)

pub returns-in-Rests-clause-plays : goal.returns-in-Rests-clause-plays
returns-in-Rests-clause-plays g c = Adds-weaken g.N.Net.told g.N.Net.tells c.args.net.now c.messages.net _ _ c.messages.invariant.plays
    (λ moves some. reads-done c.args.server.now c.messages.server c.turn.new.self c.args.conn moves some
    (subst (λ (turn : Turn). ReadsNext c.messages.server c.turn.new.self c.args.conn turn) c.in-Rests.is c.in_ok-turn.ensures.reads))
