use Rattle.std.proofs.Common.{List, [], ◌-◌, take, subst, arith}
use Rattle.std.proofs.lemmas.List.{take_all}
use Rattle.hy_mwire.specs.declared.message.Message.{Message}
use Rattle.hy_journal.specs.Kept.{Kept}
use Rattle.hy_journal.proofs.Going.{plays_on_at, ready_at, played_whole}
use Rattle.hy_journal.proofs.kept.kept_answers.Goals as goal

pub loop-request-init : goal.loop-request-init
loop-request-init c = rw c.new-output.ensures.items c.in_ok-keeper.ensures

pub answered-requires : goal.answered-requires
answered-requires c =
    ready_at c.args.stop c.loop-request.keeper c.args.requests.now c.request-item.result c.loop-request.request-index c.loop-request.output.items
    c.loop-request-test.true c.request-item.is c.requires.each c.requires.few c.loop-request.invariant

pub loop-request-preserved : goal.loop-request-preserved
loop-request-preserved c =
    plays_on_at c.args.stop c.loop-request.keeper c.in_ok-keeper-2.keeper c.args.requests.now c.request-item.result c.loop-request.request-index
    c.loop-request.output.items c.answered.new.output.items
    c.loop-request-test.true c.request-item.is c.requires.each c.requires.few c.loop-request.invariant c.in_ok-keeper-2.ensures

pub returns : goal.returns
returns c =
    let all = take_all c.loop-request.request-index c.args.requests.now (omega (arith, c.loop-request-test.false)) in
    subst (λ (l : List Message). Kept (c.args.stop - 4) [] [] l c.loop-request.output.items) all
    (played_whole c.args.stop c.loop-request.keeper (take c.loop-request.request-index c.args.requests.now) c.loop-request.output.items c.loop-request.invariant)
