use Rattle.std.proofs.Common.{List, ◌++◌, sym, ap, ◌∙◌}
use Rattle.hy_base.specs.Moves.{Request}
use Rattle.hy_meta.specs.Run.{addressee_of}
use Rattle.hy_serve.specs.MetaRole.{letter_to}
use Rattle.hy_serve.specs.MetaStanding.{home_of}
use Rattle.hy_serve.proofs.MetaLetters.{letters-more}
use Rattle.hy_serve.proofs.MetaFramed.{last-framed}
use Rattle.hy_serve.proofs.meta_server.MetaServer.letters.Goals as goal

pub loop-say-preserved : goal.loop-say-preserved
loop-say-preserved c = λ all.
    let framed = last-framed c.loop-say.yielded c.in-Some.say all in
    c.in_ok-post.ensures framed.1
    ∙ ap (λ (r : List Request). r ++ letter_to (home_of c.args.self.now (addressee_of c.in-Some.say).client) c.in-Some.say) (c.loop-say.invariant framed.0)
    ∙ sym (letters-more (home_of c.args.self.now) c.loop-say.yielded c.in-Some.say)
