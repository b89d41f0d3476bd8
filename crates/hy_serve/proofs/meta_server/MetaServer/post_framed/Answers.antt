use Rattle.std.proofs.Common.{sym, ap, ◌∙◌}
use Rattle.hy_serve.specs.MetaStanding.{home_of}
use Rattle.hy_serve.proofs.MetaLetters.{posts-one, posts-none}
use Rattle.hy_serve.proofs.meta_server.MetaServer.post_framed.Goals as goal

pub returns-in_ok-push : goal.returns-in_ok-push
unfolding home_of
returns-in_ok-push c = posts-one c.args.letters.now.items c.push.new.self.items (record { conn = c.in-Some.conn.now; bytes = c.in_ok-bytes.bytes })
    (home_of c.args.self.now _) c.args.say c.in_ok-push.ensures.items c.in_ok-bytes.ensures.frame
    (ap (home_of c.args.self.now) (sym c.addressee.ensures) ∙ sym c.in-Some.ensures.value)

pub returns-in_default : goal.returns-in_default
unfolding home_of
returns-in_default c = posts-none c.args.letters.now.items (home_of c.args.self.now _) c.args.say
    (ap (home_of c.args.self.now) (sym c.addressee.ensures) ∙ sym c.in_default.ensures.value)
