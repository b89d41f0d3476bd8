use Rattle.std.proofs.Common.{refl}
use Rattle.hy_serve.specs.MetaStanding.{requests_for}
use Rattle.hy_serve.proofs.MetaStands.{serves-one}
use Rattle.hy_serve.proofs.meta_server.MetaServer.serve.Goals as goal

pub returns-clause-answers : goal.returns-clause-answers
returns-clause-answers c = serves-one c.args.self.now (record { lines = c.args.self.now.lines; homes = c.args.self.now.homes; service = c.serve.new.self })
    c.args.ask _ c.in_ok-says.says.items (requests_for c.in_ok-letters.letters.items) refl refl c.serve.ensures.given c.in_ok-says.ensures.ok c.in_ok-says.ensures.says
    c.requires c.in_ok-letters.ensures (record { due = λ conn. refl; goes_on = λ conn. refl })
