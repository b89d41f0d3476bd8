use Rattle.hy_mwire.proofs.Readies.{ready-fits}
use Rattle.hy_mwire.proofs.reader.front_unless_ready.Goals as goal

pub returns-in-Some-clause-within : goal.returns-in-Some-clause-within
returns-in-Some-clause-within c = ready-fits c.args.place c.args.bytes.now c.args.ready.now c.in-Some.ready c.requires c.in-Some.ensures.value
