use Rattle.hy_record.proofs.Validity.{verdict-is-test}
use Rattle.hy_record.proofs.record.Record.is_valid.Goals as goal

pub returns-clause-value : goal.returns-clause-value
returns-clause-value c = verdict-is-test c.args.self.now c.args.i c.args.bytes.now c.verifies.result c.verifies.ensures
