use Rattle.hy_record.proofs.Records.{record_spells}
use Rattle.hy_record.proofs.Sizes.{length-record_bytes, record_bytes-short}
use Rattle.hy_record.proofs.record.Record.encode.Goals as goal

pub returns-clause-spelling : goal.returns-clause-spelling
returns-clause-spelling c = rw (c.of.ensures, c.in_ok-bytes.ensures.value) (record_spells c.args.self.now c.in_ok-bytes.ensures.ruled)

pub returns-clause-size : goal.returns-clause-size
returns-clause-size c = rw (c.of.ensures, c.in_ok-bytes.ensures.value) (length-record_bytes c.args.self.now c.in_ok-bytes.ensures.ruled)

pub returns-clause-short : goal.returns-clause-short
returns-clause-short c = rw (c.of.ensures, c.in_ok-bytes.ensures.value) (record_bytes-short c.args.self.now c.in_ok-bytes.ensures.ruled)
