use Rattle.std.proofs.Common.{arith, length}
use Rattle.hy_record.proofs.Records.{fields_shorter}
use Rattle.hy_record.proofs.record.reading.whole_of.Goals as goal

pub record_of_fields-requires-clause-inside : goal.record_of_fields-requires-clause-inside
record_of_fields-requires-clause-inside c = fields_shorter (length c.args.bytes.now) c.args.bytes.now c.in-Ok.fields c.in-Ok.rest.now (λ i. omega (arith, c.type_inv.bytes i)) c.in-Ok.ensures.value
