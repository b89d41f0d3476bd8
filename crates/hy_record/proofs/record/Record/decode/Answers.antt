use Rattle.std.proofs.Common.{subst, arith}
use Rattle.hy_record.specs.Reading.{Gives}
use Rattle.hy_record.proofs.Records.{decoded_spells, spelled_decodes}
use Rattle.hy_record.proofs.record.Record.decode.Goals as goal

pub returns-clause-found : goal.returns-clause-found
returns-clause-found c = decoded_spells c.args.bytes.now c.whole_of.result (λ i. omega (arith, c.type_inv.bytes i)) c.whole_of.ensures.value

pub returns-clause-only : goal.returns-clause-only
returns-clause-only c = λ r spelled. subst (λ read. Gives (λ v. v) c.whole_of.result read) (spelled_decodes c.args.bytes.now r spelled) c.whole_of.ensures.value
