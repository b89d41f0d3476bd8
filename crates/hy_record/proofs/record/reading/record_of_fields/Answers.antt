-- Each way that the rest of the bytes ends.
use Rattle.std.proofs.Common.{ℕ, ◌-◌, ◌*◌, length, Ok, Err, Result, refl, sym, ap, ◌∙◌, arith}
use Rattle.hy_record.specs.declared.record.fault.RecordFault.{RecordFault}
use Rattle.hy_record.specs.declared.record.fault.RecordFault.TheVariants as faults
use Rattle.hy_record.specs.Stamp.{Timestamp}
use Rattle.hy_record.specs.Record.{RecordValue}
use Rattle.hy_record.specs.Reading.{record_with}
use Rattle.hy_record.proofs.Records.{ended-short, ended-extra, ended-whole, ended-fits}
use Rattle.hy_record.proofs.record.reading.record_of_fields.Goals as goal

pub returns-then-rest-size-clause-value : goal.returns-then-rest-size-clause-value
returns-then-rest-size-clause-value c = ended-short c.args.fields c.args.whole c.args.rest.now (omega (arith, c.hash_count-count.ensures, c.if-rest-size.true))

pub returns-then-rest-size-clause-refused : goal.returns-then-rest-size-clause-refused
returns-then-rest-size-clause-refused c = rw (returns-then-rest-size-clause-value c) refl

pub returns-then-rest-size-2-clause-value : goal.returns-then-rest-size-2-clause-value
returns-then-rest-size-2-clause-value c =
    let fault : ℕ → Result RecordValue RecordFault = λ count. Err (faults.Extra (c.args.whole - (length c.args.rest.now - 32 * count))) in
    ended-extra c.args.fields c.args.whole c.args.rest.now (omega (arith, c.hash_count-count.ensures, c.if-rest-size-2.true))
    ∙ ap fault (sym c.hash_count-count.ensures)

pub returns-then-rest-size-2-clause-refused : goal.returns-then-rest-size-2-clause-refused
returns-then-rest-size-2-clause-refused c = rw (returns-then-rest-size-2-clause-value c) refl

pub returns-in_err-hashes-clause-refused : goal.returns-in_err-hashes-clause-refused
returns-in_err-hashes-clause-refused c =
    let fits = ended-fits c.args.fields c.args.whole c.args.rest.now (omega (arith, c.hash_count-count.ensures, c.if-rest-size.false, c.if-rest-size-2.false)) in
    rw fits.1 tt

pub returns-clause-value : goal.returns-clause-value
returns-clause-value c =
    let stamped : Timestamp → Result RecordValue RecordFault = λ stamp. Ok (record (record_with c.args.fields c.in_ok-hashes.hashes.items) { stamp = stamp }) in
    ended-whole c.args.fields c.args.whole c.in_ok-hashes.hashes.items c.args.rest.now (c.in_ok-hashes.ensures.count ∙ c.hash_count-count.ensures) c.in_ok-hashes.ensures.sizes c.in_ok-hashes.ensures.value
    ∙ ap stamped (sym c.known.ensures.same)

pub returns-clause-refused : goal.returns-clause-refused
returns-clause-refused c = rw (returns-clause-value c) tt
