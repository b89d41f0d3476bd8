use Rattle.std.proofs.Common.{ℕ, length, ap, ◌∙◌, arith}
use Rattle.hy_record.specs.Record.{RecordValue}
use Rattle.hy_record.specs.Spelling.{record_bytes}
use Rattle.hy_journal.specs.Entry.{swap_block}
use Rattle.hy_journal.proofs.Swaps.{behind_kind, frame_few}
use Rattle.hy_journal.proofs.swap.write_swap.Goals as goal

pub block_of-requires-clause-some : goal.block_of-requires-clause-some
block_of-requires-clause-some c =
    let frame = c.deref.ensures.value ∙ c.into_bytes-frame.ensures ∙ c.in_ok-encode_ask.ensures.frame in
    (frame_few c.deref.result.now c.args.client c.args.op c.args.key.now c.args.expected.now frame c.in_ok-encode_ask.ensures.known).0

pub block_of-requires-clause-few : goal.block_of-requires-clause-few
block_of-requires-clause-few c =
    let frame = c.deref.ensures.value ∙ c.into_bytes-frame.ensures ∙ c.in_ok-encode_ask.ensures.frame in
    let few = (frame_few c.deref.result.now c.args.client c.args.op c.args.key.now c.args.expected.now frame c.in_ok-encode_ask.ensures.known).1 in
    let spelled = ap (length {A = ℕ}) (c.deref-2.ensures.value ∙ c.into_bytes-spelled.ensures) in
    omega (arith, few, spelled, c.in_ok-encode.ensures.short)

pub returns-clause-bytes : goal.returns-clause-bytes
returns-clause-bytes c =
    let frame = c.deref.ensures.value ∙ c.into_bytes-frame.ensures ∙ c.in_ok-encode_ask.ensures.frame in
    let fields = behind_kind c.deref.result.now c.args.client c.args.op c.args.key.now c.args.expected.now frame in
    let spelled = c.deref-2.ensures.value ∙ c.into_bytes-spelled.ensures ∙ c.in_ok-encode.ensures.value ∙ ap (λ (r : RecordValue). record_bytes r) c.known.ensures.same in
    c.in_ok-bytes.ensures ∙ λ i. swap_block (fields i) (spelled i)
