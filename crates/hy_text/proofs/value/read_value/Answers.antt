use Rattle.std.proofs.Common.{◌≡◌, [], ◌∷◌, sym, ◌∙◌, ap, arith}
use Rattle.std.proofs.lemmas.Slice.Eq.{bytes_eq-Decides}
use Rattle.hy_text.specs.Slot.{value_of}
use Rattle.hy_text.proofs.Values.{value_of-dash, value_of-other, value_of-value, value_of-long}
use Rattle.hy_text.proofs.value.read_value.Goals as goal

pub returns-then-eq : goal.returns-then-eq
returns-then-eq c =
    let dash : c.args.word.now ≡ 45 ∷ [] = (bytes_eq-Decides c.args.word.now (45 ∷ [])).0 (sym (rw c.as_slice.ensures at c.eq.ensures) ∙ c.if-eq.true) in
    rw (c.of.ensures, c.new.ensures.items) (ap (value_of c.args.limit) dash ∙ value_of-dash c.args.limit)

pub returns-then-not-is_hex : goal.returns-then-not-is_hex
returns-then-not-is_hex c = value_of-other c.args.limit c.args.word.now (sym c.is_hex.ensures ∙ c.if-not-is_hex.true) (sym (rw c.as_slice.ensures at c.eq.ensures) ∙ c.if-eq.false)

pub returns-then-word-limit : goal.returns-then-word-limit
returns-then-word-limit c = value_of-long c.args.limit c.args.word.now (sym c.is_hex.ensures ∙ c.if-not-is_hex.false) c.if-word-limit.true

pub returns : goal.returns
returns c =
    let value = value_of-value c.args.limit c.args.word.now (sym c.is_hex.ensures ∙ c.if-not-is_hex.false) (omega arith) in
    rw (c.of-2.ensures, c.in_ok-paired_bytes.ensures) value
