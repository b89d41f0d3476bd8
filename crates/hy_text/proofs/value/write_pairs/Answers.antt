use Rattle.std.proofs.Common.{◌≡◌, ◌+◌, ◌*◌, ◌<◌, get_or, length, ap, sym, ◌∙◌, arith, inl, inr}
use Rattle.std.proofs.lemmas.Bool.{cases_lt}
use Rattle.std.proofs.lemmas.Grind.{same_number_lists, get_or-set_at}
use Rattle.std.proofs.lemmas.List.{get_or-set_other}
use Rattle.hy_text.specs.Slot.{hex_value, hex_bytes}
use Rattle.hy_text.proofs.Values.{digit_at, pair_at, length-hex_bytes}
use Rattle.hy_text.proofs.value.write_pairs.Goals as goal

pub digit_value-high-requires : goal.digit_value-high-requires
digit_value-high-requires c = digit_at c.args.digits.now (2 * c.loop-place.place) c.requires.digits (omega (arith, c.loop-place.auto.bytes))

pub digit_value-low-requires : goal.digit_value-low-requires
digit_value-low-requires c = digit_at c.args.digits.now (2 * c.loop-place.place + 1) c.requires.digits (omega (arith, c.loop-place.auto.bytes))

pub loop-place-preserved : goal.loop-place-preserved
loop-place-preserved c = λ k below.
    let place = c.loop-place.place in
    let byte = c.digit_value-high.result * 16 + c.digit_value-low.result in
    let within : 2 * place + 1 < length c.args.digits.now = omega (arith, c.loop-place.auto.bytes) in
    elim (cases_lt k place) [
      | inl low ↦ get_or-set_other c.loop-place.bytes place k byte 0 (omega arith) ∙ c.loop-place.invariant k low
      | inr high ↦
          let here : k ≡ place = omega arith in
          get_or-set_at c.loop-place.bytes place k byte 0 here (omega (arith, c.loop-place.auto.bytes))
          ∙ ap (λ h. h * 16 + c.digit_value-low.result) c.digit_value-high.ensures.value
          ∙ ap (λ l. hex_value (get_or c.args.digits.now (2 * place) 0) * 16 + l) c.digit_value-low.ensures.value
          ∙ sym (ap (λ i. get_or (hex_bytes c.args.digits.now) i 0) here ∙ pair_at c.args.digits.now place within)
    ]

pub returns : goal.returns
returns c =
    same_number_lists c.loop-place.bytes (hex_bytes c.args.digits.now) (omega (arith, c.loop-place.auto.bytes, length-hex_bytes c.args.digits.now))
    (λ k within. c.loop-place.invariant k (omega (arith, c.loop-place.auto.bytes)))
