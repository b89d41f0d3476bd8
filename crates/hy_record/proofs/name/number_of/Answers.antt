-- A number's digits are read as that number.
use Rattle.std.proofs.Common.{◌≡◌, sym, ap, ◌∙◌, Some}
use Rattle.std.proofs.lemmas.Bool.Decides.{Decides-eqb, not_from_Decides}
use Rattle.std.proofs.lemmas.Slice.Eq.{slice_eq-Decides}
use Rattle.hy_record.specs.Name.{hex_number}
use Rattle.hy_record.proofs.Names.{hex_number_decodes, big_number_same, not_failed}
use Rattle.hy_record.proofs.name.number_of.Goals as goal

pub returns-in_err-ok-clause-only : goal.returns-in_err-ok-clause-only
returns-in_err-ok-clause-only c = λ n fits spelled.
    let d = hex_number_decodes c.args.digits.now n c.decode_to_slice.result c.decode_to_slice.new.out spelled c.decode_to_slice.ensures.value in
    absurd (not_failed c.decode_to_slice.result d.0 c.in_err-ok.ensures.value)

pub returns-then-eq-clause-only : goal.returns-then-eq-clause-only
returns-then-eq-clause-only c = λ n fits spelled.
    let d = hex_number_decodes c.args.digits.now n c.decode_to_slice.result c.decode_to_slice.new.out spelled c.decode_to_slice.ensures.value in
    ap Some (c.read_u32-number.ensures ∙ big_number_same n c.decode_to_slice.new.out fits d.1)

pub returns-else-eq-clause-only : goal.returns-else-eq-clause-only
returns-else-eq-clause-only c = λ n fits spelled.
    let d = hex_number_decodes c.args.digits.now n c.decode_to_slice.result c.decode_to_slice.new.out spelled c.decode_to_slice.ensures.value in
    let number : c.read_u32-number.result ≡ n = c.read_u32-number.ensures ∙ big_number_same n c.decode_to_slice.new.out fits d.1 in
    let same = slice_eq-Decides Decides-eqb c.as_slice.result.now c.args.digits.now c.eq.result c.eq.ensures in
    absurd (not_from_Decides c.eq.result same c.if-eq.false (c.as_slice.ensures ∙ c.digits_of.ensures ∙ ap hex_number number ∙ sym spelled))
