-- The words of an answer of a Byzantine cloud: what is read is the row of the answer, in range, and such a row is read again.
use Rattle.std.proofs.Common.{◌≡◌, ℕ, ◌<◌, true, List, ◌∷◌, ◌++◌, length, Ok, refl, sym, ap, subst, arith}
use Rattle.std.specs.List.{list_all}
use Rattle.hy_base.proofs.Results.{bind_ok, ok_is}
use Rattle.hy_base.specs.declared.limits.TheConstants.{MAX_TEXT_VALUE}
use Rattle.hy_record.specs.declared.cloud.CloudSay.{CloudSay}
use Rattle.hy_record.specs.declared.cloud.CloudSay.TheVariants as says
use Rattle.hy_text.specs.Line.{first_word, later_words, is_word}
use Rattle.hy_text.specs.Slot.{value_of}
use Rattle.hy_text.specs.Table.{value_named}
use Rattle.hy_text.proofs.Groups.{Spells, value_first, named_first}
use Rattle.hy_text.proofs.Printed.{is_word-value_word}
use Rattle.hy_text.proofs.Values.{value_again}
use Rattle.hy_sched.specs.declared.say.SayKind.{SayKind}
use Rattle.hy_sched.specs.declared.say.SayKind.TheVariants.{Stored, Conflict, Body, Missing, Gone, Bad}
use Rattle.hy_sched.specs.declared.say.TheConstants.{BAD_STATUS}
use Rattle.hy_sched.specs.Say.{say_word, say_kinds, say_words, IsTextSay, say_by, say_from}

say_filled : (kind : SayKind) → 0 < length (say_word kind)
say_filled Stored = omega arith
say_filled Conflict = omega arith
say_filled Body = omega arith
say_filled Missing = omega arith
say_filled Gone = omega arith
say_filled Bad = omega arith

-- the answer, with the words left after it, is what was read
said : (kind : SayKind) (words : List (List ℕ)) (say : CloudSay) (left : List (List ℕ)) (read : CloudSay × List (List ℕ)) → IsTextSay say → say_word kind ∷ words ≡ say_words say ++ left → (say, left) ≡ read
    → Spells say_words IsTextSay (say_word kind ∷ words) read
said kind words say left read fits row is = subst (Spells say_words IsTextSay (say_word kind ∷ words)) is (record { row = row; fits = fits })

say_by_takes : (kind : SayKind) (words : List (List ℕ)) (read : CloudSay × List (List ℕ)) → say_by kind words ≡ Ok read → Spells say_words IsTextSay (say_word kind ∷ words) read
unfolding say_by
say_by_takes Stored words read e = said Stored words (says.Stored true) words read refl refl (ok_is (says.Stored true, words) read e)
say_by_takes Conflict words read e = said Conflict words says.Conflict words read tt refl (ok_is (says.Conflict, words) read e)
say_by_takes Body words read e =
    let value = bind_ok (value_of MAX_TEXT_VALUE (first_word words)) (λ value. Ok (says.Body value, later_words words)) read e in
    let v = value_first words value.0 value.1 in
    said Body words (says.Body value.0) (later_words words) read v.1 (ap (λ (ws : List (List ℕ)). say_word Body ∷ ws) v.0) (ok_is (says.Body value.0, later_words words) read value.2)
say_by_takes Missing words read e = said Missing words says.Missing words read tt refl (ok_is (says.Missing, words) read e)
say_by_takes Gone words read e = said Gone words says.Gone words read tt refl (ok_is (says.Gone, words) read e)
say_by_takes Bad words read e = said Bad words (says.Bad BAD_STATUS) words read refl refl (ok_is (says.Bad BAD_STATUS, words) read e)

pub say_takes : (words : List (List ℕ)) (read : CloudSay × List (List ℕ)) → say_from words ≡ Ok read → Spells say_words IsTextSay words read
unfolding say_from
say_takes words read e =
    let kind = bind_ok (value_named say_word say_kinds (first_word words)) (λ kind. say_by kind (later_words words)) read e in
    let row = named_first say_word say_kinds words kind.0 say_filled kind.1 in
    subst (λ (ws : List (List ℕ)). Spells say_words IsTextSay ws read) (sym row) (say_by_takes kind.0 (later_words words) read kind.2)

pub say_again : (say : CloudSay) (left : List (List ℕ)) → IsTextSay say → say_from (say_words say ++ left) ≡ Ok (say, left)
unfolding say_from say_by value_named
say_again (says.Stored fresh) left fits = rw fits refl
say_again says.Conflict left fits = refl
say_again (says.Body value) left fits = rw (value_again MAX_TEXT_VALUE value fits.bytes fits.short) refl
say_again says.Missing left fits = refl
say_again says.Gone left fits = refl
say_again (says.Bad status) left fits = rw fits refl

pub say_is_row : (say : CloudSay) → list_all is_word (say_words say) ≡ true
say_is_row (says.Stored fresh) = refl
say_is_row says.Conflict = refl
say_is_row (says.Body value) = rw (is_word-value_word value) refl
say_is_row says.Missing = refl
say_is_row says.Gone = refl
say_is_row (says.Bad status) = refl
