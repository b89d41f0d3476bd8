-- The words are split where the first option stands.
use Rattle.std.proofs.Common.{◌≡◌, ◌+◌, [], map, string_bytes, Some, None, drop, length, arith, ◌-◌, refl, sym, ◌∙◌}
use Rattle.std.specs.List.{position}
use Rattle.std.proofs.lemmas.List.{append-nil, take-map, drop-map, get_or-map, take_all, length-drop}
use Rattle.hy_words.specs.Given.{is_option}
use Rattle.hy_words.proofs.Places.{position-map}
use Rattle.hy_words.proofs.given.given_of.Goals as goal

pub returns-in-Some : goal.returns-in-Some
returns-in-Some c =
    let at = position-map is_option string_bytes c.args.words.now in
    let front = take-map string_bytes c.in-Some.place c.args.words.now in
    let back = drop-map string_bytes (c.in-Some.place + 1) c.args.words.now in
    let found = c.option_place.ensures.place in
    let is = c.in-Some.is in
    let word = c.as_bytes-word.ensures.value in
    let item = c.index-words-place.is in
    let with = c.given_with.ensures in
    let some : position is_option (map string_bytes c.args.words.now) ≡ Some c.in-Some.place = at ∙ sym found ∙ is in
    let whole = take_all (length c.args.words.now - (c.in-Some.place + 1)) (drop (c.in-Some.place + 1) c.args.words.now) (omega (arith, length-drop (c.in-Some.place + 1) c.args.words.now)) in
    let at_place = get_or-map string_bytes c.args.words.now c.in-Some.place c.index-words-place.result [] (omega (arith, c.in-Some.ensures)) in
    rw (some) cc

pub returns-in-None : goal.returns-in-None
returns-in-None c =
    let at = position-map is_option string_bytes c.args.words.now in
    let found = c.option_place.ensures.place in
    let is = c.in-None.is in
    let of = c.of.ensures in
    let none : position is_option (map string_bytes c.args.words.now) ≡ None = at ∙ sym found ∙ is in
    rw (none, of, append-nil (map string_bytes c.args.words.now)) refl
