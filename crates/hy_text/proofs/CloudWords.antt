-- The list of a set of clouds as a word: what is read is the word of the set, and it is read again.
use Rattle.std.proofs.Common.{◌≡◌, ℕ, ◌+◌, ◌^◌, ◌<◌, ◌≤◌, Bool, true, false, List, [], ◌∷◌, ◌++◌, length, map, Ok, refl, sym, ap, subst, ◌∙◌, arith, inl, inr}
use Rattle.std.specs.Prelude.{codes}
use Rattle.std.specs.Char.{digit_value}
use Rattle.std.specs.Fmt.{decimal}
use Rattle.std.specs.List.{AllByRecursion, join_with_byte}
use Rattle.std.specs.Str.{bytes_eq}
use Rattle.std.specs.Str.Parse.{AllDigits}
use Rattle.std.proofs.Math.Pow.{pow_mono}
use Rattle.std.proofs.lemmas.Bool.Decides.{nat_tests}
use Rattle.std.proofs.lemmas.Fmt.{decimal_is_IsNumeral}
use Rattle.std.proofs.lemmas.List.Splits.{join_with_byte-slice_split}
use Rattle.std.proofs.lemmas.Slice.Eq.{bytes_eq-Decides}
use Rattle.hy_base.proofs.Results.{bind_ok, ok_is}
use Rattle.hy_record.specs.Clouds.{clouds_of}
use Rattle.hy_text.specs.Clouds.{cloud_word, AreRising, rising_of, cloud_list_of, set_of_clouds, cloud_set_of}
use Rattle.hy_text.specs.Line.{pieces_at, is_word}
use Rattle.hy_text.proofs.CloudSets.{clouds_of-set, set_of_clouds-lt, set_of_clouds-clouds_of, rising-clouds_of}
use Rattle.hy_text.proofs.Pieces.{pieces_at-some}
use Rattle.hy_text.proofs.Printed.{is_word-decimal, length-decimal}
use Rattle.hy_text.proofs.Rising.{rising_takes, rising_again}
use Rattle.hy_text.proofs.Rows.{Lacks, pieces_at-join}
use Rattle.hy_text.proofs.Slots.{chosen}

-- ---- the numbers between commas

digits_lack_comma : (word : List ℕ) → AllDigits 10 word → Lacks 44 word
digits_lack_comma [] all = tt
digits_lack_comma (c ∷ word) all = (let digit : digit_value c < 10 = all.0 in grind (arith, nat_tests), digits_lack_comma word all.1)

decimals_lack_comma : (least last : ℕ) (numbers : List ℕ) → last < 2 ^ 64 → AreRising least last numbers → AllByRecursion (Lacks 44) (map decimal numbers)
decimals_lack_comma least last [] fits are = tt
decimals_lack_comma least last (number ∷ numbers) fits are =
    let high : number ≤ last = are.1 in
    (digits_lack_comma (decimal number) (decimal_is_IsNumeral number (omega arith)).0.1, decimals_lack_comma (number + 1) last numbers fits are.2)

digits_no_dash : (word : List ℕ) → AllDigits 10 word → word ≡ codes "-" → ⊥
digits_no_dash word all is = let dash : AllDigits 10 (codes "-") = subst (AllDigits 10) is all in omega (arith, dash.0)

first_piece : (words : List (List ℕ)) (word : List ℕ) (first : List ℕ) (later : List (List ℕ)) → word ∷ [] ≡ first ∷ later → first ≡ word
first_piece words word first later e = cc

-- numbers with commas between are no dash
no_dash : (least last number : ℕ) (numbers : List ℕ) → last < 2 ^ 64 → AreRising least last (number ∷ numbers) → bytes_eq (cloud_word (number ∷ numbers)) (codes "-") ≡ false
no_dash least last number numbers fits are = by (bytes_eq (cloud_word (number ∷ numbers)) (codes "-")) refl
  where
    by : (t : Bool) → bytes_eq (cloud_word (number ∷ numbers)) (codes "-") ≡ t → t ≡ false
    by false e = refl
    by true e =
        let is : cloud_word (number ∷ numbers) ≡ codes "-" = (bytes_eq-Decides (cloud_word (number ∷ numbers)) (codes "-")).0 e in
        let pieces = pieces_at-join 44 (decimal number) (map decimal numbers) (decimals_lack_comma least last (number ∷ numbers) fits are) in
        let one : codes "-" ∷ [] ≡ decimal number ∷ map decimal numbers = sym (ap (pieces_at 44) is) ∙ pieces in
        let high : number ≤ last = are.1 in
        absurd (digits_no_dash (decimal number) (decimal_is_IsNumeral number (omega arith)).0.1 (first_piece [] (codes "-") (decimal number) (map decimal numbers) one))

joined : (pieces : List (List ℕ)) (numbers : List ℕ) → pieces ≡ map decimal numbers → 0 < length pieces → join_with_byte 44 pieces ≡ cloud_word numbers
joined pieces [] is some = absurd (omega (arith, ap length is))
joined pieces (number ∷ numbers) is some = ap (join_with_byte 44) is

pieces_filled : (word : List ℕ) → 0 < length (pieces_at 44 word)
pieces_filled word = let some = pieces_at-some 44 word in omega (arith, ap length some.2)

-- ---- lists of clouds

cloud_list_takes : (last : ℕ) (word clouds : List ℕ) → cloud_list_of last word ≡ Ok clouds → (word ≡ cloud_word clouds) × AreRising 0 last clouds
unfolding cloud_list_of
cloud_list_takes last word clouds e =
    elim (chosen (bytes_eq word (codes "-")) (Ok []) (rising_of 0 last (pieces_at 44 word)) clouds e) [
      | inl none ↦ subst (λ (cs : List ℕ). (word ≡ cloud_word cs) × AreRising 0 last cs) (ok_is [] clouds none.1) ((bytes_eq-Decides word (codes "-")).0 none.0, tt)
      | inr some ↦
          let rising = rising_takes 0 last (pieces_at 44 word) clouds some in
          (sym (join_with_byte-slice_split 44 word) ∙ joined (pieces_at 44 word) clouds rising.0 (pieces_filled word), rising.1)
    ]

cloud_list_again : (last : ℕ) (clouds : List ℕ) → last < 2 ^ 64 → AreRising 0 last clouds → cloud_list_of last (cloud_word clouds) ≡ Ok clouds
unfolding cloud_list_of
cloud_list_again last [] fits are = refl
cloud_list_again last (cloud ∷ clouds) fits are =
    let pieces = pieces_at-join 44 (decimal cloud) (map decimal clouds) (decimals_lack_comma 0 last (cloud ∷ clouds) fits are) in
    rw (no_dash 0 last cloud clouds fits are) (ap (rising_of 0 last) pieces ∙ rising_again 0 last (cloud ∷ clouds) fits are)

-- ---- sets of clouds

-- what the slot of a set of clouds takes is the list of the set
pub clouds_take : (last : ℕ) (word : List ℕ) (set : ℕ) → last < 16 → cloud_set_of last word ≡ Ok set → (word ≡ cloud_word (clouds_of set)) × (set < 2 ^ (last + 1))
clouds_take last word set few e =
    let list = bind_ok (cloud_list_of last word) (λ clouds. Ok (set_of_clouds clouds)) set e in
    let parts = cloud_list_takes last word list.0 list.1 in
    let is : set_of_clouds list.0 ≡ set = ok_is (set_of_clouds list.0) set list.2 in (
      parts.0 ∙ ap cloud_word (sym (clouds_of-set last list.0 few parts.1) ∙ ap clouds_of is),
      subst (λ (n : ℕ). n < 2 ^ (last + 1)) is (set_of_clouds-lt last list.0 parts.1),
    )

below_all : (last set : ℕ) → last < 16 → set < 2 ^ (last + 1) → set < 2 ^ 16
below_all last set few small = let within : last + 1 ≤ 16 = omega arith in let wide : 2 ^ (last + 1) ≤ 2 ^ 16 = pow_mono within in omega arith

-- the list of a set of clouds is taken
pub clouds_again : (last set : ℕ) → last < 16 → set < 2 ^ (last + 1) → cloud_set_of last (cloud_word (clouds_of set)) ≡ Ok set
clouds_again last set few small =
    let list = cloud_list_again last (clouds_of set) (omega arith) (rising-clouds_of last set small) in
    rw list (ap (λ (n : ℕ). Ok n) (set_of_clouds-clouds_of set (below_all last set few small)))

-- ---- the list as a word of a line

is_word-append : (xs ys : List ℕ) → is_word xs ≡ true → is_word ys ≡ true → is_word (xs ++ ys) ≡ true
is_word-append [] ys is_xs is_ys = is_ys
is_word-append (x ∷ xs) ys is_xs is_ys = grind (arith, nat_tests, is_word-append xs ys)

is_word-joined : (least last number : ℕ) (numbers : List ℕ) → last < 2 ^ 64 → AreRising least last (number ∷ numbers) → is_word (join_with_byte 44 (map decimal (number ∷ numbers))) ≡ true
is_word-joined least last number [] fits are = let high : number ≤ last = are.1 in is_word-decimal number (omega arith)
is_word-joined least last number (next ∷ numbers) fits are =
    let high : number ≤ last = are.1 in
    is_word-append (decimal number) (44 ∷ join_with_byte 44 (map decimal (next ∷ numbers))) (is_word-decimal number (omega arith)) (is_word-joined (number + 1) last next numbers fits are.2)

is_word-list : (last : ℕ) (clouds : List ℕ) → last < 2 ^ 64 → AreRising 0 last clouds → (is_word (cloud_word clouds) ≡ true) × (0 < length (cloud_word clouds))
is_word-list last [] fits are = (refl, omega arith)
is_word-list last (cloud ∷ clouds) fits are = (is_word-joined 0 last cloud clouds fits are, filled (cloud_word (cloud ∷ clouds)) refl)
  where
    filled : (word : List ℕ) → word ≡ cloud_word (cloud ∷ clouds) → 0 < length word
    filled [] is =
        let pieces = pieces_at-join 44 (decimal cloud) (map decimal clouds) (decimals_lack_comma 0 last (cloud ∷ clouds) fits are) in
        let one : [] ∷ [] ≡ decimal cloud ∷ map decimal clouds = ap (pieces_at 44) is ∙ pieces in
        let high : cloud ≤ last = are.1 in
        absurd (omega (arith, length-decimal cloud (omega arith), ap length (first_piece [] [] (decimal cloud) (map decimal clouds) one)))
    filled (b ∷ word) is = omega arith

-- the list of a set of clouds is a word that is not empty
pub is_word-clouds : (last set : ℕ) → last < 16 → set < 2 ^ (last + 1) → (is_word (cloud_word (clouds_of set)) ≡ true) × (0 < length (cloud_word (clouds_of set)))
is_word-clouds last set few small = is_word-list last (clouds_of set) (omega arith) (rising-clouds_of last set small)
