-- The first line: what is read is the row of parameters that a store can have, and such a row is read again.
use Rattle.std.proofs.Common.{◌≡◌, ℕ, ◌+◌, ◌-◌, ◌^◌, ◌<◌, ◌≤◌, Bool, true, false, cond, ◌&&◌, List, [], ◌∷◌, length, Result, Ok, Err, refl, ap, subst, ◌∙◌, arith}
use Rattle.std.specs.Prelude.{codes}
use Rattle.std.specs.Fmt.{decimal}
use Rattle.std.specs.Str.{bytes_eq}
use Rattle.std.proofs.lemmas.Bool.{and_parts}
use Rattle.std.proofs.lemmas.Slice.Eq.{bytes_eq-Decides}
use Rattle.hy_base.specs.Results.{◌>>=◌}
use Rattle.hy_base.specs.Shape.{cloud_count}
use Rattle.hy_base.specs.declared.fault.Cause.{Cause}
use Rattle.hy_base.specs.declared.fault.Cause.TheVariants.{NoHeader}
use Rattle.hy_base.specs.declared.limits.TheConstants.{MAX_F, MAX_K}
use Rattle.hy_base.proofs.Results.{bind_ok, ok_is}
use Rattle.hy_record.specs.Clouds.{clouds_of}
use Rattle.hy_text.specs.Clouds.{cloud_word, cloud_set_of}
use Rattle.hy_text.specs.Line.{first_word, later_words, is_row}
use Rattle.hy_text.specs.Slot.{keyword, number_of, end_of}
use Rattle.hy_text.proofs.CloudWords.{clouds_take, clouds_again, is_word-clouds}
use Rattle.hy_text.proofs.Groups.{number_first}
use Rattle.hy_text.proofs.Numbers.{number_again}
use Rattle.hy_text.proofs.Printed.{is_word-decimal}
use Rattle.hy_text.proofs.Slots.{keyword_takes, keyword_again, end_takes, words_from_first}
use Rattle.hy_sched.specs.declared.params.Params.{Params}
use Rattle.hy_sched.specs.Params.{IsParams}
use Rattle.hy_sched.specs.Reading.{named_number, params_of_words, as_bad_params, header_of}
use Rattle.hy_sched.specs.Text.{params_words, header_row}

-- ---- what is read is a row

keyword_first : (due : List ℕ) (words : List (List ℕ)) (u : Unit {0}) → 0 < length due → keyword due (first_word words) ≡ Ok u → words ≡ due ∷ later_words words
keyword_first due words u some e = words_from_first words due (keyword_takes due (first_word words) u e) some

-- the words are a name, the printed form of a number in its range, and the words that are left
record IsNamedNumber (name : List ℕ) (low high : ℕ) (words : List (List ℕ)) (read : ℕ × List (List ℕ)) : Type 0 where
  row : words ≡ name ∷ decimal read.0 ∷ read.1
  low_end : low ≤ read.0
  high_end : read.0 ≤ high

named_number_takes : (name : List ℕ) (low high : ℕ) (words : List (List ℕ)) (read : ℕ × List (List ℕ)) → 0 < length name → high < 2 ^ 64 → named_number name low high words ≡ Ok read → IsNamedNumber name low high words read
unfolding named_number
named_number_takes name low high words read some fits e =
    let second : List (List ℕ) = later_words words in
    let word = bind_ok (keyword name (first_word words)) (λ _. number_of low high (first_word second) >>= λ number. Ok (number, later_words second)) read e in
    let number = bind_ok (number_of low high (first_word second)) (λ number. Ok (number, later_words second)) read word.2 in
    let n = number_first low high second number.0 fits number.1 in
    let row : words ≡ name ∷ decimal number.0 ∷ later_words second = keyword_first name words word.0 some word.1 ∙ ap (λ (ws : List (List ℕ)). name ∷ ws) n.row in
    subst (IsNamedNumber name low high words) (ok_is (number.0, later_words second) read number.2) (record { row = row; low_end = n.low_end; high_end = n.high_end })

after_numbers : (first one second two : List ℕ) (words later left rest : List (List ℕ)) → words ≡ first ∷ one ∷ later → later ≡ second ∷ two ∷ left → left ≡ rest → words ≡ first ∷ one ∷ second ∷ two ∷ rest
after_numbers first one second two words later left rest e1 e2 e3 = cc

-- the words are those of parameters that a store can have
record SpellsParams (words : List (List ℕ)) (params : Params) : Type 0 where
  row : words ≡ params_words params
  fits : IsParams params

params_take : (words : List (List ℕ)) (params : Params) → params_of_words words ≡ Ok params → SpellsParams words params
unfolding params_of_words
params_take words params e =
    let f = bind_ok (named_number (codes "f") 0 MAX_F words) _ params e in
    let k = bind_ok (named_number (codes "k") 1 MAX_K f.0.1) _ params f.2 in
    let word = bind_ok (keyword (codes "liars") (first_word k.0.1)) _ params k.2 in
    let list : List (List ℕ) = later_words k.0.1 in
    let liars = bind_ok (cloud_set_of (cloud_count f.0.0 k.0.0 - 1) (first_word list)) (λ liars. end_of (later_words list) >>= λ _. Ok (record { f = f.0.0; k = k.0.0; liars = liars })) params word.2 in
    let end = bind_ok (end_of (later_words list)) (λ _. Ok (record { f = f.0.0; k = k.0.0; liars = liars.0 })) params liars.2 in
    let a = named_number_takes (codes "f") 0 MAX_F words f.0 (omega arith) (omega arith) f.1 in
    let b = named_number_takes (codes "k") 1 MAX_K f.0.1 k.0 (omega arith) (omega arith) k.1 in
    let count : cloud_count f.0.0 k.0.0 - 1 + 1 ≡ cloud_count f.0.0 k.0.0 = omega (arith, b.low_end) in
    let few : cloud_count f.0.0 k.0.0 - 1 < 16 = omega (arith, a.high_end, b.high_end) in
    let c = clouds_take (cloud_count f.0.0 k.0.0 - 1) (first_word list) liars.0 few liars.1 in
    let some = (is_word-clouds (cloud_count f.0.0 k.0.0 - 1) liars.0 few c.1).1 in
    let set : List ℕ = cloud_word (clouds_of liars.0) in
    let rest : list ≡ set ∷ [] = words_from_first list set c.0 some ∙ ap (λ (ws : List (List ℕ)). set ∷ ws) (end_takes (later_words list) end.0 end.1) in
    let last : k.0.1 ≡ codes "liars" ∷ set ∷ [] = keyword_first (codes "liars") k.0.1 word.0 (omega arith) word.1 ∙ ap (λ (ws : List (List ℕ)). codes "liars" ∷ ws) rest in
    let row : words ≡ codes "f" ∷ decimal f.0.0 ∷ codes "k" ∷ decimal k.0.0 ∷ codes "liars" ∷ set ∷ [] =
    after_numbers (codes "f") (decimal f.0.0) (codes "k") (decimal k.0.0) words f.0.1 k.0.1 (codes "liars" ∷ set ∷ []) a.row b.row last in
    subst (SpellsParams words) (ok_is (record { f = f.0.0; k = k.0.0; liars = liars.0 }) params end.2)
    (record {
      row = row;
      fits = record {
        shape = record { faults = a.high_end; some = b.low_end; parts = b.high_end };
        liars = subst (λ (n : ℕ). liars.0 < 2 ^ n) count c.1;
      };
    })

as_bad_params_ok : (read : Result Params Cause) (params : Params) → as_bad_params read ≡ Ok params → read ≡ Ok params
as_bad_params_ok (Ok read) params e = e
as_bad_params_ok (Err cause) params e = absurd cc

named_header : (named : Bool) (read : Result Params Cause) (params : Params) → cond named read (Err NoHeader) ≡ Ok params → (named ≡ true) × (read ≡ Ok params)
named_header true read params e = (refl, e)
named_header false read params e = absurd cc

pub header_takes : (name : List ℕ) (words : List (List ℕ)) (params : Params) → header_of name words ≡ Ok params → (name ∷ words ≡ header_row params) × IsParams params
unfolding header_of
header_takes name words params e =
    let named = named_header (bytes_eq name (codes "hybris") && bytes_eq (first_word words) (codes "1")) (as_bad_params (params_of_words (later_words words))) params e in
    let both = and_parts (bytes_eq name (codes "hybris")) (bytes_eq (first_word words) (codes "1")) named.0 in
    let is : name ≡ codes "hybris" = (bytes_eq-Decides name (codes "hybris")).0 both.0 in
    let version : words ≡ codes "1" ∷ later_words words = words_from_first words (codes "1") ((bytes_eq-Decides (first_word words) (codes "1")).0 both.1) (omega arith) in
    let spells = params_take (later_words words) params (as_bad_params_ok (params_of_words (later_words words)) params named.1) in (
      ap (λ (w : List ℕ). w ∷ words) is ∙ ap (λ (ws : List (List ℕ)). codes "hybris" ∷ ws) (version ∙ ap (λ (ws : List (List ℕ)). codes "1" ∷ ws) spells.row),
      spells.fits,
    )

-- ---- such a row is read again

named_number_again : (name : List ℕ) (low high number : ℕ) (left : List (List ℕ)) → high < 2 ^ 64 → low ≤ number → number ≤ high → named_number name low high (name ∷ decimal number ∷ left) ≡ Ok (number, left)
unfolding named_number
named_number_again name low high number left fits low_end high_end =
    rw (keyword_again name, number_again low high number (omega arith) low_end high_end) refl

params_again : (params : Params) → IsParams params → params_of_words (params_words params) ≡ Ok params
unfolding params_of_words
params_again params fits =
    let few_f : params.f ≤ MAX_F = fits.shape.faults in
    let some_k : 1 ≤ params.k = fits.shape.some in
    let few_k : params.k ≤ MAX_K = fits.shape.parts in
    let none_f : 0 ≤ params.f = omega arith in
    let set : List ℕ = cloud_word (clouds_of params.liars) in
    let last : ℕ = cloud_count params.f params.k - 1 in
    let count : cloud_count params.f params.k ≡ last + 1 = omega arith in
    let small : params.liars < 2 ^ (last + 1) = subst (λ (n : ℕ). params.liars < 2 ^ n) count fits.liars in
    let f = named_number_again (codes "f") 0 MAX_F params.f (codes "k" ∷ decimal params.k ∷ codes "liars" ∷ set ∷ []) (omega arith) none_f few_f in
    let k = named_number_again (codes "k") 1 MAX_K params.k (codes "liars" ∷ set ∷ []) (omega arith) some_k few_k in
    let liars : cloud_set_of last set ≡ Ok params.liars = clouds_again last params.liars (omega arith) small in
    rw (f, k, liars) refl

pub header_again : (params : Params) → IsParams params → header_of (codes "hybris") (codes "1" ∷ params_words params) ≡ Ok params
unfolding header_of
header_again params fits = rw (params_again params fits) refl

pub header_is_row : (params : Params) → IsParams params → is_row (header_row params) ≡ true
header_is_row params fits =
    let few_f : params.f ≤ MAX_F = fits.shape.faults in
    let some_k : 1 ≤ params.k = fits.shape.some in
    let few_k : params.k ≤ MAX_K = fits.shape.parts in
    let last : ℕ = cloud_count params.f params.k - 1 in
    let count : cloud_count params.f params.k ≡ last + 1 = omega arith in
    let small : params.liars < 2 ^ (last + 1) = subst (λ (n : ℕ). params.liars < 2 ^ n) count fits.liars in
    rw (is_word-decimal params.f (omega arith), is_word-decimal params.k (omega arith), (is_word-clouds last params.liars (omega arith) small).0) refl
