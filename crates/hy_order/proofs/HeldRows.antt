-- The lines of retrievable copies: what is read is the row of copies of a key above the last.
use Rattle.std.proofs.Common.{◌≡◌, ℕ, ◌-◌, Bool, true, false, cond, List, [], ◌∷◌, ◌++◌, map, Option, Some, None, Ok, Err, refl, sym, ap, subst, ◌∙◌, arith}
use Rattle.std.specs.Prelude.{codes}
use Rattle.std.specs.Cmp.Lexicographic.{slice_cmp}
use Rattle.std.specs.List.{AllByRecursion}
use Rattle.std.specs.List.Sorted.{IsStrictlySortedBy}
use Rattle.std.specs.Ordering.{nat_cmp, is_lt}
use Rattle.std.specs.declared.cmp.Ordering.{Ordering}
use Rattle.std.specs.declared.cmp.Ordering.TheVariants.{Less, Equal, Greater}
use Rattle.std.proofs.lemmas.Cmp.{nat_list_cmp_total}
use Rattle.std.proofs.lemmas.Slice.Eq.{bytes_eq-Decides}
use Rattle.hy_base.specs.declared.fault.Cause.TheVariants.{BadKey}
use Rattle.hy_record.specs.Clouds.{clouds_of}
use Rattle.hy_text.specs.Line.{first_word, later_words}
use Rattle.hy_text.specs.Slot.{key_word, end_of}
use Rattle.hy_text.proofs.Keys.{key_again}
use Rattle.hy_base.proofs.Results.{bind_ok, ok_is}
use Rattle.hy_text.proofs.Slots.{end_takes, words_from_first}
use Rattle.hy_order.specs.declared.held.Held.{Held}
use Rattle.hy_text.specs.Kind.{items_from}
use Rattle.hy_text.specs.OpenLine.{OpenLine, Rest}
use Rattle.hy_base.specs.declared.limits.TheConstants.{MAX_COUNT, MAX_N}
use Rattle.hy_text.specs.Clouds.{cloud_word}
use Rattle.hy_text.specs.Stamp.{stamp_words}
use Rattle.hy_order.specs.Report.{held_row}
use Rattle.hy_order.specs.ReportRanges.{IsTextHeld}
use Rattle.hy_order.specs.ReportReading.{held_of_words, held_lines}
use Rattle.hy_order.specs.WordReaders.{is_above, key_above, store_clouds_of, any_stamp_from}
use Rattle.hy_text.proofs.ItemRows.{Takes, ReadsAgain, AreLinesOf, FitAlong, items_take}
use Rattle.hy_text.proofs.CloudWords.{clouds_take, clouds_again, is_word-clouds}
use Rattle.hy_text.proofs.Groups.{key_first, stamp_takes, stamp_again}

-- ---- the line

-- the copies are in range, and their key is above the last
pub record FitsAbove (last : Option (List ℕ)) (held : Held) : Type 0 where
  pub range : IsTextHeld held
  pub above : is_above last held.key ≡ true

-- nothing is asked of what stands before
abbrev pub AnyLast : Option (List ℕ) → Type 0
AnyLast last = Unit {0}

above_ok : (t : Bool) (key found : List ℕ) → cond t (Ok key) (Err BadKey) ≡ Ok found → (t ≡ true) × (key ≡ found)
above_ok true key found e = (refl, ok_is key found e)
above_ok false key found e = absurd cc

key_above_takes : (last : Option (List ℕ)) (word key : List ℕ) → key_above last word ≡ Ok key → (key_word word ≡ Ok key) × (is_above last key ≡ true)
key_above_takes last word key e =
    let read = bind_ok (key_word word) (λ key. cond (is_above last key) (Ok key) (Err BadKey)) key e in
    let ok = above_ok (is_above last read.0) read.0 key read.2 in
    (read.1 ∙ ap (λ (k : List ℕ). Ok k) ok.1, ap (is_above last) (sym ok.1) ∙ ok.0)

-- the words after the keyword are those of the copies
record SpellsHeld (last : Option (List ℕ)) (words : List (List ℕ)) (held : Held) : Type 0 where
  row : codes "held" ∷ words ≡ held_row held
  fits : FitsAbove last held

held_takes : (last : Option (List ℕ)) (words : List (List ℕ)) (held : Held) → held_of_words last words ≡ Ok held → SpellsHeld last words held
unfolding held_of_words
held_takes last words held e =
    let key = bind_ok (key_above last (first_word words)) _ held e in
    let stamp = bind_ok (any_stamp_from (later_words words)) _ held key.2 in
    let clouds = bind_ok (store_clouds_of (first_word stamp.0.1)) _ held stamp.2 in
    let none = bind_ok (end_of (later_words stamp.0.1)) (λ _. Ok (record { key = key.0; stamp = stamp.0.0; clouds = clouds.0 })) held clouds.2 in
    let above = key_above_takes last (first_word words) key.0 key.1 in
    let k = key_first words key.0 above.0 in
    let s = stamp_takes 0 MAX_COUNT (later_words words) stamp.0 (omega arith) stamp.1 in
    let c = clouds_take (MAX_N - 1) (first_word stamp.0.1) clouds.0 (omega arith) clouds.1 in
    let word : List ℕ = cloud_word (clouds_of clouds.0) in
    let last_words : stamp.0.1 ≡ word ∷ [] =
    words_from_first stamp.0.1 word c.0 (is_word-clouds (MAX_N - 1) clouds.0 (omega arith) c.1).1 ∙ ap (λ (ws : List (List ℕ)). word ∷ ws) (end_takes (later_words stamp.0.1) none.0 none.1) in
    let row : words ≡ key.0 ∷ (stamp_words stamp.0.0 ++ word ∷ []) =
    k.0 ∙ ap (λ (ws : List (List ℕ)). key.0 ∷ ws) (s.row ∙ ap (λ (ws : List (List ℕ)). stamp_words stamp.0.0 ++ ws) last_words) in
    subst (SpellsHeld last words) (ok_is (record { key = key.0; stamp = stamp.0.0; clouds = clouds.0 }) held none.2)
    (record {
      row = ap (λ (ws : List (List ℕ)). codes "held" ∷ ws) row;
      fits = record { range = record { key = k.1; stamp = s.fits; clouds = c.1 }; above = above.1 };
    })

held_line_takes : Takes held_lines held_row FitsAbove AnyLast
held_line_takes last keyword words held holds due e =
    let spells = held_takes last words held e in
    let word : keyword ≡ codes "held" = (bytes_eq-Decides keyword (codes "held")).0 due in
    record { row = ap (λ (w : List ℕ). w ∷ words) word ∙ spells.row; fits = spells.fits }

pub helds_take : (number : ℕ) (lines : List OpenLine) (read : List Held × Rest) → items_from held_lines None number lines ≡ Ok read → AreLinesOf held_lines held_row FitsAbove None lines read
helds_take number lines read e = items_take held_lines held_row FitsAbove AnyLast held_line_takes (λ last held holds. tt) None number lines read tt e

-- ---- keys that increase

is_less : (o : Ordering) → is_lt o ≡ true → o ≡ Less
is_less Less e = refl
is_less Equal e = absurd cc
is_less Greater e = absurd cc

all_above : (low key : List ℕ) (keys : List (List ℕ)) → slice_cmp nat_cmp low key ≡ Less → AllByRecursion (λ other. slice_cmp nat_cmp key other ≡ Less) keys → AllByRecursion (λ other. slice_cmp nat_cmp low other ≡ Less) keys
all_above low key [] less all = tt
all_above low key (other ∷ keys) less all = (nat_list_cmp_total.trans low key other less all.0, all_above low key keys less all.1)

abbrev keys_in : List Held → List (List ℕ)
keys_in helds = map (λ (held : Held). held.key) helds

rising_after : (last : List ℕ) (helds : List Held) → FitAlong held_lines FitsAbove (Some last) helds
    → AllByRecursion (λ other. slice_cmp nat_cmp last other ≡ Less) (keys_in helds) × IsStrictlySortedBy (slice_cmp nat_cmp) (keys_in helds)
unfolding IsStrictlySortedBy
rising_after last [] fits = (tt, tt)
rising_after last (held ∷ helds) fits =
    let less : slice_cmp nat_cmp last held.key ≡ Less = is_less _ fits.0.above in
    let more = rising_after held.key helds fits.1 in
    ((less, all_above last held.key (keys_in helds) less more.0), more)

pub rising : (helds : List Held) → FitAlong held_lines FitsAbove None helds → IsStrictlySortedBy (slice_cmp nat_cmp) (keys_in helds)
unfolding IsStrictlySortedBy
rising [] fits = tt
rising (held ∷ helds) fits = rising_after held.key helds fits.1

pub ranges_taken : (last : Option (List ℕ)) (helds : List Held) → FitAlong held_lines FitsAbove last helds → AllByRecursion IsTextHeld helds
ranges_taken last [] fits = tt
ranges_taken last (held ∷ helds) fits = (fits.0.range, ranges_taken (Some held.key) helds fits.1)

helds_fit_after : (last : List ℕ) (helds : List Held) → AllByRecursion IsTextHeld helds → AllByRecursion (λ other. slice_cmp nat_cmp last other ≡ Less) (keys_in helds) → IsStrictlySortedBy (slice_cmp nat_cmp) (keys_in helds)
    → FitAlong held_lines FitsAbove (Some last) helds
unfolding IsStrictlySortedBy
helds_fit_after last [] ranges above sorted = tt
helds_fit_after last (held ∷ helds) ranges above sorted =
    (record { range = ranges.0; above = ap is_lt above.0 }, helds_fit_after held.key helds ranges.1 sorted.0 sorted.1)

pub helds_fit : (helds : List Held) → AllByRecursion IsTextHeld helds → IsStrictlySortedBy (slice_cmp nat_cmp) (keys_in helds) → FitAlong held_lines FitsAbove None helds
unfolding IsStrictlySortedBy
helds_fit [] ranges sorted = tt
helds_fit (held ∷ helds) ranges sorted = (record { range = ranges.0; above = refl }, helds_fit_after held.key helds ranges.1 sorted.0 sorted.1)

-- ---- copies are read again

pub held_again : ReadsAgain held_lines held_row FitsAbove
unfolding held_of_words
held_again last held fits =
    let stamp = stamp_again 0 MAX_COUNT held.stamp (cloud_word (clouds_of held.clouds) ∷ []) (omega arith) fits.range.stamp in
    (refl, rw (key_again held.key fits.range.key, fits.above, stamp, clouds_again (MAX_N - 1) held.clouds (omega arith) fits.range.clouds) refl)
