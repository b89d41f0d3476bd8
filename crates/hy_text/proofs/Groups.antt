-- Words and groups of words: what is read is the row of what it spells, in range, and such a row is read again.
use Rattle.std.proofs.Common.{◌≡◌, ℕ, ◌^◌, ◌<◌, ◌≤◌, IsTrue, Bool, true, false, cond, List, ◌∷◌, ◌++◌, length, Ok, Err, refl, ap, subst, ◌∙◌, arith}
use Rattle.std.specs.Fmt.{decimal}
use Rattle.std.specs.List.{list_all}
use Rattle.hy_base.specs.Results.{◌>>=◌}
use Rattle.hy_base.proofs.Results.{bind_ok, ok_is}
use Rattle.hy_base.specs.declared.fault.Cause.TheVariants.{BadKey}
use Rattle.hy_base.specs.declared.limits.TheConstants.{MAX_SN, MAX_TEXT_VALUE}
use Rattle.hy_record.specs.Key.{is_key}
use Rattle.hy_record.specs.Stamp.{Timestamp}
use Rattle.hy_record.specs.declared.action.Action.{Action}
use Rattle.hy_record.specs.declared.action.Action.TheVariants as asked
use Rattle.hy_record.specs.declared.action.Phase.{Phase}
use Rattle.hy_record.specs.declared.action.Phase.TheVariants as phase
use Rattle.hy_text.specs.Action.{verb_word, verbs_in, verb_of, is_key_of, key_for, action_words, action_verb, has_verb, IsTextValue, IsTextKey, IsTextAction, swap_by, action_by, action_from}
use Rattle.hy_text.specs.declared.action.Verb.{Verb}
use Rattle.hy_text.specs.declared.action.Verb.TheVariants as verb
use Rattle.hy_text.specs.declared.action.Verbs.{Verbs}
use Rattle.hy_text.specs.declared.action.Verbs.TheVariants.{All, WithoutSwaps, OfValues}
use Rattle.hy_text.specs.Line.{first_word, later_words, is_word}
use Rattle.hy_text.specs.Phase.{phase_word, phase_of}
use Rattle.hy_text.specs.Slot.{number_of, value_of, key_word, value_word}
use Rattle.hy_text.specs.Stamp.{stamp_words, IsStampWithin, stamp_from}
use Rattle.hy_text.specs.Table.{value_named}
use Rattle.hy_text.proofs.Keys.{key_takes, key_again}
use Rattle.hy_text.proofs.Numbers.{number_takes, number_again}
use Rattle.hy_text.proofs.Printed.{length-decimal, length-key, length-value_word, is_word-decimal, is_word-key, is_word-value_word}
use Rattle.hy_text.proofs.Slots.{words_from_first}
use Rattle.hy_text.proofs.Tables.{named_takes}
use Rattle.hy_text.proofs.Values.{value_takes, value_again}

-- the words are the row of the value and what is left after it, and the value is in range
pub record Spells {A : Type 0} (row_of : A → List (List ℕ)) (IsFit : A → Type 0) (words : List (List ℕ)) (read : A × List (List ℕ)) : Type 0 where
  pub row : words ≡ row_of read.0 ++ read.1
  pub fits : IsFit read.0

-- ---- the first word

-- the first word is the printed form of the number, which is in its range
pub record IsNumberWord (low high : ℕ) (words : List (List ℕ)) (number : ℕ) : Type 0 where
  pub row : words ≡ decimal number ∷ later_words words
  pub low_end : low ≤ number
  pub high_end : number ≤ high

pub number_first : (low high : ℕ) (words : List (List ℕ)) (number : ℕ) → high < 2 ^ 64 → number_of low high (first_word words) ≡ Ok number → IsNumberWord low high words number
number_first low high words number fits e =
    let n = number_takes low high (first_word words) number e in
    let small : number < 2 ^ 64 = omega (arith, n.high_end) in
    record { row = words_from_first words (decimal number) n.printed (length-decimal number small); low_end = n.low_end; high_end = n.high_end }

pub key_first : (words : List (List ℕ)) (key : List ℕ) → key_word (first_word words) ≡ Ok key → (words ≡ key ∷ later_words words) × IsTrue (is_key key)
key_first words key e = let k = key_takes (first_word words) key e in (words_from_first words key k.0 (length-key key k.1), k.1)

pub value_first : (words : List (List ℕ)) (value : List ℕ) → value_of MAX_TEXT_VALUE (first_word words) ≡ Ok value → (words ≡ value_word value ∷ later_words words) × IsTextValue value
value_first words value e =
    let v = value_takes MAX_TEXT_VALUE (first_word words) value e in
    (words_from_first words (value_word value) v.printed (length-value_word value), record { short = v.short; bytes = v.bytes })

pub named_first : {A : Type 0} (word_of : A → List ℕ) (values : List A) (words : List (List ℕ)) (value : A) → ((value : A) → 0 < length (word_of value)) → value_named word_of values (first_word words) ≡ Ok value
    → words ≡ word_of value ∷ later_words words
named_first word_of values words value filled e = words_from_first words (word_of value) (named_takes word_of values (first_word words) value e) (filled value)

-- ---- phases

pub phase_filled : (at : Phase) → 0 < length (phase_word at)
phase_filled phase.Read = omega arith
phase_filled phase.Store = omega arith
phase_filled phase.Update = omega arith
phase_filled phase.Fetch = omega arith
phase_filled phase.Watch = omega arith
phase_filled phase.Reread = omega arith
phase_filled phase.Olds = omega arith
phase_filled phase.Drop = omega arith
phase_filled phase.Forget = omega arith

pub phase_again : (at : Phase) → (phase_of (phase_word at) ≡ Ok at) × (is_word (phase_word at) ≡ true)
unfolding value_named
phase_again phase.Read = (refl, refl)
phase_again phase.Store = (refl, refl)
phase_again phase.Update = (refl, refl)
phase_again phase.Fetch = (refl, refl)
phase_again phase.Watch = (refl, refl)
phase_again phase.Reread = (refl, refl)
phase_again phase.Olds = (refl, refl)
phase_again phase.Drop = (refl, refl)
phase_again phase.Forget = (refl, refl)

-- ---- timestamps

pub stamp_takes : (least last : ℕ) (words : List (List ℕ)) (read : Timestamp × List (List ℕ)) → last < 2 ^ 64 → stamp_from least last words ≡ Ok read → Spells stamp_words (IsStampWithin least last) words read
unfolding stamp_from
stamp_takes least last words read fits e =
    let sn = bind_ok (number_of least MAX_SN (first_word words)) _ read e in
    let cid = bind_ok (number_of least last (first_word (later_words words))) (λ cid. Ok (record { sn = sn.0; cid = cid }, later_words (later_words words))) read sn.2 in
    let s = number_first least MAX_SN words sn.0 (omega arith) sn.1 in
    let c = number_first least last (later_words words) cid.0 fits cid.1 in
    subst (Spells stamp_words (IsStampWithin least last) words) (ok_is (record { sn = sn.0; cid = cid.0 }, later_words (later_words words)) read cid.2)
    (record {
      row = s.row ∙ ap (λ (ws : List (List ℕ)). decimal sn.0 ∷ ws) c.row;
      fits = record { number_low = s.low_end; number_high = s.high_end; client_low = c.low_end; client_high = c.high_end };
    })

pub stamp_again : (least last : ℕ) (stamp : Timestamp) (left : List (List ℕ)) → last < 2 ^ 64 → IsStampWithin least last stamp → stamp_from least last (stamp_words stamp ++ left) ≡ Ok (stamp, left)
unfolding stamp_from
stamp_again least last stamp left few fits =
    let number : stamp.sn ≤ MAX_SN = fits.number_high in
    let client : stamp.cid ≤ last = fits.client_high in
    rw (number_again least MAX_SN stamp.sn (omega arith) fits.number_low number, number_again least last stamp.cid (omega arith) fits.client_low client) refl

pub stamp_is_row : (least last : ℕ) (stamp : Timestamp) (rest : List (List ℕ)) → last < 2 ^ 64 → IsStampWithin least last stamp → list_all is_word rest ≡ true → list_all is_word (stamp_words stamp ++ rest) ≡ true
stamp_is_row least last stamp rest few fits more =
    rw (is_word-decimal stamp.sn (omega (arith, fits.number_high)), is_word-decimal stamp.cid (omega (arith, fits.client_high)), more) refl

-- ---- keys of a kind

kept : {A : Type 0} (b : Bool) (x read : A) → cond b (Ok x) (Err BadKey) ≡ Ok read → (b ≡ true) × (x ≡ read)
kept true x read e = (refl, ok_is x read e)
kept false x read e = absurd cc

key_for_first : (by : Verb) (words : List (List ℕ)) (key : List ℕ) → key_for by (first_word words) ≡ Ok key → (words ≡ key ∷ later_words words) × IsTextKey by key
unfolding key_for
key_for_first by words key e =
    let spelled = bind_ok (key_word (first_word words)) (λ spelled. cond (is_key_of by spelled) (Ok spelled) (Err BadKey)) key e in
    let k = key_first words spelled.0 spelled.1 in
    let kind = kept (is_key_of by spelled.0) spelled.0 key spelled.2 in
    subst (λ (x : List ℕ). (words ≡ x ∷ later_words words) × IsTextKey by x) kind.1 (k.0, record { key = k.1; kind = kind.0 })

key_for_again : (by : Verb) (key : List ℕ) → IsTextKey by key → key_for by key ≡ Ok key
unfolding key_for
key_for_again by key fits = let kind : is_key_of by key ≡ true = fits.kind in rw (key_again key fits.key, kind) refl

-- ---- actions

verb_filled : (by : Verb) → 0 < length (verb_word by)
verb_filled verb.Put = omega arith
verb_filled verb.Get = omega arith
verb_filled verb.Delete = omega arith
verb_filled verb.Collect = omega arith
verb_filled verb.Swap = omega arith

swap_takes : (last : ℕ) (key : List ℕ) (words : List (List ℕ)) (read : Action × List (List ℕ)) → last < 2 ^ 64 → IsTextKey verb.Swap key → swap_by last key words ≡ Ok read
    → Spells action_words (IsTextAction last) (verb_word verb.Swap ∷ key ∷ words) read
unfolding swap_by
swap_takes last key words read few is e =
    let expected = bind_ok (stamp_from 0 last words) (λ expected. value_of MAX_TEXT_VALUE (first_word expected.1) >>= λ value. Ok (asked.Swap key expected.0 value, later_words expected.1)) read e in
    let value = bind_ok (value_of MAX_TEXT_VALUE (first_word expected.0.1)) (λ value. Ok (asked.Swap key expected.0.0 value, later_words expected.0.1)) read expected.2 in
    let s = stamp_takes 0 last words expected.0 few expected.1 in
    let v = value_first expected.0.1 value.0 value.1 in
    subst (Spells action_words (IsTextAction last) (verb_word verb.Swap ∷ key ∷ words)) (ok_is (asked.Swap key expected.0.0 value.0, later_words expected.0.1) read value.2)
    (record { row = ap (λ (ws : List (List ℕ)). verb_word verb.Swap ∷ key ∷ ws) (s.row ∙ ap (λ (ws : List (List ℕ)). stamp_words expected.0.0 ++ ws) v.0); fits = (is, s.fits, v.1) })

action_by_takes : (last : ℕ) (by : Verb) (key : List ℕ) (words : List (List ℕ)) (read : Action × List (List ℕ)) → last < 2 ^ 64 → IsTextKey by key → action_by last by key words ≡ Ok read
    → Spells action_words (IsTextAction last) (verb_word by ∷ key ∷ words) read
unfolding action_by
action_by_takes last verb.Put key words read few is e =
    let value = bind_ok (value_of MAX_TEXT_VALUE (first_word words)) (λ value. Ok (asked.Put key value, later_words words)) read e in
    let v = value_first words value.0 value.1 in
    subst (Spells action_words (IsTextAction last) (verb_word verb.Put ∷ key ∷ words)) (ok_is (asked.Put key value.0, later_words words) read value.2)
    (record { row = ap (λ (ws : List (List ℕ)). verb_word verb.Put ∷ key ∷ ws) v.0; fits = (is, v.1) })
action_by_takes last verb.Get key words read few is e =
    subst (Spells action_words (IsTextAction last) (verb_word verb.Get ∷ key ∷ words)) (ok_is (asked.Get key, words) read e) (record { row = refl; fits = is })
action_by_takes last verb.Delete key words read few is e =
    subst (Spells action_words (IsTextAction last) (verb_word verb.Delete ∷ key ∷ words)) (ok_is (asked.Delete key, words) read e) (record { row = refl; fits = is })
action_by_takes last verb.Collect key words read few is e =
    subst (Spells action_words (IsTextAction last) (verb_word verb.Collect ∷ key ∷ words)) (ok_is (asked.Collect key, words) read e) (record { row = refl; fits = is })
action_by_takes last verb.Swap key words read few is e = swap_takes last key words read few is e

pub action_takes : (verbs : Verbs) (last : ℕ) (words : List (List ℕ)) (read : Action × List (List ℕ)) → last < 2 ^ 64 → action_from verbs last words ≡ Ok read → Spells action_words (IsTextAction last) words read
unfolding action_from
action_takes verbs last words read few e =
    let by = bind_ok (verb_of verbs (first_word words)) _ read e in
    let key = bind_ok (key_for by.0 (first_word (later_words words))) (λ key. action_by last by.0 key (later_words (later_words words))) read by.2 in
    let v = named_first verb_word (verbs_in verbs) words by.0 verb_filled by.1 in
    let k = key_for_first by.0 (later_words words) key.0 key.1 in
    let spells = action_by_takes last by.0 key.0 (later_words (later_words words)) read few k.1 key.2 in
    record { row = v ∙ ap (λ (ws : List (List ℕ)). verb_word by.0 ∷ ws) k.0 ∙ spells.row; fits = spells.fits }

-- ---- the verb of an action that was read

listed : (verbs : Verbs) (at by : Verb) → verb_of verbs (verb_word at) ≡ Ok by → has_verb verbs at ≡ true
unfolding value_named
listed All at by e = refl
listed WithoutSwaps verb.Put by e = refl
listed WithoutSwaps verb.Get by e = refl
listed WithoutSwaps verb.Delete by e = refl
listed WithoutSwaps verb.Collect by e = refl
listed WithoutSwaps verb.Swap by e = absurd cc
listed OfValues verb.Put by e = refl
listed OfValues verb.Get by e = refl
listed OfValues verb.Delete by e = refl
listed OfValues verb.Collect by e = absurd cc
listed OfValues verb.Swap by e = absurd cc

verb_first : (action : Action) (left : List (List ℕ)) → first_word (action_words action ++ left) ≡ verb_word (action_verb action)
verb_first (asked.Put key value) left = refl
verb_first (asked.Get key) left = refl
verb_first (asked.Delete key) left = refl
verb_first (asked.Collect key) left = refl
verb_first (asked.Swap key expected value) left = refl

pub action_has : (verbs : Verbs) (last : ℕ) (words : List (List ℕ)) (read : Action × List (List ℕ)) → last < 2 ^ 64 → action_from verbs last words ≡ Ok read
    → has_verb verbs (action_verb read.0) ≡ true
unfolding action_from
action_has verbs last words read few e =
    let by = bind_ok (verb_of verbs (first_word words)) _ read e in
    let spells = action_takes verbs last words read few e in
    let first : first_word words ≡ verb_word (action_verb read.0) = ap first_word spells.row ∙ verb_first read.0 read.1 in
    listed verbs (action_verb read.0) by.0 (subst (λ (word : List ℕ). verb_of verbs word ≡ Ok by.0) first by.1)

-- ---- an action is read again

verb_again : (verbs : Verbs) (by : Verb) → has_verb verbs by ≡ true → verb_of verbs (verb_word by) ≡ Ok by
unfolding value_named
verb_again All verb.Put has = refl
verb_again All verb.Get has = refl
verb_again All verb.Delete has = refl
verb_again All verb.Collect has = refl
verb_again All verb.Swap has = refl
verb_again WithoutSwaps verb.Put has = refl
verb_again WithoutSwaps verb.Get has = refl
verb_again WithoutSwaps verb.Delete has = refl
verb_again WithoutSwaps verb.Collect has = refl
verb_again WithoutSwaps verb.Swap has = absurd cc
verb_again OfValues verb.Put has = refl
verb_again OfValues verb.Get has = refl
verb_again OfValues verb.Delete has = refl
verb_again OfValues verb.Collect has = absurd cc
verb_again OfValues verb.Swap has = absurd cc

swap_again : (last : ℕ) (key : List ℕ) (expected : Timestamp) (value : List ℕ) (left : List (List ℕ)) → last < 2 ^ 64 → IsStampWithin 0 last expected → IsTextValue value
    → swap_by last key (stamp_words expected ++ (value_word value ∷ left)) ≡ Ok (asked.Swap key expected value, left)
unfolding swap_by
swap_again last key expected value left few stamp fits =
    rw (stamp_again 0 last expected (value_word value ∷ left) few stamp, value_again MAX_TEXT_VALUE value fits.bytes fits.short) refl

pub action_again : (verbs : Verbs) (last : ℕ) (action : Action) (left : List (List ℕ)) → last < 2 ^ 64 → has_verb verbs (action_verb action) ≡ true → IsTextAction last action
    → action_from verbs last (action_words action ++ left) ≡ Ok (action, left)
unfolding action_from action_by
action_again verbs last (asked.Put key value) left few has fits =
    rw (verb_again verbs verb.Put has, key_for_again verb.Put key fits.0, value_again MAX_TEXT_VALUE value fits.1.bytes fits.1.short) refl
action_again verbs last (asked.Get key) left few has fits = rw (verb_again verbs verb.Get has, key_for_again verb.Get key fits) refl
action_again verbs last (asked.Delete key) left few has fits = rw (verb_again verbs verb.Delete has, key_for_again verb.Delete key fits) refl
action_again verbs last (asked.Collect key) left few has fits = rw (verb_again verbs verb.Collect has, key_for_again verb.Collect key fits) refl
action_again verbs last (asked.Swap key expected value) left few has fits =
    rw (verb_again verbs verb.Swap has, key_for_again verb.Swap key fits.0) (swap_again last key expected value left few fits.1 fits.2)

pub action_is_row : (last : ℕ) (action : Action) (rest : List (List ℕ)) → last < 2 ^ 64 → IsTextAction last action → list_all is_word rest ≡ true → list_all is_word (action_words action ++ rest) ≡ true
action_is_row last (asked.Put key value) rest few fits more = rw (is_word-key key fits.0.key, is_word-value_word value, more) refl
action_is_row last (asked.Get key) rest few fits more = rw (is_word-key key fits.key, more) refl
action_is_row last (asked.Delete key) rest few fits more = rw (is_word-key key fits.key, more) refl
action_is_row last (asked.Collect key) rest few fits more = rw (is_word-key key fits.key, more) refl
action_is_row last (asked.Swap key expected value) rest few fits more =
    let row : list_all is_word (value_word value ∷ rest) ≡ true = rw (is_word-value_word value, more) refl in
    rw (is_word-key key fits.0.key) (stamp_is_row 0 last expected (value_word value ∷ rest) few fits.1 row)
