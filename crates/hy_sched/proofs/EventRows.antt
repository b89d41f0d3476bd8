-- The line of an event: what is read is the row of an event in range, and such a row is read again.
use Rattle.std.proofs.Common.{◌≡◌, ℕ, ◌-◌, ◌^◌, ◌<◌, ◌≤◌, Bool, true, false, cond, List, [], ◌∷◌, ◌++◌, Ok, Err, refl, sym, ap, subst, ◌∙◌, arith, inl, inr, append-nil}
use Rattle.std.specs.Fmt.{decimal}
use Rattle.std.specs.Int.{bit_at}
use Rattle.std.specs.List.{list_all}
use Rattle.std.proofs.lemmas.Bool.{cases_lt, eqb-true}
use Rattle.std.proofs.lemmas.Nat.Bits.{bit_at_above}
use Rattle.hy_base.specs.Results.{◌>>=◌}
use Rattle.hy_base.specs.Shape.{cloud_count}
use Rattle.hy_base.specs.declared.fault.Cause.TheVariants.{BadNumber}
use Rattle.hy_base.specs.declared.limits.TheConstants.{MAX_CLOUDS, MAX_COUNT, MAX_F, MAX_K, MAX_SESSIONS}
use Rattle.hy_base.proofs.Results.{bind_ok, ok_is}
use Rattle.hy_record.specs.Stamp.{Timestamp}
use Rattle.hy_record.specs.declared.action.Action.{Action}
use Rattle.hy_record.specs.declared.cloud.CloudSay.{CloudSay}
use Rattle.hy_text.specs.Action.{action_words, action_from}
use Rattle.hy_text.specs.declared.action.Verbs.TheVariants.{All}
use Rattle.hy_text.specs.Line.{first_word, later_words, is_word, is_row}
use Rattle.hy_text.specs.Slot.{number_of, key_word, end_of}
use Rattle.hy_text.specs.Stamp.{stamp_words, stamp_from}
use Rattle.hy_text.specs.Table.{value_named}
use Rattle.hy_text.proofs.Groups.{number_first, key_first, stamp_takes, stamp_again, stamp_is_row, action_takes, action_again, action_is_row}
use Rattle.hy_text.proofs.Keys.{key_again}
use Rattle.hy_text.proofs.Numbers.{number_again}
use Rattle.hy_text.proofs.Printed.{is_word-decimal, is_word-key}
use Rattle.hy_text.proofs.Slots.{end_takes}
use Rattle.hy_text.proofs.Tables.{named_takes}
use Rattle.hy_sched.specs.declared.event.Event.{Event}
use Rattle.hy_sched.specs.declared.event.Event.TheVariants as events
use Rattle.hy_sched.specs.declared.event_kind.EventKind.{EventKind}
use Rattle.hy_sched.specs.declared.event_kind.EventKind.TheVariants.{Open, Do, Invoke, Give, Lie, Tick, Stop}
use Rattle.hy_sched.specs.declared.params.Params.{Params}
use Rattle.hy_sched.specs.Params.{is_liar, IsParams}
use Rattle.hy_sched.specs.Ranges.{IsTextRequest, IsTextClient, IsTextLie, IsTextEvent}
use Rattle.hy_sched.specs.Reading.{event_kinds, liar_of, number_of_words, request_of_words, lie_of_words, event_by, event_of}
use Rattle.hy_sched.specs.Say.{say_words, say_from}
use Rattle.hy_sched.specs.Text.{event_word, event_kind, event_words, event_row}
use Rattle.hy_sched.proofs.SayRows.{say_takes, say_again, say_is_row}

-- ---- what is read is a row

-- the words are those of the event after its first, and the event is in range
pub record SpellsEvent (params : Params) (words : List (List ℕ)) (event : Event) : Type 0 where
  pub row : words ≡ event_row event
  pub fits : IsTextEvent params event

-- the words are the printed form of a number in its range
record IsNumberAlone (low high : ℕ) (words : List (List ℕ)) (number : ℕ) : Type 0 where
  row : words ≡ decimal number ∷ []
  range : (low ≤ number) × (number ≤ high)

number_takes_all : (low high : ℕ) (words : List (List ℕ)) (number : ℕ) → high < 2 ^ 64 → number_of_words low high words ≡ Ok number → IsNumberAlone low high words number
unfolding number_of_words
number_takes_all low high words number fits e =
    let first = bind_ok (number_of low high (first_word words)) (λ number. end_of (later_words words) >>= λ _. Ok number) number e in
    let end = bind_ok (end_of (later_words words)) (λ _. Ok first.0) number first.2 in
    let n = number_first low high words first.0 fits first.1 in
    subst (IsNumberAlone low high words) (ok_is first.0 number end.2)
    (record { row = n.row ∙ ap (λ (ws : List (List ℕ)). decimal first.0 ∷ ws) (end_takes (later_words words) end.0 end.1); range = (n.low_end, n.high_end) })

-- the words are those of a client and of what it is asked for, in range
record IsRequest (words : List (List ℕ)) (read : ℕ × Action) : Type 0 where
  row : words ≡ decimal read.0 ∷ action_words read.1
  fits : IsTextClient read.0 × IsTextRequest read.1

request_takes : (words : List (List ℕ)) (read : ℕ × Action) → request_of_words words ≡ Ok read → IsRequest words read
unfolding request_of_words
request_takes words read e =
    let client = bind_ok (number_of 1 MAX_SESSIONS (first_word words)) _ read e in
    let action = bind_ok (action_from All MAX_SESSIONS (later_words words)) (λ action. end_of action.1 >>= λ _. Ok (client.0, action.0)) read client.2 in
    let end = bind_ok (end_of action.0.1) (λ _. Ok (client.0, action.0.0)) read action.2 in
    let n = number_first 1 MAX_SESSIONS words client.0 (omega arith) client.1 in
    let a = action_takes All MAX_SESSIONS (later_words words) action.0 (omega arith) action.1 in
    let rest : later_words words ≡ action_words action.0.0 = a.row ∙ ap (λ (ws : List (List ℕ)). action_words action.0.0 ++ ws) (end_takes action.0.1 end.0 end.1) ∙ append-nil (action_words action.0.0) in
    subst (IsRequest words) (ok_is (client.0, action.0.0) read end.2)
    (record { row = n.row ∙ ap (λ (ws : List (List ℕ)). decimal client.0 ∷ ws) rest; fits = ((n.low_end, n.high_end), a.fits) })

allowed : (liar : Bool) (cloud read : ℕ) → cond liar (Ok cloud) (Err BadNumber) ≡ Ok read → (liar ≡ true) × (cloud ≡ read)
allowed true cloud read e = (refl, ok_is cloud read e)
allowed false cloud read e = absurd cc

-- the first word is the printed form of a Byzantine cloud
liar_first : (params : Params) (words : List (List ℕ)) (cloud : ℕ) → liar_of params (first_word words) ≡ Ok cloud → (words ≡ decimal cloud ∷ later_words words) × (is_liar params cloud ≡ true)
unfolding liar_of
liar_first params words cloud e =
    let number = bind_ok (number_of 0 (MAX_CLOUDS - 1) (first_word words)) (λ number. cond (is_liar params number) (Ok number) (Err BadNumber)) cloud e in
    let n = number_first 0 (MAX_CLOUDS - 1) words number.0 (omega arith) number.1 in
    let one = allowed (is_liar params number.0) number.0 cloud number.2 in
    subst (λ (c : ℕ). (words ≡ decimal c ∷ later_words words) × (is_liar params c ≡ true)) one.1 (n.row, one.0)

-- words in front of those that are left, joined
named_object : (key : List ℕ) (words later left version answer : List (List ℕ)) → words ≡ key ∷ later → later ≡ version ++ left → left ≡ answer → words ≡ key ∷ (version ++ answer)
named_object key words later left version answer e1 e2 e3 = cc

after_four : (first a b c : List ℕ) (words second third fourth rest : List (List ℕ)) → words ≡ a ∷ second → second ≡ b ∷ third → third ≡ c ∷ fourth → fourth ≡ rest → first ∷ words ≡ first ∷ a ∷ b ∷ c ∷ rest
after_four first a b c words second third fourth rest e1 e2 e3 e4 = cc

lie_takes : (params : Params) (words : List (List ℕ)) (event : Event) → lie_of_words params words ≡ Ok event → SpellsEvent params (event_word Lie ∷ words) event
unfolding lie_of_words
lie_takes params words event e =
    let second : List (List ℕ) = later_words words in
    let third : List (List ℕ) = later_words second in
    let fourth : List (List ℕ) = later_words third in
    let fifth : List (List ℕ) = later_words fourth in
    let cloud = bind_ok (liar_of params (first_word words)) _ event e in
    let client = bind_ok (number_of 1 MAX_SESSIONS (first_word second)) _ event cloud.2 in
    let op = bind_ok (number_of 1 MAX_COUNT (first_word third)) _ event client.2 in
    let key = bind_ok (key_word (first_word fourth)) _ event op.2 in
    let stamp = bind_ok (stamp_from 1 MAX_SESSIONS fifth) _ event key.2 in
    let say = bind_ok (say_from stamp.0.1) (λ say. end_of say.1 >>= λ _. Ok (events.Lie cloud.0 client.0 op.0 key.0 stamp.0.0 say.0)) event stamp.2 in
    let end = bind_ok (end_of say.0.1) (λ _. Ok (events.Lie cloud.0 client.0 op.0 key.0 stamp.0.0 say.0.0)) event say.2 in
    let l = liar_first params words cloud.0 cloud.1 in
    let c = number_first 1 MAX_SESSIONS second client.0 (omega arith) client.1 in
    let o = number_first 1 MAX_COUNT third op.0 (omega arith) op.1 in
    let k = key_first fourth key.0 key.1 in
    let t = stamp_takes 1 MAX_SESSIONS fifth stamp.0 (omega arith) stamp.1 in
    let s = say_takes stamp.0.1 say.0 say.1 in
    let last : stamp.0.1 ≡ say_words say.0.0 = s.row ∙ ap (λ (ws : List (List ℕ)). say_words say.0.0 ++ ws) (end_takes say.0.1 end.0 end.1) ∙ append-nil (say_words say.0.0) in
    let object : fourth ≡ key.0 ∷ (stamp_words stamp.0.0 ++ say_words say.0.0) = named_object key.0 fourth fifth stamp.0.1 (stamp_words stamp.0.0) (say_words say.0.0) k.0 t.row last in
    let row : event_word Lie ∷ words ≡ event_row (events.Lie cloud.0 client.0 op.0 key.0 stamp.0.0 say.0.0) =
    after_four (event_word Lie) (decimal cloud.0) (decimal client.0) (decimal op.0) words second third fourth (key.0 ∷ (stamp_words stamp.0.0 ++ say_words say.0.0)) l.0 c.row o.row object in
    subst (SpellsEvent params (event_word Lie ∷ words)) (ok_is (events.Lie cloud.0 client.0 op.0 key.0 stamp.0.0 say.0.0) event end.2)
    (record {
      row = row;
      fits = record {
        liar = l.1;
        addressee = (c.low_end, c.high_end);
        number = (o.low_end, o.high_end);
        object = k.1;
        version = t.fits;
        answer = s.fits;
      };
    })

-- the event, whose words these are, is what was read
spelled : (params : Params) (kind : EventKind) (words : List (List ℕ)) (made event : Event) → event_word kind ∷ words ≡ event_row made → IsTextEvent params made → made ≡ event → SpellsEvent params (event_word kind ∷ words) event
spelled params kind words made event row fits is = subst (SpellsEvent params (event_word kind ∷ words)) is (record { row = row; fits = fits })

event_by_takes : (params : Params) (kind : EventKind) (words : List (List ℕ)) (event : Event) → event_by params kind words ≡ Ok event → SpellsEvent params (event_word kind ∷ words) event
unfolding event_by
event_by_takes params Open words event e =
    let end = bind_ok (end_of words) (λ _. Ok events.Join) event e in
    spelled params Open words events.Join event (ap (λ (ws : List (List ℕ)). event_word Open ∷ ws) (end_takes words end.0 end.1)) tt (ok_is events.Join event end.2)
event_by_takes params Do words event e =
    let asked = bind_ok (request_of_words words) (λ asked. Ok (events.Do asked.0 asked.1)) event e in
    let r = request_takes words asked.0 asked.1 in
    spelled params Do words (events.Do asked.0.0 asked.0.1) event (ap (λ (ws : List (List ℕ)). event_word Do ∷ ws) r.row) r.fits (ok_is (events.Do asked.0.0 asked.0.1) event asked.2)
event_by_takes params Invoke words event e =
    let asked = bind_ok (request_of_words words) (λ asked. Ok (events.Invoke asked.0 asked.1)) event e in
    let r = request_takes words asked.0 asked.1 in
    spelled params Invoke words (events.Invoke asked.0.0 asked.0.1) event (ap (λ (ws : List (List ℕ)). event_word Invoke ∷ ws) r.row) r.fits (ok_is (events.Invoke asked.0.0 asked.0.1) event asked.2)
event_by_takes params Give words event e =
    let number = bind_ok (number_of_words 1 MAX_COUNT words) (λ number. Ok (events.Give number)) event e in
    let n = number_takes_all 1 MAX_COUNT words number.0 (omega arith) number.1 in
    spelled params Give words (events.Give number.0) event (ap (λ (ws : List (List ℕ)). event_word Give ∷ ws) n.row) n.range (ok_is (events.Give number.0) event number.2)
event_by_takes params Lie words event e = lie_takes params words event e
event_by_takes params Tick words event e =
    let client = bind_ok (number_of_words 1 MAX_SESSIONS words) (λ client. Ok (events.Tick client)) event e in
    let n = number_takes_all 1 MAX_SESSIONS words client.0 (omega arith) client.1 in
    spelled params Tick words (events.Tick client.0) event (ap (λ (ws : List (List ℕ)). event_word Tick ∷ ws) n.row) n.range (ok_is (events.Tick client.0) event client.2)
event_by_takes params Stop words event e =
    let client = bind_ok (number_of_words 1 MAX_SESSIONS words) (λ client. Ok (events.Stop client)) event e in
    let n = number_takes_all 1 MAX_SESSIONS words client.0 (omega arith) client.1 in
    spelled params Stop words (events.Stop client.0) event (ap (λ (ws : List (List ℕ)). event_word Stop ∷ ws) n.row) n.range (ok_is (events.Stop client.0) event client.2)

pub event_takes : (params : Params) (word : List ℕ) (words : List (List ℕ)) (event : Event) → event_of params word words ≡ Ok event → SpellsEvent params (word ∷ words) event
unfolding event_of
event_takes params word words event e =
    let kind = bind_ok (value_named event_word event_kinds word) (λ kind. event_by params kind words) event e in
    let is : word ≡ event_word kind.0 = named_takes event_word event_kinds word kind.0 kind.1 in
    subst (λ (w : List ℕ). SpellsEvent params (w ∷ words) event) (sym is) (event_by_takes params kind.0 words event kind.2)

-- ---- such a row is read again

-- a Byzantine cloud is a cloud of the store
liar_within : (params : Params) (cloud : ℕ) → IsParams params → is_liar params cloud ≡ true → cloud < cloud_count params.f params.k
liar_within params cloud fits liar =
    elim (cases_lt cloud (cloud_count params.f params.k)) [
      | inl inside ↦ inside
      | inr beyond ↦
          let none : bit_at params.liars cloud ≡ 0 = bit_at_above params.liars (cloud_count params.f params.k) cloud fits.liars beyond in
          let there : bit_at params.liars cloud ≡ 1 = eqb-true (bit_at params.liars cloud) 1 liar in
          absurd (omega (arith, none, there))
    ]

liar_again : (params : Params) (cloud : ℕ) → IsParams params → is_liar params cloud ≡ true → liar_of params (decimal cloud) ≡ Ok cloud
unfolding liar_of
liar_again params cloud fits liar =
    let within = liar_within params cloud fits liar in
    let few_f : params.f ≤ MAX_F = fits.shape.faults in
    let few_k : params.k ≤ MAX_K = fits.shape.parts in
    let none : 0 ≤ cloud = omega arith in
    let few : cloud ≤ MAX_CLOUDS - 1 = omega arith in
    rw (number_again 0 (MAX_CLOUDS - 1) cloud (omega arith) none few, liar) refl

number_again_all : (low high number : ℕ) → high < 2 ^ 64 → (low ≤ number) × (number ≤ high) → number_of_words low high (decimal number ∷ []) ≡ Ok number
unfolding number_of_words
number_again_all low high number fits range = rw (number_again low high number (omega (arith, range.1)) range.0 range.1) refl

request_again : (client : ℕ) (action : Action) → IsTextClient client × IsTextRequest action → request_of_words (decimal client ∷ action_words action) ≡ Ok (client, action)
unfolding request_of_words
request_again client action fits =
    let action_is : action_from All MAX_SESSIONS (action_words action) ≡ Ok (action, []) = ap (action_from All MAX_SESSIONS) (sym (append-nil (action_words action))) ∙ action_again All MAX_SESSIONS action [] (omega arith) refl fits.1 in
    rw (number_again 1 MAX_SESSIONS client (omega (arith, fits.0.1)) fits.0.0 fits.0.1, action_is) refl

lie_again : (params : Params) (cloud client op : ℕ) (key : List ℕ) (stamp : Timestamp) (say : CloudSay) → IsParams params → IsTextLie params cloud client op key stamp say
    → lie_of_words params (event_words (events.Lie cloud client op key stamp say)) ≡ Ok (events.Lie cloud client op key stamp say)
unfolding lie_of_words
lie_again params cloud client op key stamp say fits is =
    let say_is : say_from (say_words say) ≡ Ok (say, []) = ap say_from (sym (append-nil (say_words say))) ∙ say_again say [] is.answer in
    let c = number_again 1 MAX_SESSIONS client (omega (arith, is.addressee.1)) is.addressee.0 is.addressee.1 in
    let o = number_again 1 MAX_COUNT op (omega (arith, is.number.1)) is.number.0 is.number.1 in
    let t = stamp_again 1 MAX_SESSIONS stamp (say_words say) (omega arith) is.version in
    rw (liar_again params cloud fits is.liar, c, o, key_again key is.object, t, say_is) refl

pub event_again : (params : Params) (event : Event) → IsParams params → IsTextEvent params event → event_of params (event_word (event_kind event)) (event_words event) ≡ Ok event
unfolding event_of event_by value_named
event_again params events.Join fits is = refl
event_again params (events.Do client action) fits is = rw (request_again client action is) refl
event_again params (events.Invoke client action) fits is = rw (request_again client action is) refl
event_again params (events.Give number) fits is = rw (number_again_all 1 MAX_COUNT number (omega arith) is) refl
event_again params (events.Lie cloud client op key stamp say) fits is = lie_again params cloud client op key stamp say fits is
event_again params (events.Tick client) fits is = rw (number_again_all 1 MAX_SESSIONS client (omega arith) is) refl
event_again params (events.Stop client) fits is = rw (number_again_all 1 MAX_SESSIONS client (omega arith) is) refl

-- ---- the line is a row

words_of_request : (client : ℕ) (action : Action) → IsTextClient client × IsTextRequest action → list_all is_word (decimal client ∷ action_words action) ≡ true
words_of_request client action fits =
    let action_is : list_all is_word (action_words action) ≡ true = ap (list_all is_word) (sym (append-nil (action_words action))) ∙ action_is_row MAX_SESSIONS action [] (omega arith) fits.1 refl in
    rw (is_word-decimal client (omega (arith, fits.0.1)), action_is) refl

words_of_lie : (params : Params) (cloud client op : ℕ) (key : List ℕ) (stamp : Timestamp) (say : CloudSay) → IsParams params → IsTextLie params cloud client op key stamp say
    → list_all is_word (event_words (events.Lie cloud client op key stamp say)) ≡ true
words_of_lie params cloud client op key stamp say fits is =
    let within = liar_within params cloud fits is.liar in
    let few_f : params.f ≤ MAX_F = fits.shape.faults in
    let few_k : params.k ≤ MAX_K = fits.shape.parts in
    let rest = stamp_is_row 1 MAX_SESSIONS stamp (say_words say) (omega arith) is.version (say_is_row say) in
    rw (is_word-decimal cloud (omega arith), is_word-decimal client (omega (arith, is.addressee.1)), is_word-decimal op (omega (arith, is.number.1)), is_word-key key is.object, rest) refl

pub event_is_row : (params : Params) (event : Event) → IsParams params → IsTextEvent params event → is_row (event_row event) ≡ true
event_is_row params events.Join fits is = refl
event_is_row params (events.Do client action) fits is = words_of_request client action is
event_is_row params (events.Invoke client action) fits is = words_of_request client action is
event_is_row params (events.Give number) fits is = rw (is_word-decimal number (omega (arith, is.1))) refl
event_is_row params (events.Lie cloud client op key stamp say) fits is = words_of_lie params cloud client op key stamp say fits is
event_is_row params (events.Tick client) fits is = rw (is_word-decimal client (omega (arith, is.1))) refl
event_is_row params (events.Stop client) fits is = rw (is_word-decimal client (omega (arith, is.1))) refl
