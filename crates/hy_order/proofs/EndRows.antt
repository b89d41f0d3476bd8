-- The end of an operation: what is read is the row of an end that the action can have, in range.
use Rattle.std.proofs.Common.{◌≡◌, ℕ, ◌+◌, ◌^◌, ◌<◌, ◌≤◌, Bool, true, false, cond, List, [], ◌∷◌, ◌++◌, Ok, Err, refl, sym, ap, subst, ◌∙◌, arith, inl, inr}
use Rattle.std.specs.Prelude.{codes}
use Rattle.std.specs.Fmt.{decimal}
use Rattle.std.specs.Str.{bytes_eq}
use Rattle.std.proofs.lemmas.Slice.Eq.{bytes_eq-Decides}
use Rattle.hy_base.specs.declared.fault.Cause.TheVariants.{BadWord}
use Rattle.hy_base.specs.declared.limits.TheConstants.{MAX_COUNT, MAX_TEXT_VALUE}
use Rattle.hy_record.specs.Stamp.{Timestamp}
use Rattle.hy_record.specs.declared.action.Action.{Action}
use Rattle.hy_record.specs.declared.action.Action.TheVariants as asked
use Rattle.hy_record.specs.declared.action.Reply.{Reply}
use Rattle.hy_record.specs.declared.action.Reply.TheVariants as told
use Rattle.hy_record.specs.declared.action.Phase.{Phase}
use Rattle.hy_text.specs.Line.{first_word, later_words}
use Rattle.hy_base.specs.Results.{◌>>=◌}
use Rattle.hy_text.specs.Slot.{number_of, value_of, value_word}
use Rattle.hy_base.proofs.Results.{bind_ok, ok_is}
use Rattle.hy_text.proofs.Slots.{words_from_first, chosen, keyword_first}
use Rattle.hy_order.specs.declared.operation.End.{End}
use Rattle.hy_order.specs.declared.operation.End.TheVariants.{Replied, Pending}
use Rattle.hy_order.specs.declared.report.TheConstants.{LAST_STEP}
use Rattle.hy_order.specs.History.{is_reply_of, is_phase_of, is_end_of}
use Rattle.hy_text.specs.Action.{IsTextValue}
use Rattle.hy_text.specs.Phase.{phase_word, phases, phase_of}
use Rattle.hy_text.specs.Stamp.{stamp_words}
use Rattle.hy_order.specs.Report.{reply_words, end_words}
use Rattle.hy_order.specs.ReportRanges.{IsTextStamp, IsTextReply, IsTextEnd}
use Rattle.hy_order.specs.WordReaders.{any_stamp_from, write_reply_from, swap_reply_from, value_from, get_reply_from, collect_reply_from, reply_from, phase_word_of, pending_from, replied_from, end_from}
use Rattle.hy_text.proofs.Groups.{Spells, number_first, value_first, phase_filled, phase_again, stamp_takes, stamp_again}
use Rattle.hy_text.proofs.Tables.{named_takes}
use Rattle.hy_text.proofs.Numbers.{number_again}
use Rattle.hy_text.proofs.Values.{value_again}
use Rattle.std.specs.Str.Parse.{AllDigits}
use Rattle.std.proofs.lemmas.Fmt.{decimal_is_IsNumeral}

-- a reply in range that the action can have
pub record IsReplyOf (action : Action) (reply : Reply) : Type 0 where
  pub range : IsTextReply reply
  pub can : is_reply_of action reply ≡ true

-- the words of a reply that is a timestamp after its keyword
stamped_takes : (action : Action) (told_as : Timestamp → Reply) (word : List ℕ) (words : List (List ℕ)) (read : Reply × List (List ℕ))
    → ((stamp : Timestamp) → reply_words (told_as stamp) ≡ word ∷ stamp_words stamp) → ((stamp : Timestamp) → IsTextStamp stamp → IsReplyOf action (told_as stamp))
    → (any_stamp_from words >>= λ stamp. Ok (told_as stamp.0, stamp.1)) ≡ Ok read → Spells reply_words (IsReplyOf action) (word ∷ words) read
stamped_takes action told_as word words read row fits e =
    let stamp = bind_ok (any_stamp_from words) (λ stamp. Ok (told_as stamp.0, stamp.1)) read e in
    let s = stamp_takes 0 MAX_COUNT words stamp.0 (omega arith) stamp.1 in
    subst (Spells reply_words (IsReplyOf action) (word ∷ words)) (ok_is (told_as stamp.0.0, stamp.0.1) read stamp.2)
    (record {
      row = ap (λ (ws : List (List ℕ)). word ∷ ws) s.row ∙ ap (λ (ws : List (List ℕ)). ws ++ stamp.0.1) (sym (row stamp.0.0));
      fits = fits stamp.0.0 s.fits;
    })

write_takes : (action : Action) (words : List (List ℕ)) (read : Reply × List (List ℕ))
    → ((stamp : Timestamp) → is_reply_of action (told.Done stamp) ≡ true) → ((stamp : Timestamp) → is_reply_of action (told.Exhausted stamp) ≡ true)
    → write_reply_from words ≡ Ok read → Spells reply_words (IsReplyOf action) words read
unfolding write_reply_from
write_takes action words read done exhausted e =
    let P : List (List ℕ) → Type 0 = λ ws. Spells reply_words (IsReplyOf action) ws read in
    elim (chosen (bytes_eq (first_word words) (codes "done")) (any_stamp_from (later_words words) >>= λ stamp. Ok (told.Done stamp.0, stamp.1)) _ read e) [
      | inl yes_done ↦ subst P (sym (keyword_first words (codes "done") yes_done.0 (omega arith)))
          (stamped_takes action told.Done (codes "done") (later_words words) read (λ stamp. refl) (λ stamp fits. record { range = fits; can = done stamp }) yes_done.1)
      | inr other ↦ elim (chosen (bytes_eq (first_word words) (codes "exhausted")) (any_stamp_from (later_words words) >>= λ stamp. Ok (told.Exhausted stamp.0, stamp.1)) (Err BadWord) read other) [
        | inl yes_exhausted ↦ subst P (sym (keyword_first words (codes "exhausted") yes_exhausted.0 (omega arith)))
            (stamped_takes action told.Exhausted (codes "exhausted") (later_words words) read (λ stamp. refl) (λ stamp fits. record { range = fits; can = exhausted stamp }) yes_exhausted.1)
        | inr bad ↦ absurd cc
      ]
    ]

value_takes : (key : List ℕ) (words : List (List ℕ)) (read : Reply × List (List ℕ)) → value_from words ≡ Ok read → Spells reply_words (IsReplyOf (asked.Get key)) (codes "value" ∷ words) read
unfolding value_from
value_takes key words read e =
    let value = bind_ok (value_of MAX_TEXT_VALUE (first_word words)) _ read e in
    let stamp = bind_ok (any_stamp_from (later_words words)) (λ stamp. Ok (told.Value value.0 stamp.0, stamp.1)) read value.2 in
    let v = value_first words value.0 value.1 in
    let s = stamp_takes 0 MAX_COUNT (later_words words) stamp.0 (omega arith) stamp.1 in
    subst (Spells reply_words (IsReplyOf (asked.Get key)) (codes "value" ∷ words)) (ok_is (told.Value value.0 stamp.0.0, stamp.0.1) read stamp.2)
    (record {
      row = ap (λ (ws : List (List ℕ)). codes "value" ∷ ws) (v.0 ∙ ap (λ (ws : List (List ℕ)). value_word value.0 ∷ ws) s.row);
      fits = record { range = (v.1, s.fits); can = refl };
    })

get_takes : (key : List ℕ) (words : List (List ℕ)) (read : Reply × List (List ℕ)) → get_reply_from words ≡ Ok read → Spells reply_words (IsReplyOf (asked.Get key)) words read
unfolding get_reply_from
get_takes key words read e =
    let P : List (List ℕ) → Type 0 = λ ws. Spells reply_words (IsReplyOf (asked.Get key)) ws read in
    elim (chosen (bytes_eq (first_word words) (codes "value")) (value_from (later_words words)) _ read e) [
      | inl found ↦ subst P (sym (keyword_first words (codes "value") found.0 (omega arith))) (value_takes key (later_words words) read found.1)
      | inr other ↦ elim (chosen (bytes_eq (first_word words) (codes "none")) (any_stamp_from (later_words words) >>= λ stamp. Ok (told.Absent stamp.0, stamp.1)) (Err BadWord) read other) [
        | inl absent ↦ subst P (sym (keyword_first words (codes "none") absent.0 (omega arith)))
            (stamped_takes (asked.Get key) told.Absent (codes "none") (later_words words) read (λ stamp. refl) (λ stamp fits. record { range = fits; can = refl }) absent.1)
        | inr bad ↦ absurd cc
      ]
    ]

collect_takes : (key : List ℕ) (words : List (List ℕ)) (read : Reply × List (List ℕ)) → collect_reply_from words ≡ Ok read → Spells reply_words (IsReplyOf (asked.Collect key)) words read
unfolding collect_reply_from
collect_takes key words read e =
    let P : List (List ℕ) → Type 0 = λ ws. Spells reply_words (IsReplyOf (asked.Collect key)) ws read in
    let later : List (List ℕ) = later_words words in
    elim (chosen (bytes_eq (first_word words) (codes "collected")) (number_of 0 MAX_COUNT (first_word later) >>= λ count. Ok (told.Collected count, later_words later)) (Err BadWord) read e) [
      | inl collected ↦
          let count = bind_ok (number_of 0 MAX_COUNT (first_word later)) (λ count. Ok (told.Collected count, later_words later)) read collected.1 in
          let n = number_first 0 MAX_COUNT later count.0 (omega arith) count.1 in
          subst P (sym (keyword_first words (codes "collected") collected.0 (omega arith)))
          (subst (Spells reply_words (IsReplyOf (asked.Collect key)) (codes "collected" ∷ later)) (ok_is (told.Collected count.0, later_words later) read count.2)
          (record { row = ap (λ (ws : List (List ℕ)). codes "collected" ∷ ws) n.row; fits = record { range = n.high_end; can = refl } }))
      | inr bad ↦ absurd cc
    ]

swap_takes : (key : List ℕ) (expected : Timestamp) (value : List ℕ) (words : List (List ℕ)) (read : Reply × List (List ℕ)) → swap_reply_from words ≡ Ok read
    → Spells reply_words (IsReplyOf (asked.Swap key expected value)) words read
unfolding swap_reply_from
swap_takes key expected value words read e =
    let action : Action = asked.Swap key expected value in
    let P : List (List ℕ) → Type 0 = λ ws. Spells reply_words (IsReplyOf action) ws read in
    elim (chosen (bytes_eq (first_word words) (codes "swapped")) (any_stamp_from (later_words words) >>= λ stamp. Ok (told.Swapped stamp.0, stamp.1)) _ read e) [
      | inl swapped ↦ subst P (sym (keyword_first words (codes "swapped") swapped.0 (omega arith)))
          (stamped_takes action told.Swapped (codes "swapped") (later_words words) read (λ stamp. refl) (λ stamp fits. record { range = fits; can = refl }) swapped.1)
      | inr second ↦ elim (chosen (bytes_eq (first_word words) (codes "changed")) (any_stamp_from (later_words words) >>= λ stamp. Ok (told.Changed stamp.0, stamp.1)) _ read second) [
        | inl changed ↦ subst P (sym (keyword_first words (codes "changed") changed.0 (omega arith)))
            (stamped_takes action told.Changed (codes "changed") (later_words words) read (λ stamp. refl) (λ stamp fits. record { range = fits; can = refl }) changed.1)
        | inr third ↦ elim (chosen (bytes_eq (first_word words) (codes "exhausted")) (any_stamp_from (later_words words) >>= λ stamp. Ok (told.Exhausted stamp.0, stamp.1)) (Err BadWord) read third) [
          | inl exhausted ↦ subst P (sym (keyword_first words (codes "exhausted") exhausted.0 (omega arith)))
              (stamped_takes action told.Exhausted (codes "exhausted") (later_words words) read (λ stamp. refl) (λ stamp fits. record { range = fits; can = refl }) exhausted.1)
          | inr bad ↦ absurd cc
        ]
      ]
    ]

reply_takes : (action : Action) (words : List (List ℕ)) (read : Reply × List (List ℕ)) → reply_from action words ≡ Ok read → Spells reply_words (IsReplyOf action) words read
reply_takes (asked.Put key value) words read e = write_takes (asked.Put key value) words read (λ stamp. refl) (λ stamp. refl) e
reply_takes (asked.Get key) words read e = get_takes key words read e
reply_takes (asked.Delete key) words read e = write_takes (asked.Delete key) words read (λ stamp. refl) (λ stamp. refl) e
reply_takes (asked.Collect key) words read e = collect_takes key words read e
reply_takes (asked.Swap key expected value) words read e = swap_takes key expected value words read e

-- ---- ends

-- an end in range that the action can have
pub record IsEndOf (action : Action) (invoked : ℕ) (end : End) : Type 0 where
  pub range : IsTextEnd invoked end
  pub can : is_end_of action end ≡ true

due_ok : (t : Bool) (at found : Phase) → cond t (Ok at) (Err BadWord) ≡ Ok found → (t ≡ true) × (at ≡ found)
due_ok true at found e = (refl, ok_is at found e)
due_ok false at found e = absurd cc

phase_word_takes : (action : Action) (word : List ℕ) (found : Phase) → phase_word_of action word ≡ Ok found → (word ≡ phase_word found) × (is_phase_of action found ≡ true)
unfolding phase_word_of
phase_word_takes action word found e =
    let at = bind_ok (phase_of word) (λ at. cond (is_phase_of action at) (Ok at) (Err BadWord)) found e in
    let due = due_ok (is_phase_of action at.0) at.0 found at.2 in
    (named_takes phase_word phases word at.0 at.1 ∙ ap phase_word due.1, ap (is_phase_of action) (sym due.1) ∙ due.0)

pending_takes : (action : Action) (invoked : ℕ) (words : List (List ℕ)) (read : End × List (List ℕ)) → pending_from action words ≡ Ok read → Spells end_words (IsEndOf action invoked) (codes "-" ∷ words) read
unfolding pending_from
pending_takes action invoked words read e =
    let second : List (List ℕ) = later_words words in
    let third : List (List ℕ) = later_words second in
    let at = bind_ok (phase_word_of action (first_word words)) _ read e in
    let have = bind_ok (number_of 0 MAX_COUNT (first_word second)) _ read at.2 in
    let need = bind_ok (number_of 0 MAX_COUNT (first_word third)) (λ need. Ok (Pending at.0 have.0 need, later_words third)) read have.2 in
    let p = phase_word_takes action (first_word words) at.0 at.1 in
    let h = number_first 0 MAX_COUNT second have.0 (omega arith) have.1 in
    let n = number_first 0 MAX_COUNT third need.0 (omega arith) need.1 in
    let row : words ≡ phase_word at.0 ∷ decimal have.0 ∷ decimal need.0 ∷ later_words third =
    words_from_first words (phase_word at.0) p.0 (phase_filled at.0) ∙ ap (λ (ws : List (List ℕ)). phase_word at.0 ∷ ws) (h.row ∙ ap (λ (ws : List (List ℕ)). decimal have.0 ∷ ws) n.row) in
    subst (Spells end_words (IsEndOf action invoked) (codes "-" ∷ words)) (ok_is (Pending at.0 have.0 need.0, later_words third) read need.2)
    (record { row = ap (λ (ws : List (List ℕ)). codes "-" ∷ ws) row; fits = record { range = (h.high_end, n.high_end); can = p.1 } })

replied_takes : (action : Action) (invoked : ℕ) (words : List (List ℕ)) (read : End × List (List ℕ)) → replied_from action invoked (first_word words) (later_words words) ≡ Ok read → Spells end_words (IsEndOf action invoked) words read
unfolding replied_from
replied_takes action invoked words read e =
    let at = bind_ok (number_of (invoked + 1) LAST_STEP (first_word words)) _ read e in
    let reply = bind_ok (reply_from action (later_words words)) (λ reply. Ok (Replied at.0 reply.0, reply.1)) read at.2 in
    let n = number_first (invoked + 1) LAST_STEP words at.0 (omega arith) at.1 in
    let r = reply_takes action (later_words words) reply.0 reply.1 in
    subst (Spells end_words (IsEndOf action invoked) words) (ok_is (Replied at.0 reply.0.0, reply.0.1) read reply.2)
    (record {
      row = n.row ∙ ap (λ (ws : List (List ℕ)). decimal at.0 ∷ ws) r.row;
      fits = record { range = (omega (arith, n.low_end), n.high_end, r.fits.range); can = r.fits.can };
    })

pub end_takes : (action : Action) (invoked : ℕ) (words : List (List ℕ)) (read : End × List (List ℕ)) → end_from action invoked words ≡ Ok read → Spells end_words (IsEndOf action invoked) words read
unfolding end_from
end_takes action invoked words read e =
    let P : List (List ℕ) → Type 0 = λ ws. Spells end_words (IsEndOf action invoked) ws read in
    elim (chosen (bytes_eq (first_word words) (codes "-")) (pending_from action (later_words words)) (replied_from action invoked (first_word words) (later_words words)) read e) [
      | inl pending ↦ subst P (sym (keyword_first words (codes "-") pending.0 (omega arith))) (pending_takes action invoked (later_words words) read pending.1)
      | inr replied ↦ replied_takes action invoked words read replied
    ]

-- ---- an end is read again

value_again_of : (value : List ℕ) → IsTextValue value → value_of MAX_TEXT_VALUE (value_word value) ≡ Ok value
value_again_of value fits = value_again MAX_TEXT_VALUE value fits.bytes fits.short

-- the text of a count is read again
count_again : (count : ℕ) → count ≤ MAX_COUNT → number_of 0 MAX_COUNT (decimal count) ≡ Ok count
count_again count high = number_again 0 MAX_COUNT count (omega arith) (omega arith) high

done_again : (stamp : Timestamp) (left : List (List ℕ)) → IsTextStamp stamp → write_reply_from (reply_words (told.Done stamp) ++ left) ≡ Ok (told.Done stamp, left)
unfolding write_reply_from
done_again stamp left fits = rw (stamp_again 0 MAX_COUNT stamp left (omega arith) fits) refl

exhausted_again : (stamp : Timestamp) (left : List (List ℕ)) → IsTextStamp stamp → write_reply_from (reply_words (told.Exhausted stamp) ++ left) ≡ Ok (told.Exhausted stamp, left)
unfolding write_reply_from
exhausted_again stamp left fits = rw (stamp_again 0 MAX_COUNT stamp left (omega arith) fits) refl

swap_again : (key : List ℕ) (expected : Timestamp) (value : List ℕ) (reply : Reply) (left : List (List ℕ)) → IsTextReply reply → is_reply_of (asked.Swap key expected value) reply ≡ true
    → swap_reply_from (reply_words reply ++ left) ≡ Ok (reply, left)
unfolding swap_reply_from
swap_again key expected value (told.Swapped stamp) left fits can = rw (stamp_again 0 MAX_COUNT stamp left (omega arith) fits) refl
swap_again key expected value (told.Changed stamp) left fits can = rw (stamp_again 0 MAX_COUNT stamp left (omega arith) fits) refl
swap_again key expected value (told.Exhausted stamp) left fits can = rw (stamp_again 0 MAX_COUNT stamp left (omega arith) fits) refl
swap_again key expected value (told.Done stamp) left fits can = absurd cc
swap_again key expected value (told.Value bytes stamp) left fits can = absurd cc
swap_again key expected value (told.Absent stamp) left fits can = absurd cc
swap_again key expected value (told.Collected count) left fits can = absurd cc

reply_again : (action : Action) (reply : Reply) (left : List (List ℕ)) → IsTextReply reply → is_reply_of action reply ≡ true → reply_from action (reply_words reply ++ left) ≡ Ok (reply, left)
unfolding get_reply_from value_from collect_reply_from
reply_again (asked.Put key value) (told.Done stamp) left fits can = done_again stamp left fits
reply_again (asked.Put key value) (told.Exhausted stamp) left fits can = exhausted_again stamp left fits
reply_again (asked.Put key value) (told.Value bytes stamp) left fits can = absurd cc
reply_again (asked.Put key value) (told.Absent stamp) left fits can = absurd cc
reply_again (asked.Put key value) (told.Collected count) left fits can = absurd cc
reply_again (asked.Put key value) (told.Swapped stamp) left fits can = absurd cc
reply_again (asked.Put key value) (told.Changed stamp) left fits can = absurd cc
reply_again (asked.Delete key) (told.Done stamp) left fits can = done_again stamp left fits
reply_again (asked.Delete key) (told.Exhausted stamp) left fits can = exhausted_again stamp left fits
reply_again (asked.Delete key) (told.Value bytes stamp) left fits can = absurd cc
reply_again (asked.Delete key) (told.Absent stamp) left fits can = absurd cc
reply_again (asked.Delete key) (told.Collected count) left fits can = absurd cc
reply_again (asked.Delete key) (told.Swapped stamp) left fits can = absurd cc
reply_again (asked.Delete key) (told.Changed stamp) left fits can = absurd cc
reply_again (asked.Get key) (told.Done stamp) left fits can = absurd cc
reply_again (asked.Get key) (told.Exhausted stamp) left fits can = absurd cc
reply_again (asked.Get key) (told.Value bytes stamp) left fits can = rw (value_again_of bytes fits.0, stamp_again 0 MAX_COUNT stamp left (omega arith) fits.1) refl
reply_again (asked.Get key) (told.Absent stamp) left fits can = rw (stamp_again 0 MAX_COUNT stamp left (omega arith) fits) refl
reply_again (asked.Get key) (told.Collected count) left fits can = absurd cc
reply_again (asked.Get key) (told.Swapped stamp) left fits can = absurd cc
reply_again (asked.Get key) (told.Changed stamp) left fits can = absurd cc
reply_again (asked.Collect key) (told.Done stamp) left fits can = absurd cc
reply_again (asked.Collect key) (told.Exhausted stamp) left fits can = absurd cc
reply_again (asked.Collect key) (told.Value bytes stamp) left fits can = absurd cc
reply_again (asked.Collect key) (told.Absent stamp) left fits can = absurd cc
reply_again (asked.Collect key) (told.Collected count) left fits can = rw (count_again count fits) refl
reply_again (asked.Collect key) (told.Swapped stamp) left fits can = absurd cc
reply_again (asked.Collect key) (told.Changed stamp) left fits can = absurd cc
reply_again (asked.Swap key expected value) reply left fits can = swap_again key expected value reply left fits can

phase_word_again : (action : Action) (at : Phase) → is_phase_of action at ≡ true → phase_word_of action (phase_word at) ≡ Ok at
unfolding phase_word_of
phase_word_again action at can = rw ((phase_again at).0, can) refl

no_dash : (number : ℕ) → number < 2 ^ 64 → bytes_eq (decimal number) (codes "-") ≡ false
no_dash number small = by (bytes_eq (decimal number) (codes "-")) refl
  where
    by : (t : Bool) → bytes_eq (decimal number) (codes "-") ≡ t → bytes_eq (decimal number) (codes "-") ≡ false
    by false e = e
    by true e =
        let dash : decimal number ≡ codes "-" = (bytes_eq-Decides (decimal number) (codes "-")).0 e in
        let digits : AllDigits 10 (45 ∷ []) = subst (AllDigits 10) dash (decimal_is_IsNumeral number small).0.1 in
        absurd (omega (arith, digits.0))

replied_again : (action : Action) (invoked at : ℕ) (words : List (List ℕ)) → invoked < at → at ≤ LAST_STEP
    → replied_from action invoked (decimal at) words ≡ (reply_from action words >>= λ reply. Ok (Replied at reply.0, reply.1))
unfolding replied_from
replied_again action invoked at words later high =
    let low : invoked + 1 ≤ at = omega arith in
    rw (number_again (invoked + 1) LAST_STEP at (omega arith) low high) refl

pub end_again : (action : Action) (invoked : ℕ) (end : End) (left : List (List ℕ)) → IsTextEnd invoked end → is_end_of action end ≡ true → end_from action invoked (end_words end ++ left) ≡ Ok (end, left)
unfolding end_from pending_from
end_again action invoked (Replied at reply) left fits can =
    let small : at < 2 ^ 64 = omega (arith, fits.1) in
    rw (no_dash at small, replied_again action invoked at (reply_words reply ++ left) fits.0 fits.1, reply_again action reply left fits.2 can) refl
end_again action invoked (Pending at have need) left fits can =
    rw (phase_word_again action at can, count_again have fits.0, count_again need fits.1) refl
