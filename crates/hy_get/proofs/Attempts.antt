-- The failed attempts of a version at one more input, and what is sent as they rise.
use Rattle.std.proofs.Common.{◌≡◌, ℕ, zero, suc, ◌+◌, ◌-◌, ◌<◌, Bool, true, false, List, [], ◌∷◌, length, Some, refl, sym, ap, ◌∙◌, inl, inr, arith}
use Rattle.std.specs.Prelude.{◌==◌, ◌&&◌, not, nat_lt, nat_le, min, filter, slice_get, if◌then◌else◌}
use Rattle.std.specs.List.{range_with_len}
use Rattle.std.specs.Int.{bit_at}
use Rattle.std.proofs.lemmas.Bool.{eqb-true, eqb-false, leb-true, leb-false, cases_lt}
use Rattle.std.proofs.lemmas.Bool.Decides.{nat_tests}
use Rattle.hy_meta.proofs.Rising.{cases_bool}
use Rattle.hy_record.specs.declared.cloud.CloudReply.{CloudReply}
use Rattle.hy_record.specs.declared.turn.Cue.{Cue}
use Rattle.hy_record.specs.declared.turn.Cue.TheVariants as cues
use Rattle.hy_record.specs.declared.turn.Out.{Out}
use Rattle.hy_record.specs.Stamp.{stamp_eq}
use Rattle.hy_record.specs.Record.{RecordValue}
use Rattle.hy_record.specs.Clouds.{clouds_of}
use Rattle.hy_protocol.specs.declared.plan.GetPlan.{GetPlan}
use Rattle.hy_protocol.specs.Inputs.{is_fired, is_tick, is_answer}
use Rattle.hy_protocol.specs.Read.{is_valid_body, failed_clouds, has_fired, timeouts, failed_attempts, get_at, watch_all, sends_at_rise, sends_since}
use Rattle.hy_operation.specs.Marks.{is_marked}
use Rattle.hy_operation.specs.declared.marks.Marks.{Marks}
use Rattle.hy_get.specs.Fetching.{has_failed, sends_at, sends_after}

-- ---- the counts

pub attempts-is : (r : RecordValue) (since : List Cue) → failed_attempts r since ≡ length (failed_clouds r since) + timeouts r since
unfolding failed_attempts
attempts-is r since = refl

-- an input that is no timeout
pub timeouts-same : (r : RecordValue) (since : List Cue) (cue : Cue) → is_tick cue ≡ false → timeouts r (cue ∷ since) ≡ timeouts r since
unfolding timeouts
timeouts-same r since cue none = rw none refl

-- a timeout before the record is known to be superseded, and one after that
pub timeouts-more : (r : RecordValue) (since : List Cue) → has_fired r since ≡ false → timeouts r (cues.Tick ∷ since) ≡ timeouts r since + 1
unfolding timeouts
timeouts-more r since none = rw none refl

pub timeouts-over : (r : RecordValue) (since : List Cue) → has_fired r since ≡ true → timeouts r (cues.Tick ∷ since) ≡ timeouts r since
unfolding timeouts
timeouts-over r since fired = rw fired refl

pub timeouts-start : (r : RecordValue) → timeouts r [] ≡ 0
unfolding timeouts
timeouts-start r = refl

-- filters of a filter that agree where it looks
filter-agree : (b p q : ℕ → Bool) (a n : ℕ) → ((i : ℕ) → i < a + n → p i ≡ q i) → filter p (filter b (range_with_len a n)) ≡ filter q (filter b (range_with_len a n))
filter-agree b p q a zero agree = refl
filter-agree b p q a (suc n) agree =
    let rest = filter-agree b p q (a + 1) n (λ i l. agree i (omega (arith, l))) in
    let here : p a ≡ q a = agree a (omega arith) in
    elim (cases_bool (b a)) [
      | inr out ↦ rw out rest
      | inl taken ↦ elim (cases_bool (q a)) [
        | inl yes_q ↦ rw (taken, here, yes_q) (ap (λ (xs : List ℕ). a ∷ xs) rest)
        | inr not_q ↦ rw (taken, here, not_q) rest
      ]
    ]

-- the marks are those of the clouds that failed
pub marks-are : (r : RecordValue) (since : List Cue) (holders : List ℕ) (marks : Marks) → holders ≡ clouds_of r.clouds → ((i : ℕ) → i < 16 → is_marked marks i ≡ has_failed r i since)
    → length (filter (λ cloud. is_marked marks cloud) holders) ≡ length (failed_clouds r since)
unfolding clouds_of failed_clouds
marks-are r since holders marks are agree =
    ap (λ (cs : List ℕ). length (filter (λ cloud. is_marked marks cloud) cs)) are
    ∙ ap length (filter-agree (λ cloud. bit_at r.clouds cloud == 1) (λ cloud. is_marked marks cloud) (λ cloud. has_failed r cloud since) 0 16 agree)

pub failed-same : (r : RecordValue) (since : List Cue) (cue : Cue) → ((i : ℕ) → is_answer (λ say. not (is_valid_body r i say)) r.stamp i cue ≡ false) → failed_clouds r (cue ∷ since) ≡ failed_clouds r since
unfolding clouds_of failed_clouds
failed-same r since cue none = filter-agree (λ cloud. bit_at r.clouds cloud == 1) (λ cloud. has_failed r cloud (cue ∷ since)) (λ cloud. has_failed r cloud since) 0 16 (λ i l. rw (none i) refl)

-- which cloud failed by an answer that is not valid
pub failed-in : (r : RecordValue) (reply : CloudReply) → stamp_eq reply.stamp r.stamp ≡ true → is_valid_body r reply.cloud reply.say ≡ false → (i : ℕ) → is_answer (λ say. not (is_valid_body r i say)) r.stamp i (cues.Cloud reply) ≡ (reply.cloud == i)
failed-in r reply stamp bad i =
    elim (cases_bool (reply.cloud == i)) [
      | inr off ↦ rw off refl
      | inl on ↦ let here : is_valid_body r i reply.say ≡ false = ap (λ (j : ℕ). is_valid_body r j reply.say) (sym (eqb-true reply.cloud i on)) ∙ bad in rw (on, stamp, here) refl
    ]

-- ---- what is sent

-- at an input that asks for no record
pub since-rise : (plan : GetPlan) (r : RecordValue) (since : List Cue) (cue : Cue) → (has_fired r since && is_tick cue) ≡ false → (not (has_fired r since) && is_fired r.stamp cue) ≡ false
    → sends_since plan (Some r) cue since ≡ sends_at_rise plan r (is_tick cue) (failed_attempts r since) (failed_attempts r (cue ∷ since))
since-rise plan r since cue one two = rw (one, two) refl

-- the number of attempts that is kept, and that of the definition
kept-attempts : (failed times f : ℕ) → f < 256 → nat_le (failed + min times 65535 + 1) f ≡ nat_le (failed + (times + 1)) f
kept-attempts failed times f few =
    elim (cases_lt 65535 times) [
      | inl many ↦ let a : nat_le (failed + min times 65535 + 1) f ≡ false = grind (arith, nat_tests, many, few) in let b : nat_le (failed + (times + 1)) f ≡ false = grind (arith, nat_tests, many, few) in a ∙ sym b
      | inr fits ↦ ap (λ (n : ℕ). nat_le n f) (omega (arith, fits))
    ]

kept-here : (failed times f : ℕ) → f < 256 → nat_le (failed + min times 65535 + 1) f ≡ true → min times 65535 ≡ times
kept-here failed times f few low =
    elim (cases_lt 65535 times) [
      | inl many ↦ absurd (let l = leb-true (failed + min times 65535 + 1) f low in omega (arith, l, many, few))
      | inr fits ↦ omega (arith, fits)
    ]

same-either : (b : Bool) (x : List Out) → (if b then x else x) ≡ x
same-either true x = refl
same-either false x = refl

-- at a timeout
pub tick-rise : (plan : GetPlan) (r : RecordValue) (failed times : ℕ) → r.f < 256
    → sends_at plan r (clouds_of r.clouds) (failed + min times 65535 + 1) ≡ sends_at_rise plan r true (failed + times) (failed + (times + 1))
tick-rise plan r failed times few =
    let risen : nat_lt (failed + times) (failed + (times + 1)) ≡ true = grind (arith, nat_tests) in
    elim (cases_bool (nat_le (failed + min times 65535 + 1) r.f)) [
      | inl low ↦
          let same : min times 65535 ≡ times = kept-here failed times r.f few low in
          let low' : nat_le (failed + (times + 1)) r.f ≡ true = sym (kept-attempts failed times r.f few) ∙ low in
          rw (low, risen, low') (ap (λ (n : ℕ). get_at plan r (slice_get (clouds_of r.clouds) n)) (omega (arith, same)))
      | inr high ↦
          let high' : nat_le (failed + (times + 1)) r.f ≡ false = sym (kept-attempts failed times r.f few) ∙ high in
          rw (high, risen, high') (sym (same-either (failed + (times + 1) == r.f + 1) (watch_all plan r)))
    ]

-- what is sent at an answer by the number of attempts, and by the definition
rise-is : (plan : GetPlan) (r : RecordValue) (n : ℕ)
    → (if nat_le n (r.f + 1) then sends_at plan r (clouds_of r.clouds) n else [])
    ≡ (if nat_le n r.f then get_at plan r (slice_get (clouds_of r.clouds) (r.k + n - 1)) else if (n == r.f + 1) then watch_all plan r else [])
rise-is plan r n =
    elim (cases_bool (nat_le n r.f)) [
      | inl low ↦ let wide : nat_le n (r.f + 1) ≡ true = grind (arith, nat_tests, leb-true n r.f low) in rw (low, wide) refl
      | inr high ↦ elim (cases_bool (n == r.f + 1)) [
        | inl at_it ↦ let wide : nat_le n (r.f + 1) ≡ true = (let e = eqb-true n (r.f + 1) at_it in grind (arith, nat_tests, e)) in rw (high, wide, at_it) refl
        | inr above ↦ let wide : nat_le n (r.f + 1) ≡ false = (let e = eqb-false n (r.f + 1) above in let g = leb-false n r.f high in grind (arith, nat_tests, e, g)) in rw (high, wide, above) refl
      ]
    ]

-- at an answer, where the attempts rise or not, by the numbers that are kept
pub fail-rise : (plan : GetPlan) (r : RecordValue) (before after times : ℕ) → r.f < 256
    → sends_after plan r (clouds_of r.clouds) (before + min times 65535) (after + min times 65535) ≡ sends_at_rise plan r false (before + times) (after + times)
fail-rise plan r before after times few =
    elim (cases_lt before after) [
      | inr still ↦
          let a : nat_lt (before + min times 65535) (after + min times 65535) ≡ false = grind (arith, nat_tests, still) in
          let b : nat_lt (before + times) (after + times) ≡ false = grind (arith, nat_tests, still) in
          rw (a, b) refl
      | inl risen ↦
          let a : nat_lt (before + min times 65535) (after + min times 65535) ≡ true = grind (arith, nat_tests, risen) in
          let b : nat_lt (before + times) (after + times) ≡ true = grind (arith, nat_tests, risen) in
          elim (cases_lt 65535 times) [
            | inl many ↦
                let c : nat_le (after + min times 65535) (r.f + 1) ≡ false = grind (arith, nat_tests, many, few) in
                let d : nat_le (after + times) r.f ≡ false = grind (arith, nat_tests, many, few) in
                let e : (after + times == r.f + 1) ≡ false = grind (arith, nat_tests, many, few) in
                rw (a, b, c, d, e) refl
            | inr fits ↦
                let same : min times 65535 ≡ times = omega (arith, fits) in
                rw (same, b) (rise-is plan r (after + times))
          ]
    ]
