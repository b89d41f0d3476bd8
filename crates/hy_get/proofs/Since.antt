-- What a get keeps of its version at one more input.
use Rattle.std.proofs.Common.{◌≡◌, ℕ, ◌+◌, ◌≤◌, ◌<◌, Bool, true, false, List, [], ◌∷◌, length, take, Some, refl, sym, ap, subst, ◌∙◌, inl, inr, arith}
use Rattle.std.specs.Prelude.{◌==◌, ◌&&◌, ◌||◌, not, nat_lt, nat_le, min, insert, IsTrue}
use Rattle.std.specs.List.{list_any, prefix_len}
use Rattle.std.proofs.lemmas.Bool.{eqb-true, false≢true}
use Rattle.std.proofs.lemmas.Bool.Decides.{nat_tests}
use Rattle.hy_meta.proofs.Rising.{cases_bool}
use Rattle.hy_code.specs.declared.pick.Pick.{Pick}
use Rattle.hy_code.specs.Fragments.{rebuilt_value}
use Rattle.hy_record.specs.declared.action.Reply.TheVariants as told
use Rattle.hy_record.specs.declared.cloud.CloudReply.{CloudReply}
use Rattle.hy_record.specs.declared.cloud.CloudSay.{CloudSay}
use Rattle.hy_record.specs.declared.kind.Kind.{Kind}
use Rattle.hy_record.specs.declared.kind.Kind.TheVariants.{Tomb, Whole, Coded}
use Rattle.hy_record.specs.declared.message.MetaSay.TheVariants as says
use Rattle.hy_record.specs.declared.turn.Cue.{Cue}
use Rattle.hy_record.specs.declared.turn.Cue.TheVariants as cues
use Rattle.hy_record.specs.declared.turn.Out.{Out}
use Rattle.hy_record.specs.Stamp.{Timestamp, stamp_eq}
use Rattle.hy_record.specs.Record.{RecordValue, IsRecord, most_faults, is_part_count, is_tombstone}
use Rattle.hy_record.specs.Clouds.{clouds_of}
use Rattle.hy_protocol.specs.declared.plan.GetPlan.{GetPlan}
use Rattle.hy_protocol.specs.Inputs.{is_fired, is_tick, is_answer}
use Rattle.hy_protocol.specs.Read.{is_valid_body, valid_picks, failed_clouds, has_fired, timeouts, failed_attempts, answer_for, asks_record, sends_at_rise, sends_since}
use Rattle.hy_operation.specs.Marks.{is_marked}
use Rattle.hy_get.specs.declared.fetch.Fetch.{Fetch}
use Rattle.hy_get.specs.Fetching.{has_failed, sends_at, sends_after, attempts_of, IsValidBody, Follows, Awaits, DoesSince, Completes}
use Rattle.hy_get.proofs.Fragments.{picks-start, picks-same, picks-again, picks-new, invalid-in, insert-longer}
use Rattle.hy_get.proofs.Attempts.{attempts-is, timeouts-same, timeouts-more, timeouts-over, timeouts-start, marks-are, failed-same, failed-in, since-rise, tick-rise, fail-rise}

-- ---- what records are like

pub few-faults : (r : RecordValue) → IsRecord r → r.f < 256
few-faults r h = by_kind r.kind h.faults
  where
    by_kind : (kind : Kind) → r.f ≤ most_faults kind → r.f < 256
    by_kind Tomb few = omega (arith, few)
    by_kind Whole few = omega (arith, few)
    by_kind Coded few = omega (arith, few)

pub some-parts : (r : RecordValue) → IsRecord r → is_tombstone r.kind ≡ false → (1 ≤ r.k) × (r.k ≤ 4)
some-parts r h value = by_kind r.kind h.parts value
  where
    by_kind : (kind : Kind) → IsTrue (is_part_count kind r.k) → is_tombstone kind ≡ false → (1 ≤ r.k) × (r.k ≤ 4)
    by_kind Tomb parts no_value = absurd (false≢true (sym no_value))
    by_kind Whole parts no_value = let one : r.k ≡ 1 = eqb-true r.k 1 parts in (omega (arith, one), omega (arith, one))
    by_kind Coded parts no_value = (grind (arith, nat_tests, parts), grind (arith, nat_tests, parts))

-- ---- by parts

-- what is kept of this record
pub follows-of : (new : Fetch) (r : RecordValue) (since : List Cue) → new.rec ≡ r → new.holders.items ≡ clouds_of r.clouds → new.picks.items ≡ valid_picks r since
    → ((i : ℕ) → i < 16 → is_marked new.failed i ≡ has_failed r i since) → new.timeouts ≡ min (timeouts r since) 65535 → new.fired ≡ has_fired r since → Follows new since
follows-of new r since same holders picks failed times fired = record {
  holders = holders ∙ ap (λ (x : RecordValue). clouds_of x.clouds) (sym same);
  picks = picks ∙ ap (λ (x : RecordValue). valid_picks x since) (sym same);
  failed = λ i l. failed i l ∙ ap (λ (x : RecordValue). has_failed x i since) (sym same);
  timeouts = times ∙ ap (λ (x : RecordValue). min (timeouts x since) 65535) (sym same);
  fired = fired ∙ ap (λ (x : RecordValue). has_fired x since) (sym same);
}

-- one keeps what the other does, but for the fragments
pub record KeepsMarks (old new : Fetch) : Type 0 where
  pub rec : new.rec ≡ old.rec
  pub holders : new.holders.items ≡ old.holders.items
  pub failed : new.failed ≡ old.failed
  pub timeouts : new.timeouts ≡ old.timeouts
  pub fired : new.fired ≡ old.fired

-- the input is no failed attempt, no timeout, and no news of the record
pub record IsQuiet (r : RecordValue) (since : List Cue) (cue : Cue) : Type 0 where
  pub failed : (i : ℕ) → is_answer (λ say. not (is_valid_body r i say)) r.stamp i cue ≡ false
  pub tick : is_tick cue ≡ false
  pub fired : has_fired r (cue ∷ since) ≡ has_fired r since

quiet-tests : (b t f : Bool) → (f || b) ≡ b → t ≡ false → ((b && t) ≡ false) × ((not b && f) ≡ false)
quiet-tests true t f e n = (n, refl)
quiet-tests false true f e n = absurd (false≢true (sym n))
quiet-tests false false true e n = absurd (false≢true (sym e))
quiet-tests false false false e n = (refl, refl)

-- such an input sends nothing
pub quiet-sends : (plan : GetPlan) (r : RecordValue) (since : List Cue) (cue : Cue) → IsQuiet r since cue → sends_since plan (Some r) cue since ≡ []
unfolding failed_attempts
quiet-sends plan r since cue q =
    let tests = quiet-tests (has_fired r since) (is_tick cue) (is_fired r.stamp cue) q.fired q.tick in
    let same : failed_attempts r (cue ∷ since) ≡ failed_attempts r since = ap (λ (cs : List ℕ). length cs + timeouts r (cue ∷ since)) (failed-same r since cue q.failed) ∙ ap (λ (n : ℕ). length (failed_clouds r since) + n) (timeouts-same r since cue q.tick) in
    let still : nat_lt (failed_attempts r since) (failed_attempts r (cue ∷ since)) ≡ false = grind (arith, nat_tests, same) in
    rw (tests.0, tests.1, still) refl

-- after it all is as before, but for the fragments
pub quiet-follows : (old new : Fetch) (since : List Cue) (cue : Cue) → Follows old since → IsQuiet old.rec since cue → KeepsMarks old new → new.picks.items ≡ valid_picks old.rec (cue ∷ since) → Follows new (cue ∷ since)
quiet-follows old new since cue h q same picks =
    follows-of new old.rec (cue ∷ since) same.rec (same.holders ∙ h.holders) picks
    (λ i l. ap (λ m. is_marked m i) same.failed ∙ h.failed i l ∙ ap (λ (b : Bool). b || has_failed old.rec i since) (sym (q.failed i)))
    (same.timeouts ∙ h.timeouts ∙ ap (λ (n : ℕ). min n 65535) (sym (timeouts-same old.rec since cue q.tick)))
    (same.fired ∙ h.fired ∙ sym q.fired)

-- fragments are still too few
few-still : (old new : Fetch) → length old.picks.items < old.rec.k → new.rec ≡ old.rec → new.picks.items ≡ old.picks.items → length new.picks.items < new.rec.k
few-still old new few same picks = subst (λ (x : RecordValue). length new.picks.items < x.k) (sym same) (subst (λ (ps : List Pick). length ps < old.rec.k) (sym picks) few)

-- where memory ran out
pub awaits-as-before : (old new : Fetch) (since : List Cue) → Awaits old since → KeepsMarks old new → new.picks.items ≡ old.picks.items → Awaits new since
awaits-as-before old new since h same picks = record {
  follows = follows-of new old.rec since same.rec (same.holders ∙ h.follows.holders) (picks ∙ h.follows.picks) (λ i l. ap (λ m. is_marked m i) same.failed ∙ h.follows.failed i l) (same.timeouts ∙ h.follows.timeouts) (same.fired ∙ h.follows.fired);
  few = few-still old new h.few same.rec picks;
}

-- ---- the beginning

pub awaits-start : (new : Fetch) → new.holders.items ≡ clouds_of new.rec.clouds → new.picks.items ≡ [] → ((i : ℕ) → is_marked new.failed i ≡ false) → new.timeouts ≡ 0 → new.fired ≡ false → Awaits new []
awaits-start new holders picks failed times fired = record {
  follows = follows-of new new.rec [] refl holders (picks ∙ sym (picks-start new.rec)) (λ i l. failed i) (times ∙ ap (λ (n : ℕ). min n 65535) (sym (timeouts-start new.rec))) fired;
  few = subst (λ (ps : List Pick). length ps < new.rec.k) (sym picks) (let parts = some-parts new.rec new.ruled new.value in omega (arith, parts.0));
}

-- ---- timeouts

saturates : (n : ℕ) → min (min n 65535 + 1) 65535 ≡ min (n + 1) 65535
saturates n = omega arith

-- before the record is superseded
pub tick-counts : (plan : GetPlan) (old new : Fetch) (since : List Cue) (sent : List Out) → Awaits old since → old.fired ≡ false
    → new.rec ≡ old.rec → new.holders.items ≡ old.holders.items → new.picks.items ≡ old.picks.items → new.failed ≡ old.failed → new.fired ≡ old.fired → new.timeouts ≡ min (old.timeouts + 1) 65535
    → sent ≡ sends_at plan old.rec old.holders.items (attempts_of old.holders.items old.failed old.timeouts + 1) → DoesSince plan old.rec since cues.Tick sent new
tick-counts plan old new since sent a calm same holders picks failed fired times is =
    let h : Follows old since = a.follows in
    let few : old.rec.f < 256 = few-faults old.rec old.ruled in
    let none : has_fired old.rec since ≡ false = sym h.fired ∙ calm in
    let count : timeouts old.rec (cues.Tick ∷ since) ≡ timeouts old.rec since + 1 = timeouts-more old.rec since none in
    let marked = marks-are old.rec since old.holders.items old.failed h.holders h.failed in
    let after : failed_attempts old.rec (cues.Tick ∷ since) ≡ length (failed_clouds old.rec since) + (timeouts old.rec since + 1) =
    attempts-is old.rec (cues.Tick ∷ since) ∙ ap (λ (cs : List ℕ). length cs + timeouts old.rec (cues.Tick ∷ since)) (failed-same old.rec since cues.Tick (λ i. refl)) ∙ ap (λ (n : ℕ). length (failed_clouds old.rec since) + n) count in
    record {
      sends =
          is ∙ ap (λ (hs : List ℕ). sends_at plan old.rec hs (attempts_of old.holders.items old.failed old.timeouts + 1)) h.holders
          ∙ ap (λ (n : ℕ). sends_at plan old.rec (clouds_of old.rec.clouds) (n + old.timeouts + 1)) marked
          ∙ ap (λ (n : ℕ). sends_at plan old.rec (clouds_of old.rec.clouds) (length (failed_clouds old.rec since) + n + 1)) h.timeouts
          ∙ tick-rise plan old.rec (length (failed_clouds old.rec since)) (timeouts old.rec since) few
          ∙ ap (λ (n : ℕ). sends_at_rise plan old.rec true (length (failed_clouds old.rec since) + timeouts old.rec since) n) (sym after)
          ∙ ap (λ (n : ℕ). sends_at_rise plan old.rec true n (failed_attempts old.rec (cues.Tick ∷ since))) (sym (attempts-is old.rec since))
          ∙ sym (since-rise plan old.rec since cues.Tick (rw none refl) (rw none refl));
      awaits = record {
        follows = follows-of new old.rec (cues.Tick ∷ since) same (holders ∙ h.holders) (picks ∙ h.picks ∙ sym (picks-same old.rec since cues.Tick (λ i. refl))) (λ i l. ap (λ m. is_marked m i) failed ∙ h.failed i l)
            (times ∙ ap (λ (n : ℕ). min (n + 1) 65535) h.timeouts ∙ saturates (timeouts old.rec since) ∙ ap (λ (n : ℕ). min n 65535) (sym count)) (fired ∙ h.fired);
        few = few-still old new a.few same picks;
      };
    }

-- after that
pub tick-reads : (plan : GetPlan) (old : Fetch) (since : List Cue) (sent : List Out) → Awaits old since → old.fired ≡ true → sent ≡ asks_record plan → DoesSince plan old.rec since cues.Tick sent old
tick-reads plan old since sent a on is =
    let h : Follows old since = a.follows in
    let fired : has_fired old.rec since ≡ true = sym h.fired ∙ on in
    record {
      sends = rw fired is;
      awaits = record {
        follows = follows-of old old.rec (cues.Tick ∷ since) refl h.holders (h.picks ∙ sym (picks-same old.rec since cues.Tick (λ i. refl))) h.failed (h.timeouts ∙ ap (λ (n : ℕ). min n 65535) (sym (timeouts-over old.rec since fired))) h.fired;
        few = a.few;
      };
    }

-- ---- answers that are not valid

or-swap : (a b : Bool) → (a || b) ≡ (b || a)
or-swap true true = refl
or-swap true false = refl
or-swap false true = refl
or-swap false false = refl

no-and : (b : Bool) → (b && false) ≡ false
no-and true = refl
no-and false = refl

pub fail-counts : (plan : GetPlan) (old new : Fetch) (since : List Cue) (reply : CloudReply) (sent : List Out) → Awaits old since
    → stamp_eq reply.stamp old.rec.stamp ≡ true → is_valid_body old.rec reply.cloud reply.say ≡ false
    → new.rec ≡ old.rec → new.holders.items ≡ old.holders.items → new.picks.items ≡ old.picks.items → new.fired ≡ old.fired → new.timeouts ≡ old.timeouts
    → ((i : ℕ) → i < 16 → is_marked new.failed i ≡ (is_marked old.failed i || reply.cloud == i))
    → sent ≡ sends_after plan old.rec old.holders.items (attempts_of old.holders.items old.failed old.timeouts) (attempts_of old.holders.items new.failed old.timeouts)
    → DoesSince plan old.rec since (cues.Cloud reply) sent new
fail-counts plan old new since reply sent a stamp bad same holders picks fired times marks is =
    let h : Follows old since = a.follows in
    let r : RecordValue = old.rec in
    let cue : Cue = cues.Cloud reply in
    let T : ℕ = timeouts r since in
    let held : (i : ℕ) → i < 16 → is_marked new.failed i ≡ has_failed r i (cue ∷ since) =
    λ i l. marks i l ∙ ap (λ (b : Bool). b || reply.cloud == i) (h.failed i l) ∙ or-swap (has_failed r i since) (reply.cloud == i) ∙ ap (λ (b : Bool). b || has_failed r i since) (sym (failed-in r reply stamp bad i)) in
    let was = marks-are r since old.holders.items old.failed h.holders h.failed in
    let now = marks-are r (cue ∷ since) old.holders.items new.failed h.holders held in
    let count : timeouts r (cue ∷ since) ≡ T = timeouts-same r since cue refl in
    let B : ℕ = length (failed_clouds r since) in
    let A : ℕ = length (failed_clouds r (cue ∷ since)) in
    record {
      sends =
          is ∙ ap (λ (hs : List ℕ). sends_after plan r hs (attempts_of old.holders.items old.failed old.timeouts) (attempts_of old.holders.items new.failed old.timeouts)) h.holders
          ∙ ap (λ (b : ℕ). sends_after plan r (clouds_of r.clouds) (b + old.timeouts) (attempts_of old.holders.items new.failed old.timeouts)) was
          ∙ ap (λ (n : ℕ). sends_after plan r (clouds_of r.clouds) (B + old.timeouts) (n + old.timeouts)) now
          ∙ ap (λ (t : ℕ). sends_after plan r (clouds_of r.clouds) (B + t) (A + t)) h.timeouts
          ∙ fail-rise plan r B A T (few-faults r old.ruled)
          ∙ ap (λ (n : ℕ). sends_at_rise plan r false (B + T) (A + n)) (sym count)
          ∙ ap (λ (n : ℕ). sends_at_rise plan r false (B + T) n) (sym (attempts-is r (cue ∷ since)))
          ∙ ap (λ (n : ℕ). sends_at_rise plan r false n (failed_attempts r (cue ∷ since))) (sym (attempts-is r since))
          ∙ sym (since-rise plan r since cue (no-and (has_fired r since)) (no-and (not (has_fired r since))));
      awaits = record {
        follows = follows-of new r (cue ∷ since) same (holders ∙ h.holders) (picks ∙ h.picks ∙ sym (picks-same r since cue (invalid-in r reply bad))) held (times ∙ h.timeouts ∙ ap (λ (n : ℕ). min n 65535) (sym count)) (fired ∙ h.fired);
        few = few-still old new a.few same picks;
      };
    }

-- ---- valid answers

valid-say : (r : RecordValue) (reply : CloudReply) (bytes : List ℕ) → IsValidBody r reply bytes → is_valid_body r reply.cloud reply.say ≡ true
valid-say r reply bytes v = ap (λ (say : CloudSay). is_valid_body r reply.cloud say) v.body ∙ v.valid

valid-quiet : (r : RecordValue) (since : List Cue) (reply : CloudReply) (bytes : List ℕ) → IsValidBody r reply bytes → IsQuiet r since (cues.Cloud reply)
valid-quiet r since reply bytes v = record { failed = calm; tick = refl; fired = refl }
  where
    calm : (i : ℕ) → is_answer (λ say. not (is_valid_body r i say)) r.stamp i (cues.Cloud reply) ≡ false
    calm i = elim (cases_bool (reply.cloud == i)) [
      | inr elsewhere_it_is ↦ rw elsewhere_it_is refl
      | inl here ↦ let good : is_valid_body r i reply.say ≡ true = ap (λ (j : ℕ). is_valid_body r j reply.say) (sym (eqb-true reply.cloud i here)) ∙ valid-say r reply bytes v in rw (here, good) (no-and (stamp_eq reply.stamp r.stamp))
    ]

-- a valid answer after which fragments are still too few
pub keep-does : (plan : GetPlan) (old new : Fetch) (since : List Cue) (reply : CloudReply) (bytes : List ℕ) (sent : List Out) → Awaits old since → IsValidBody old.rec reply bytes → KeepsMarks old new
    → new.picks.items ≡ valid_picks old.rec (cues.Cloud reply ∷ since) → length new.picks.items < old.rec.k → sent ≡ [] → DoesSince plan old.rec since (cues.Cloud reply) sent new
keep-does plan old new since reply bytes sent a v same picks few none = record {
  sends = none ∙ sym (quiet-sends plan old.rec since (cues.Cloud reply) (valid-quiet old.rec since reply bytes v));
  awaits = record {
    follows = quiet-follows old new since (cues.Cloud reply) a.follows (valid-quiet old.rec since reply bytes v) same picks;
    few = subst (λ (x : RecordValue). length new.picks.items < x.k) (sym same.rec) few;
  };
}

-- of a cloud that gave one before
pub keep-again : (plan : GetPlan) (fetch : Fetch) (since : List Cue) (reply : CloudReply) (bytes : List ℕ) (sent : List Out) → Awaits fetch since → IsValidBody fetch.rec reply bytes → list_any (λ pick. pick.cloud == reply.cloud) fetch.picks.items ≡ true → sent ≡ []
    → DoesSince plan fetch.rec since (cues.Cloud reply) sent fetch
keep-again plan fetch since reply bytes sent a v any none =
    keep-does plan fetch fetch since reply bytes sent a v (record { rec = refl; holders = refl; failed = refl; timeouts = refl; fired = refl })
    (a.follows.picks ∙ sym (picks-again fetch.rec since reply (ap (λ (ps : List Pick). list_any (λ pick. pick.cloud == reply.cloud) ps) (sym a.follows.picks) ∙ any))) a.few none

-- the fragments with one more
pub record HasMore (old : Fetch) (reply : CloudReply) (bytes : List ℕ) (place : ℕ) (more : List Pick) : Type 0 where
  pub stamp : stamp_eq reply.stamp old.rec.stamp ≡ true
  pub valid : IsValidBody old.rec reply bytes
  pub fresh : list_any (λ pick. pick.cloud == reply.cloud) old.picks.items ≡ false
  pub at_it : place ≡ prefix_len (λ pick. nat_lt pick.cloud reply.cloud) old.picks.items
  pub inside : place ≤ length old.picks.items
  pub picks : more ≡ insert old.picks.items place (record { cloud = reply.cloud; bytes = bytes })

picks-more : (old : Fetch) (since : List Cue) (reply : CloudReply) (bytes : List ℕ) (place : ℕ) (more : List Pick) → Follows old since → HasMore old reply bytes place more → more ≡ valid_picks old.rec (cues.Cloud reply ∷ since)
picks-more old since reply bytes place more h m =
    m.picks ∙ ap (λ (n : ℕ). insert old.picks.items n (record { cloud = reply.cloud; bytes = bytes })) m.at_it
    ∙ ap (λ (ps : List Pick). insert ps (prefix_len (λ pick. nat_lt pick.cloud reply.cloud) ps) (record { cloud = reply.cloud; bytes = bytes })) h.picks
    ∙ sym (picks-new old.rec since reply bytes m.valid m.stamp (ap (λ (ps : List Pick). list_any (λ pick. pick.cloud == reply.cloud) ps) (sym h.picks) ∙ m.fresh))

-- not enough yet
pub keep-more : (plan : GetPlan) (old new : Fetch) (since : List Cue) (reply : CloudReply) (bytes : List ℕ) (place : ℕ) (sent : List Out) → Awaits old since → HasMore old reply bytes place new.picks.items → KeepsMarks old new → length new.picks.items < old.rec.k → sent ≡ []
    → DoesSince plan old.rec since (cues.Cloud reply) sent new
keep-more plan old new since reply bytes place sent a m same few none = keep-does plan old new since reply bytes sent a m.valid same (picks-more old since reply bytes place new.picks.items a.follows m) few none

-- enough
pub keep-value : (old new : Fetch) (since : List Cue) (reply : CloudReply) (bytes : List ℕ) (place : ℕ) (value : List ℕ) → Awaits old since → HasMore old reply bytes place new.picks.items → KeepsMarks old new → old.rec.k ≤ length new.picks.items
    → value ≡ rebuilt_value old.rec.size old.rec.k (take old.rec.k new.picks.items) → Completes old.rec since (cues.Cloud reply) value new
unfolding answer_for
keep-value old new since reply bytes place value a m same enough rebuilt =
    let all : new.picks.items ≡ valid_picks old.rec (cues.Cloud reply ∷ since) = picks-more old since reply bytes place new.picks.items a.follows m in
    let high : nat_le old.rec.k (length (valid_picks old.rec (cues.Cloud reply ∷ since))) ≡ true = (let e = ap length all in grind (arith, nat_tests, e, enough)) in
    let no_tomb : is_tombstone old.rec.kind ≡ false = old.value in
    record {
      answer = rw (no_tomb, high) (ap (λ (x : List ℕ). Some (told.Value x old.rec.stamp)) (sym (rebuilt ∙ ap (λ (ps : List Pick). rebuilt_value old.rec.size old.rec.k (take old.rec.k ps)) all)));
      follows = quiet-follows old new since (cues.Cloud reply) a.follows (valid-quiet old.rec since reply bytes m.valid) same all;
      enough = subst (λ (x : RecordValue). length new.picks.items ≤ x.k) (sym same.rec)
          (let one = insert-longer old.picks.items place (record { cloud = reply.cloud; bytes = bytes }) m.inside in let few = a.few in let e = ap length m.picks in omega (arith, one, few, e));
    }

-- ---- news that the record was superseded

pub fired-does : (plan : GetPlan) (old new : Fetch) (since : List Cue) (c o : ℕ) (k : List ℕ) (stamp : Timestamp) (sent : List Out) → Awaits old since → old.fired ≡ false → stamp_eq stamp old.rec.stamp ≡ true → sent ≡ asks_record plan
    → new.rec ≡ old.rec → new.holders.items ≡ old.holders.items → new.picks.items ≡ old.picks.items → new.failed ≡ old.failed → new.timeouts ≡ old.timeouts → new.fired ≡ true
    → DoesSince plan old.rec since (cues.Meta (says.Fired c o k stamp)) sent new
fired-does plan old new since c o k stamp sent a calm this is same holders picks failed times fired =
    let h : Follows old since = a.follows in
    let none : has_fired old.rec since ≡ false = sym h.fired ∙ calm in
    let cue : Cue = cues.Meta (says.Fired c o k stamp) in
    record {
      sends = is ∙ (let e : sends_since plan (Some old.rec) (cues.Meta (says.Fired c o k stamp)) since ≡ asks_record plan = rw (none, this) refl in sym e);
      awaits = record {
        follows = follows-of new old.rec cue_since same (holders ∙ h.holders) (picks ∙ h.picks ∙ sym (picks-same old.rec since cue (λ i. refl))) (λ i l. ap (λ m. is_marked m i) failed ∙ h.failed i l)
            (times ∙ h.timeouts ∙ ap (λ (n : ℕ). min n 65535) (sym (timeouts-same old.rec since cue refl))) (fired ∙ (let e : has_fired old.rec (cues.Meta (says.Fired c o k stamp) ∷ since) ≡ true = rw this refl in sym e));
        few = few-still old new a.few same picks;
      };
    }
  where
    cue_since : List Cue
    cue_since = cues.Meta (says.Fired c o k stamp) ∷ since
