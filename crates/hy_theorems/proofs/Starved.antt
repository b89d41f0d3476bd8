-- A read to which every honest cloud of its record's list gave an answer, and which did not reply, follows a record that was superseded.
use Rattle.std.proofs.Common.{◌≡◌, ℕ, ◌+◌, ◌≤◌, ◌<◌, Bool, true, false, cond, not, filter, List, [], ◌∷◌, length, Option, Some, None, refl, sym, ap, subst, ◌∙◌, inl, inr, arith}
use Rattle.std.specs.Prelude.{◌&&◌, ◌||◌, ◌⊎◌, ◌==◌, is_some, nat_le}
use Rattle.std.specs.Option.{option_or, option_map}
use Rattle.std.specs.List.{AllByRecursion, list_any, range_with_len, filter_map, cons_option}
use Rattle.std.proofs.lemmas.Bool.{eqb-true, eq-eqb, le-leb, false≢true, true≢false}
use Rattle.std.proofs.lemmas.Option.{none-some}
use Rattle.hy_meta.proofs.Lasting.{applied-tried}
use Rattle.hy_protocol.specs.Operations.{value_of}
use Rattle.hy_theorems.specs.Writing.{change_value}
use Rattle.hy_theorems.proofs.Writes.{value_of-write}
use Rattle.hy_record.specs.declared.action.Action.TheVariants as asked
use Rattle.hy_record.specs.declared.action.Reply.{Reply}
use Rattle.hy_record.specs.declared.action.Reply.TheVariants as told
use Rattle.hy_record.specs.Stamp.{Timestamp, stamp_eq, stamp_lt}
use Rattle.hy_base.specs.Shape.{IsShape, cloud_count}
use Rattle.hy_record.specs.Clouds.{clouds_of}
use Rattle.hy_record.specs.Record.{RecordValue}
use Rattle.hy_record.proofs.Order.{stamp_eq-true, stamp_eq-same, key_eq-true}
use Rattle.hy_record.specs.Key.{key_eq}
use Rattle.hy_meta.proofs.Rising.{cases_bool, both}
use Rattle.hy_code.specs.Fragments.{fragment_of}
use Rattle.hy_code.specs.declared.pick.Pick.{Pick}
use Rattle.hy_record.specs.declared.turn.Cue.{Cue}
use Rattle.hy_record.specs.declared.turn.Cue.TheVariants as cues
use Rattle.hy_record.specs.declared.cloud.CloudReply.{CloudReply}
use Rattle.hy_record.specs.declared.cloud.CloudSay.{CloudSay}
use Rattle.hy_record.specs.declared.cloud.CloudSay.TheVariants.{Stored, Conflict, Body, Missing, Gone, Bad}
use Rattle.hy_protocol.specs.Inputs.{addresses, is_answer}
use Rattle.hy_protocol.specs.Write.{value_record, update_of}
use Rattle.hy_protocol.specs.Read.{Version, version_of, valid_bytes, valid_in, first_valid, valid_picks, answer_for, answer_of, read_reply}
use Rattle.hy_record.specs.Record.{is_tombstone, is_valid_fragment}
use Rattle.hy_trace.specs.Deeds.{Params, Deed, Start, served, inputs_of, start_of, reply_of, reply_after}
use Rattle.hy_trace.specs.Messages.{Answer}
use Rattle.hy_protocol.specs.Operations.{key_of, write_plan, replied}
use Rattle.hy_trace.specs.Trace.{IsTrace, is_had}
use Rattle.hy_trace.specs.Held.{HasLiars}
use Rattle.hy_theorems.specs.Starving.{IsStarved}
use Rattle.hy_trace.proofs.Growth.{start-same, top}
use Rattle.hy_trace.proofs.Heard.{IsInput, version-told, inputs-heard}
use Rattle.hy_theorems.proofs.Meaning.{IsUpdating, IsPutting, IsReading, WasOld, was-below}
use Rattle.hy_theorems.proofs.Invariant.{trace-holds, told-reading, by-means}
use Rattle.hy_theorems.proofs.Masks.{more-pass, both-pass, enough-honest}
use Rattle.hy_theorems.proofs.Values.{since-inputs}
use Rattle.hy_theorems.proofs.Told.{IsRecordOf, update-is, tomb-is}
use Rattle.hy_theorems.proofs.Retrievable.{IsQuorumRecord, update-quorum, listed-clouds, listed-low, own-fragment}
use Rattle.hy_theorems.proofs.Holders.{own-valid}
use Rattle.hy_theorems.proofs.Answers.{MeansSaid, answers-hold}

-- the cloud gave an answer for the timestamp
record GaveAnswer (stamp : Timestamp) (inputs : List Cue) (cloud : ℕ) : Type 0 where
  pub reply : CloudReply
  pub input : IsInput inputs (cues.Cloud reply)
  pub cloud_is : reply.cloud ≡ cloud
  pub stamp_is : reply.stamp ≡ stamp
  pub had : is_had reply.say ≡ true

either : (a b : Bool) → (a || b) ≡ true → (a ≡ true) ⊎ (b ≡ true)
either true b is = inl refl
either false b is = inr is

answer-given : (stamp : Timestamp) (cloud : ℕ) (cue : Cue) (inputs : List Cue) → IsInput inputs cue → is_answer is_had stamp cloud cue ≡ true → GaveAnswer stamp inputs cloud
answer-given stamp cloud (cues.Cloud reply) inputs input is =
    let outer = both (reply.cloud == cloud && stamp_eq reply.stamp stamp) (is_had reply.say) is in
    let inner = both (reply.cloud == cloud) (stamp_eq reply.stamp stamp) outer.0 in
    record { reply = reply; input = input; cloud_is = eqb-true reply.cloud cloud inner.0; stamp_is = stamp_eq-true reply.stamp stamp inner.1; had = outer.1 }
answer-given stamp cloud (cues.Meta say) inputs input is = absurd (false≢true is)
answer-given stamp cloud cues.Tick inputs input is = absurd (false≢true is)

any-given : (stamp : Timestamp) (cloud : ℕ) (some all : List Cue) → ((cue : Cue) → IsInput some cue → IsInput all cue) → list_any (is_answer is_had stamp cloud) some ≡ true → GaveAnswer stamp all cloud
any-given stamp cloud [] all within is = absurd (false≢true is)
any-given stamp cloud (cue ∷ some) all within is =
    elim (either (is_answer is_had stamp cloud cue) (list_any (is_answer is_had stamp cloud) some) is) [
      | inl first ↦ answer-given stamp cloud cue all (within cue (inl refl)) first
      | inr later ↦ any-given stamp cloud some all (λ x i. within x (inr i)) later
    ]

some-second : {A : Type 0} (a b : Option A) → is_some b ≡ true → is_some (option_or a b) ≡ true
some-second None b is = is
some-second (Some x) b is = refl

some-first : {A : Type 0} (a b : Option A) → is_some a ≡ true → is_some (option_or a b) ≡ true
some-first None b is = absurd (false≢true is)
some-first (Some x) b is = refl

-- a valid answer of the cloud is kept
body-counts : (r : RecordValue) (cloud : ℕ) (reply : CloudReply) (bytes : List ℕ) → reply.cloud ≡ cloud → reply.stamp ≡ r.stamp → reply.say ≡ Body bytes → is_valid_fragment r cloud bytes ≡ true → is_some (valid_in r cloud (cues.Cloud reply)) ≡ true
body-counts r cloud reply bytes cloud_is stamp_is say_is valid =
    let one : (reply.cloud == cloud) ≡ true = eq-eqb reply.cloud cloud cloud_is in
    let two : stamp_eq reply.stamp r.stamp ≡ true = ap (λ (x : Timestamp). stamp_eq x r.stamp) stamp_is ∙ stamp_eq-same r.stamp in
    let body : valid_bytes r cloud reply.say ≡ Some bytes = ap (valid_bytes r cloud) say_is ∙ rw valid refl in
    rw (one, two) (ap is_some body)

first-counts : (r : RecordValue) (cloud : ℕ) (reply : CloudReply) (since : List Cue) → IsInput since (cues.Cloud reply) → is_some (valid_in r cloud (cues.Cloud reply)) ≡ true → is_some (first_valid r cloud since) ≡ true
unfolding first_valid
first-counts r cloud reply [] input is = absurd input
first-counts r cloud reply (cue ∷ before) (inl same) is = some-second (first_valid r cloud before) (valid_in r cloud cue) (ap (λ (x : Cue). is_some (valid_in r cloud x)) same ∙ is)
first-counts r cloud reply (cue ∷ before) (inr later) is = some-first (first_valid r cloud before) (valid_in r cloud cue) (first-counts r cloud reply before later is)

abbrev pick_at : ℕ → List ℕ → Pick
pick_at cloud bytes = record { cloud = cloud; bytes = bytes }

picks-counted : (h : ℕ → Option (List ℕ)) (xs : List ℕ) → length (filter_map (λ cloud. option_map (pick_at cloud) (h cloud)) xs) ≡ length (filter (λ cloud. is_some (h cloud)) xs)
picks-counted h [] = refl
picks-counted h (x ∷ xs) = by_first (h x) (picks-counted h xs)
  where
    by_first : (o : Option (List ℕ)) → length (filter_map (λ cloud. option_map (pick_at cloud) (h cloud)) xs) ≡ length (filter (λ cloud. is_some (h cloud)) xs) →
        length (cons_option (option_map (pick_at x) o) (filter_map (λ cloud. option_map (pick_at cloud) (h cloud)) xs)) ≡ length (cond (is_some o) (x ∷ filter (λ cloud. is_some (h cloud)) xs) (filter (λ cloud. is_some (h cloud)) xs))
    by_first None is = is
    by_first (Some bytes) is = omega (arith, is)

shape-of : (x : Timestamp) (v : List ℕ) (f k : ℕ) (list : List ℕ) → ((value_record x v f k list).f ≡ f) × ((value_record x v f k list).k ≡ k)
unfolding value_record
shape-of x v f k list = (refl, refl)

-- a pending read has too few valid answers
pending-answer : (inputs : List Cue) (v : Version) → version_of inputs ≡ Some v → read_reply inputs ≡ None → answer_for v.rec v.since ≡ None
unfolding read_reply version_of
pending-answer [] v is pending = absurd (none-some v is)
pending-answer (cue ∷ before) v is pending = ap answer_of (sym is) ∙ second (read_reply before) (answer_of (version_of (cue ∷ before))) pending
  where
    second : (a b : Option Reply) → option_or a b ≡ None → b ≡ None
    second None b e = e
    second (Some x) b e = absurd (none-some x (sym e))

few-picks : (r : RecordValue) (since : List Cue) → answer_for (Some r) since ≡ None → (is_tombstone r.kind ≡ false) × (r.k ≤ length (valid_picks r since) → ⊥)
unfolding answer_for
few-picks r since pending =
    elim (cases_bool (is_tombstone r.kind)) [
      | inl tomb ↦ absurd (none-some (told.Absent r.stamp) (sym (rw tomb at pending)))
      | inr value ↦ (value, λ enough. (let test : nat_le r.k (length (valid_picks r since)) ≡ true = le-leb r.k (length (valid_picks r since)) enough in absurd (none-some (told.Value _ r.stamp) (sym (rw (value, test) at pending)))))
    ]

as-get : (p : Params) (c o : ℕ) (key : List ℕ) (inputs : List Cue) → replied p.f p.k c o (asked.Get key) inputs ≡ read_reply inputs
unfolding replied
as-get p c o key inputs = refl

pending-read : (p : Params) (t : List Deed) (c o : ℕ) (s : Start) (key : List ℕ) → start_of c o t ≡ Some s → s.action ≡ asked.Get key → reply_of p c o t ≡ None → read_reply (inputs_of c o t) ≡ None
unfolding reply_of
pending-read p t c o s key began action pending =
    sym (as-get p c o key (inputs_of c o t)) ∙ (ap (λ (a : _). replied p.f p.k c o a (inputs_of c o t)) (sym action) ∙ (ap (reply_after p c o (inputs_of c o t)) (sym began) ∙ pending))

-- a pending read of the key
module _ (p : Params) (t : List Deed) (trace : IsTrace p t) (shape : IsShape p.f p.k) (c o : ℕ) (s : Start) (key : List ℕ) (began : start_of c o t ≡ Some s) (action : s.action ≡ asked.Get key) (w : Version) (version : version_of (inputs_of c o t) ≡ Some w) (r : RecordValue) (rec_is : w.rec ≡ Some r) where
  -- with the write that made its record
  module _ (b n : ℕ) (e : Option Timestamp) (v : List ℕ) (u : IsUpdating p b n key e r t) (value_is : change_value u.change ≡ Some v) (list : List ℕ) (record_is : r ≡ value_record r.stamp v p.f p.k list) where
    never-put : (reply : CloudReply) → reply.client ≡ c → reply.op ≡ o → (bytes : List ℕ) → IsPutting p reply.client reply.op reply.cloud reply.key reply.stamp bytes t → ⊥
    never-put reply client op bytes put =
        let same : start_of c o t ≡ Some put.start = ap (λ (x : ℕ). start_of x o t) (sym client) ∙ (ap (λ (x : ℕ). start_of reply.client x t) (sym op) ∙ put.began) in
        let one : put.start ≡ s = start-same c o t put.start s same began in
        let stores : value_of put.start.action ≡ Some put.value = ap value_of put.action_is ∙ (value_of-write reply.key put.change ∙ put.stores) in
        none-some put.value (sym (ap value_of (ap (λ (x : Start). x.action) one ∙ action)) ∙ stores)

    said-counts : (reply : CloudReply) → IsInput w.since (cues.Cloud reply) → reply.stamp ≡ r.stamp → reply.cloud < cloud_count p.f p.k → (say : CloudSay) → reply.say ≡ say → reply.client ≡ c → reply.op ≡ o → reply.key ≡ key → MeansSaid p t reply.client reply.op reply.cloud reply.key reply.stamp say → WasOld (served t) key r.stamp ⊎ (is_some (first_valid r reply.cloud w.since) ≡ true)
    said-counts reply input stamp_is within (Stored fresh) say_is client op key_is means = absurd (never-put reply client op means.0 means.1)
    said-counts reply input stamp_is within Conflict say_is client op key_is means = absurd (never-put reply client op means.0 means.1)
    said-counts reply input stamp_is within Missing say_is client op key_is means = inl (subst (λ (k : List ℕ). WasOld (served t) k r.stamp) key_is (subst (λ (x : Timestamp). WasOld (served t) reply.key x) stamp_is means))
    said-counts reply input stamp_is within Gone say_is client op key_is means = inl (subst (λ (k : List ℕ). WasOld (served t) k r.stamp) key_is (subst (λ (x : Timestamp). WasOld (served t) reply.key x) stamp_is means))
    said-counts reply input stamp_is within (Bad code) say_is client op key_is means = absurd means
    said-counts reply input stamp_is within (Body bytes) say_is client op key_is means =
        let put : IsPutting p means.0 means.1 reply.cloud key r.stamp bytes t = subst (λ (k : List ℕ). IsPutting p means.0 means.1 reply.cloud k r.stamp bytes t) key_is (subst (λ (x : Timestamp). IsPutting p means.0 means.1 reply.cloud reply.key x bytes t) stamp_is means.2) in
        let bytes_are : bytes ≡ fragment_of v p.k reply.cloud = own-fragment p t key e r trace b n v u value_is reply.cloud bytes (means.0, means.1, put) in
        let valid : is_valid_fragment r reply.cloud bytes ≡ true = ap (is_valid_fragment r reply.cloud) bytes_are ∙ (ap (λ (x : RecordValue). is_valid_fragment x reply.cloud (fragment_of v p.k reply.cloud)) record_is ∙ own-valid r.stamp v p.f p.k list reply.cloud shape within) in
        inr (first-counts r reply.cloud reply w.since input (body-counts r reply.cloud reply bytes refl stamp_is say_is valid))

    -- of an honest cloud of the list
    honest-counts : (cloud : ℕ) → cloud < cloud_count p.f p.k → p.is_liar cloud ≡ false → list_any (is_answer is_had r.stamp cloud) w.since ≡ true → WasOld (served t) key r.stamp ⊎ (is_some (first_valid r cloud w.since) ≡ true)
    unfolding addresses
    honest-counts cloud within honest given =
        let g = any-given r.stamp cloud w.since w.since (λ x i. i) given in
        let h = inputs-heard p c o (cues.Cloud g.reply) t trace (since-inputs (inputs_of c o t) w (cues.Cloud g.reply) version g.input) in
        let same : key_of h.start.action ≡ key = ap (λ (x : Start). key_of x.action) (start-same c o t h.start s h.began began) ∙ ap key_of action in
        let outer = both (g.reply.client == c && g.reply.op == o) (key_eq g.reply.key (key_of h.start.action)) h.own in
        let inner = both (g.reply.client == c) (g.reply.op == o) outer.0 in
        let key_is : g.reply.key ≡ key = key_eq-true g.reply.key (key_of h.start.action) outer.1 ∙ same in
        elim h.delivered [
          | inr other ↦ elim other [
            | inl liar ↦ absurd (true≢false (sym liar ∙ (ap p.is_liar g.cloud_is ∙ honest)))
            | inr lost ↦ absurd (true≢false (sym g.had ∙ lost))
          ]
          | inl sent ↦
              let means : MeansSaid p t g.reply.client g.reply.op g.reply.cloud g.reply.key g.reply.stamp g.reply.say = answers-hold p t trace shape (Answer g.reply) sent in
              let counts = said-counts g.reply g.input g.stamp_is (subst (λ (x : ℕ). x < cloud_count p.f p.k) (sym g.cloud_is) within) g.reply.say refl (eqb-true g.reply.client c inner.0) (eqb-true g.reply.op o inner.1) key_is means in
              subst (λ (x : ℕ). WasOld (served t) key r.stamp ⊎ (is_some (first_valid r x w.since) ≡ true)) g.cloud_is counts
        ]

    each-counts : (xs : List ℕ) → AllByRecursion (λ cloud. cloud < cloud_count p.f p.k) xs → AllByRecursion (λ cloud. p.is_liar cloud ≡ false → list_any (is_answer is_had r.stamp cloud) w.since ≡ true) xs → WasOld (served t) key r.stamp ⊎ AllByRecursion (λ cloud. not (p.is_liar cloud) ≡ true → is_some (first_valid r cloud w.since) ≡ true) xs
    each-counts [] low given = inr tt
    each-counts (cloud ∷ xs) low given =
        elim (each-counts xs low.1 given.1) [
          | inl old ↦ inl old
          | inr rest ↦ elim (cases_bool (p.is_liar cloud)) [
            | inl liar ↦ inr ((λ honest. absurd (false≢true (sym (ap not liar) ∙ honest))), rest)
            | inr honest ↦ elim (honest-counts cloud low.0 honest (given.0 honest)) [
              | inl old ↦ inl old
              | inr counts ↦ inr ((λ _honest. counts), rest)
            ]
          ]
        ]

  enough-picks : (x : Timestamp) (v list : List ℕ) → r ≡ value_record x v p.f p.k list → (test : ℕ → Bool) → HasLiars p p.f → p.f + p.k ≤ length (filter test (range_with_len 0 (cloud_count p.f p.k))) →
      AllByRecursion (λ cloud. not (p.is_liar cloud) ≡ true → is_some (first_valid r cloud w.since) ≡ true) (filter test (range_with_len 0 (cloud_count p.f p.k))) → r.k ≤ length (valid_picks r w.since)
  unfolding valid_picks
  enough-picks x v list record_is test liars enough counts =
      let n = cloud_count p.f p.k in
      let f_is : r.f ≡ p.f = ap (λ (y : RecordValue). y.f) record_is ∙ (shape-of x v p.f p.k list).0 in
      let k_is : r.k ≡ p.k = ap (λ (y : RecordValue). y.k) record_is ∙ (shape-of x v p.f p.k list).1 in
      let honest = enough-honest p.is_liar test p.f p.k n liars enough in
      let more = more-pass (λ cloud. not (p.is_liar cloud)) (λ cloud. is_some (first_valid r cloud w.since)) (filter test (range_with_len 0 n)) counts in
      let all = both-pass (λ cloud. is_some (first_valid r cloud w.since)) test (range_with_len 0 n) in
      let picks : length (valid_picks r w.since) ≡ length (filter (λ cloud. is_some (first_valid r cloud w.since)) (range_with_len 0 n)) =
      picks-counted (λ cloud. first_valid r cloud w.since) (range_with_len 0 (cloud_count r.f r.k)) ∙ ap (λ (y : ℕ). length (filter (λ cloud. is_some (first_valid r cloud w.since)) (range_with_len 0 y))) (ap (λ (y : ℕ). cloud_count y r.k) f_is ∙ ap (λ (y : ℕ). cloud_count p.f y) k_is) in
      omega (arith, honest, more, all, picks, k_is)

  pub superseded : HasLiars p p.f → reply_of p c o t ≡ None → IsStarved p r w.since → stamp_lt r.stamp (top t key) ≡ true
  superseded liars pending starved =
      let few = few-picks r w.since (ap (λ (x : Option RecordValue). answer_for x w.since) (sym rec_is) ∙ pending-answer (inputs_of c o t) w version (pending-read p t c o s key began action pending)) in
      let told_ = version-told (inputs_of c o t) w version in
      let h = inputs-heard p c o told_.cue t trace told_.input in
      let same : key_of h.start.action ≡ key = ap (λ (x : Start). key_of x.action) (start-same c o t h.start s h.began began) ∙ ap key_of action in
      let reading : IsReading c o key (Some r) t = subst (λ (k : List ℕ). IsReading c o k (Some r) t) same (told-reading p t c o (key_of h.start.action) told_.cue (Some r) (trace-holds p t trace) (told_.tells ∙ ap Some rec_is) h.own h.delivered) in
      let of = reading.written in
      let a = of.0 in
      let meant : IsUpdating p a.client a.op key a.expected a.rec t = by-means p t a a.client a.op key trace (trace-holds p t trace) (applied-tried (served t) a of.1) (refl, refl, of.2) in
      let u : IsUpdating p a.client a.op key a.expected r t = subst (λ (x : RecordValue). IsUpdating p a.client a.op key a.expected x t) of.3 meant in
      by_value a.client a.op a.expected u (change_value u.change) refl few
    where
      by_value : (b n : ℕ) (e : Option Timestamp) (u : IsUpdating p b n key e r t) (value : Option (List ℕ)) → change_value u.change ≡ value → (is_tombstone r.kind ≡ false) × (r.k ≤ length (valid_picks r w.since) → ⊥) → stamp_lt r.stamp (top t key) ≡ true
      by_value b n e u None value_is few =
          absurd (true≢false (sym (tomb-is r (subst (λ (v : Option (List ℕ)). IsRecordOf p v r) value_is (update-is p b n key (change_value u.change) (inputs_of b n t) r u.update))) ∙ few.0))
      by_value b n e u (Some v) value_is few =
          let q : IsQuorumRecord p v (inputs_of b n t) r = update-quorum p b n key v (inputs_of b n t) r (ap (λ (x : Option (List ℕ)). update_of (write_plan p.f p.k b n key x) (inputs_of b n t)) (sym value_is) ∙ u.update) in
          let listed : clouds_of r.clouds ≡ filter q.test (range_with_len 0 (cloud_count p.f p.k)) = listed-clouds p v (inputs_of b n t) r shape q ∙ q.chosen in
          let Given : List ℕ → Type 0 = λ xs. AllByRecursion (λ cloud. p.is_liar cloud ≡ false → list_any (is_answer is_had r.stamp cloud) w.since ≡ true) xs in
          let given : Given (filter q.test (range_with_len 0 (cloud_count p.f p.k))) = subst Given listed starved in
          let low : AllByRecursion (λ cloud. cloud < cloud_count p.f p.k) (filter q.test (range_with_len 0 (cloud_count p.f p.k))) = subst (λ (xs : List ℕ). AllByRecursion (λ cloud. cloud < cloud_count p.f p.k) xs) q.chosen (listed-low p v (inputs_of b n t) r q) in
          let enough : p.f + p.k ≤ length (filter q.test (range_with_len 0 (cloud_count p.f p.k))) = subst (λ (xs : List ℕ). p.f + p.k ≤ length xs) q.chosen q.enough in
          elim (each-counts b n e v u value_is q.list q.is (filter q.test (range_with_len 0 (cloud_count p.f p.k))) low given) [
            | inl old ↦ was-below (served t) key r.stamp old
            | inr counts ↦ absurd (few.1 (enough-picks r.stamp v q.list q.is q.test liars enough counts))
          ]
