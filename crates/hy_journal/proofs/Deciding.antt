-- What a service keeps follows from the kept requests alone.
use Rattle.std.proofs.Common.{◌≡◌, ℕ, Bool, List, [], ◌∷◌, Some, All, refl, ap}
use Rattle.std.specs.Prelude.{◌&&◌, ◌||◌, ◌==◌, nat_le, not, filter, take, None, if◌then◌else◌}
use Rattle.std.specs.List.{list_any}
use Rattle.std.proofs.lemmas.List.Elements.{All-head, All-tail}
use Rattle.hy_record.specs.declared.message.MetaAsk.{MetaAsk}
use Rattle.hy_record.specs.declared.message.MetaAsk.TheVariants as asks
use Rattle.hy_record.specs.declared.stamps.TheConstants.{MAX_STAMPS}
use Rattle.hy_record.specs.Stamp.{Timestamp}
use Rattle.hy_record.specs.Key.{key_eq}
use Rattle.hy_record.specs.declared.message.MetaSay.TheVariants as says
use Rattle.hy_meta.specs.Service.{Attempt, is_swap_since, is_judged, attempt_of, applies, record_by, record_after, record_stamp, stamp_of_record, outdated_by, has_stamp, is_old, known_by, known_stamps, old_list}
use Rattle.hy_meta.specs.Meta.{judged_answer, last_swap}
use Rattle.hy_meta.specs.Watches.{watches_of}
use Rattle.hy_journal.specs.declared.entry.Entry.{Entry}
use Rattle.hy_journal.specs.declared.entry.Entry.TheVariants.{Join, Ask}
use Rattle.hy_journal.specs.Entry.{is_kept, IsEntry}
use Rattle.hy_journal.specs.Fold.{kept_asks, asks_after, asks_of}

swaps_any : (served : List MetaAsk) (client op : ℕ)
    → list_any (is_swap_since client op) served ≡ list_any (is_swap_since client op) (kept_asks served)
unfolding kept_asks is_kept
swaps_any [] client op = refl
swaps_any (asks.Read c o k ∷ before) client op = swaps_any before client op
swaps_any (asks.Update c o k r ∷ before) client op = swaps_any before client op
swaps_any (asks.Watch c o k s ∷ before) client op = swaps_any before client op
swaps_any (asks.Olds c o k ∷ before) client op = swaps_any before client op
swaps_any (asks.Forget c o k stamps ∷ before) client op = swaps_any before client op
swaps_any (asks.Swap c o k expected r ∷ before) client op =
    ap (λ (b : Bool). (c == client && nat_le op o) || b) (swaps_any before client op)

judged_same : (served : List MetaAsk) (client op : ℕ) → is_judged served client op ≡ is_judged (kept_asks served) client op
unfolding is_judged
judged_same served client op = ap not (swaps_any served client op)

attempt_same : (served : List MetaAsk) (ask : MetaAsk) → attempt_of served ask ≡ attempt_of (kept_asks served) ask
attempt_same served (asks.Read c o k) = refl
attempt_same served (asks.Update c o k r) = refl
attempt_same served (asks.Watch c o k s) = refl
attempt_same served (asks.Olds c o k) = refl
attempt_same served (asks.Forget c o k stamps) = refl
attempt_same served (asks.Swap c o k expected r) =
    λ i. if judged_same served c o i then Some (record { client = c; op = o; key = k; rec = r; expected = Some expected }) else None

pub records : (served : List MetaAsk) (key : List ℕ) → record_after served key ≡ record_after (kept_asks served) key
unfolding kept_asks is_kept record_after
records [] key = refl
records (asks.Read c o k ∷ before) key = records before key
records (asks.Update c o k r ∷ before) key =
    λ i. record_by (attempt_same before (asks.Update c o k r) i) key (records before key i)
records (asks.Watch c o k s ∷ before) key = records before key
records (asks.Olds c o k ∷ before) key = records before key
records (asks.Forget c o k stamps ∷ before) key = records before key
records (asks.Swap c o k expected r ∷ before) key =
    λ i. record_by (attempt_same before (asks.Swap c o k expected r) i) key (records before key i)

pub olds : (served : List MetaAsk) (key : List ℕ) (stamp : Timestamp) → is_old served key stamp ≡ is_old (kept_asks served) key stamp
unfolding kept_asks is_kept is_old
olds [] key stamp = refl
olds (asks.Read c o k ∷ before) key stamp = olds before key stamp
olds (asks.Update c o k r ∷ before) key stamp =
    λ i. outdated_by (attempt_same before (asks.Update c o k r) i) key (records before key i) stamp || olds before key stamp i
olds (asks.Watch c o k s ∷ before) key stamp = olds before key stamp
olds (asks.Olds c o k ∷ before) key stamp = olds before key stamp
olds (asks.Forget c o k stamps ∷ before) key stamp =
    λ i. not (key_eq k key && has_stamp stamps stamp) && olds before key stamp i
olds (asks.Swap c o k expected r ∷ before) key stamp =
    λ i. outdated_by (attempt_same before (asks.Swap c o k expected r) i) key (records before key i) stamp || olds before key stamp i

stamps_known : (served : List MetaAsk) (key : List ℕ) → known_stamps served key ≡ known_stamps (kept_asks served) key
unfolding kept_asks is_kept known_stamps
stamps_known [] key = refl
stamps_known (asks.Read c o k ∷ before) key = stamps_known before key
stamps_known (asks.Update c o k r ∷ before) key =
    λ i. known_by (attempt_same before (asks.Update c o k r) i) key (stamps_known before key i)
stamps_known (asks.Watch c o k s ∷ before) key = stamps_known before key
stamps_known (asks.Olds c o k ∷ before) key = stamps_known before key
stamps_known (asks.Forget c o k stamps ∷ before) key = stamps_known before key
stamps_known (asks.Swap c o k expected r ∷ before) key =
    λ i. known_by (attempt_same before (asks.Swap c o k expected r) i) key (stamps_known before key i)

pub lists : (served : List MetaAsk) (key : List ℕ) → old_list served key ≡ old_list (kept_asks served) key
unfolding old_list
lists served key = λ i. take MAX_STAMPS (filter (λ stamp. olds served key stamp i) (stamps_known served key i))

answer_same : (served : List MetaAsk) (a : Attempt) → judged_answer served a ≡ judged_answer (kept_asks served) a
unfolding judged_answer record_stamp
answer_same served a = λ i.
    if applies (records served a.key i) a
    then says.Swapped a.client a.op a.key a.rec.stamp
    else says.Changed a.client a.op a.key (stamp_of_record (records served a.key i))

pub verdicts : (served : List MetaAsk) (client : ℕ) → last_swap served client ≡ last_swap (kept_asks served) client
unfolding kept_asks is_kept last_swap
verdicts [] client = refl
verdicts (asks.Read c o k ∷ before) client = verdicts before client
verdicts (asks.Update c o k r ∷ before) client = verdicts before client
verdicts (asks.Watch c o k s ∷ before) client = verdicts before client
verdicts (asks.Olds c o k ∷ before) client = verdicts before client
verdicts (asks.Forget c o k stamps ∷ before) client = verdicts before client
verdicts (asks.Swap c o k expected r ∷ before) client =
    let a : Attempt = record { client = c; op = o; key = k; rec = r; expected = Some expected } in
    λ i. if c == client && judged_same before c o i
    then Some (record { op = o; say = answer_same before a i })
    else verdicts before client i

no_watch : (before : List MetaAsk) (entries : List Entry) → All IsEntry entries → watches_of before ≡ [] → watches_of (asks_after before entries) ≡ []
unfolding asks_after watches_of IsEntry is_kept
no_watch before [] each none = none
no_watch before (Join ∷ entries) each none = no_watch before entries (All-tail IsEntry Join entries each) none
no_watch before (Ask (asks.Read client op k) ∷ entries) each none = no_watch (asks.Read client op k ∷ before) entries
    (All-tail IsEntry (Ask (asks.Read client op k)) entries each) none
no_watch before (Ask (asks.Update client op k r) ∷ entries) each none = no_watch (asks.Update client op k r ∷ before) entries
    (All-tail IsEntry (Ask (asks.Update client op k r)) entries each) none
no_watch before (Ask (asks.Watch client op k s) ∷ entries) each none = absurd
    (let no = (All-head IsEntry (Ask (asks.Watch client op k s)) entries each).0 in cc)
no_watch before (Ask (asks.Olds client op k) ∷ entries) each none = no_watch (asks.Olds client op k ∷ before) entries
    (All-tail IsEntry (Ask (asks.Olds client op k)) entries each) none
no_watch before (Ask (asks.Forget client op k stamps) ∷ entries) each none = no_watch (asks.Forget client op k stamps ∷ before) entries
    (All-tail IsEntry (Ask (asks.Forget client op k stamps)) entries each) none
no_watch before (Ask (asks.Swap client op k expected r) ∷ entries) each none =
    no_watch (asks.Swap client op k expected r ∷ before) entries (All-tail IsEntry (Ask (asks.Swap client op k expected r)) entries each) none

pub no_watches : (entries : List Entry) → All IsEntry entries → watches_of (asks_of entries) ≡ []
unfolding watches_of
no_watches entries each = no_watch [] entries each refl
