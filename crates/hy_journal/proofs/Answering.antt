-- What is answered to a request.
use Rattle.std.proofs.Common.{◌≡◌, inl, inr, ℕ, ◌+◌, ◌-◌, ◌^◌, ◌<◌, ◌≤◌, min, true, false, List, [], ◌∷◌, ◌++◌, length, All, map, refl, sym, ◌∙◌, ap, subst, arith}
use Rattle.std.specs.Prelude.{nat_lt, Result, Ok, Err, Bool, if◌then◌else◌}
use Rattle.std.proofs.lemmas.Bool.{cases_lt, cond-true, cond-false, le-ltb, lt-ltb}
use Rattle.std.proofs.lemmas.List.{append-nil}
use Rattle.std.proofs.lemmas.List.Elements.{All-nil, All-cons}
use Rattle.hy_base.specs.declared.limits.TheConstants.{MAX_INPUT, MAX_SESSIONS}
use Rattle.hy_record.specs.declared.message.MetaAsk.{MetaAsk}
use Rattle.hy_record.specs.declared.message.MetaAsk.TheVariants as asks
use Rattle.hy_record.specs.declared.message.MetaSay.{MetaSay}
use Rattle.hy_record.specs.declared.message.MetaSay.TheVariants as says
use Rattle.hy_meta.specs.declared.meta.SessionsFull.{SessionsFull}
use Rattle.hy_meta.specs.declared.watcher.Watcher.{Watcher}
use Rattle.hy_meta.specs.Service.{record_after, record_stamp, old_list}
use Rattle.hy_meta.specs.Watches.{fired_watches, fired}
use Rattle.hy_meta.specs.Meta.{service_answers}
use Rattle.hy_meta.specs.Sessions.{next_session}
use Rattle.hy_mwire.specs.declared.message.Message.{Message}
use Rattle.hy_mwire.specs.declared.message.Message.TheVariants as messages
use Rattle.hy_mwire.specs.Message.{IsAsk, IsFramedSay}
use Rattle.hy_mwire.specs.Frames.{frame_of, frames_of}
use Rattle.hy_disk.specs.Laws.{reach_same}
use Rattle.hy_disk.specs.MemDisk.{DiskValue}
use Rattle.hy_journal.specs.declared.entry.Entry.{Entry}
use Rattle.hy_journal.specs.declared.entry.Entry.TheVariants.{Join, Ask}
use Rattle.hy_journal.specs.declared.keeper.Keeper.{Keeper}
use Rattle.hy_journal.specs.declared.fault.KeepFault.{KeepFault}
use Rattle.hy_journal.specs.declared.fault.KeepFault.TheVariants as keep_faults
use Rattle.hy_journal.specs.Entry.{is_kept}
use Rattle.hy_journal.specs.Fold.{sessions_of, entries_of}
use Rattle.hy_journal.specs.Keeper.{Stands, calls_with, disk_of}
use Rattle.hy_journal.specs.Kept.{session_says, added, served_with, says_of}
use Rattle.hy_journal.specs.Playing.{file_of, files_of, Place, IsAt, GoesTo}
use Rattle.hy_journal.proofs.Weighing.{Weighs, weighs_ask}
use Rattle.hy_journal.proofs.Keeping.{calls_for, goes_answered}

-- ---- a join

pub session_left : (given : ℕ) → (MAX_SESSIONS ≤ given → ⊥) → given < MAX_SESSIONS
session_left given none = elim (cases_lt given MAX_SESSIONS) [
  | inl left ↦ left
  | inr full ↦ absurd (none full)
]

pub adds_join : (entries : List Entry) → sessions_of entries < MAX_SESSIONS → added entries messages.Join ≡ Join ∷ []
adds_join entries left = cond-true (nat_lt (sessions_of entries) MAX_SESSIONS) (Join ∷ []) [] (lt-ltb (sessions_of entries) MAX_SESSIONS left)

pub adds_none : (entries : List Entry) → MAX_SESSIONS ≤ sessions_of entries → added entries messages.Join ≡ []
adds_none entries full = cond-false (nat_lt (sessions_of entries) MAX_SESSIONS) (Join ∷ []) [] (le-ltb (sessions_of entries) MAX_SESSIONS full)

pub says_id : (entries : List Entry) (served : List MetaAsk) (id : ℕ) → next_session (sessions_of entries) ≡ Ok id
    → frames_of (says_of entries served messages.Join) ≡ frame_of (messages.Joined id)
says_id entries served id is = ap (λ (r : Result ℕ SessionsFull). frames_of (session_says r)) is ∙ append-nil (frame_of (messages.Joined id))

pub says_full : (entries : List Entry) (served : List MetaAsk) → MAX_SESSIONS ≤ sessions_of entries
    → frames_of (says_of entries served messages.Join) ≡ frame_of messages.Full
says_full entries served full =
    let is : next_session (sessions_of entries) ≡ Err (record {}) =
    cond-false (nat_lt (sessions_of entries) MAX_SESSIONS) (Ok (sessions_of entries + 1)) (Err (record {}))
    (le-ltb (sessions_of entries) MAX_SESSIONS full) in
    ap (λ (r : Result ℕ SessionsFull). frames_of (session_says r)) is ∙ append-nil (frame_of messages.Full)

pub id_left : (entries : List Entry) (id : ℕ) → next_session (sessions_of entries) ≡ Ok id → sessions_of entries < MAX_SESSIONS
id_left entries id is = session_left (sessions_of entries) (λ full.
    let no : next_session (sessions_of entries) ≡ Err (record {}) =
    cond-false (nat_lt (sessions_of entries) MAX_SESSIONS) (Ok (sessions_of entries + 1)) (Err (record {}))
    (le-ltb (sessions_of entries) MAX_SESSIONS full) in
    let clash = sym no ∙ is in
    cc)

pub id_some : (entries : List Entry) (id : ℕ) → next_session (sessions_of entries) ≡ Ok id → 0 < id
id_some entries id is =
    let left = id_left entries id is in
    let next : next_session (sessions_of entries) ≡ Ok (sessions_of entries + 1) =
    cond-true (nat_lt (sessions_of entries) MAX_SESSIONS) (Ok (sessions_of entries + 1)) (Err (record {}))
    (lt-ltb (sessions_of entries) MAX_SESSIONS left) in
    let both : Ok (sessions_of entries + 1) ≡ Ok id = sym next ∙ is in
    let same : sessions_of entries + 1 ≡ id = cc in
    omega (arith, same)

-- a call answers one fault
pub not_both : {T : Type 0} (result : Result T KeepFault) (seen : KeepFault) → result ≡ Err seen → seen ≡ keep_faults.DiskFault
    → result ≡ Err keep_faults.SessionsFull → ⊥
not_both result seen is disk full =
    let same : Err seen ≡ Err keep_faults.SessionsFull = sym is ∙ full in
    let clash : seen ≡ keep_faults.SessionsFull = cc in
    let no : keep_faults.DiskFault ≡ keep_faults.SessionsFull = sym disk ∙ clash in
    cc

pub not_both_full : {T : Type 0} (result : Result T KeepFault) (seen : KeepFault) (end : ℕ) → result ≡ Err seen → seen ≡ keep_faults.Full end
    → result ≡ Err keep_faults.SessionsFull → ⊥
not_both_full result seen end is disk full =
    let same : Err seen ≡ Err keep_faults.SessionsFull = sym is ∙ full in
    let clash : seen ≡ keep_faults.SessionsFull = cc in
    let no : keep_faults.Full end ≡ keep_faults.SessionsFull = sym disk ∙ clash in
    cc

-- a request that left all as it was
pub goes_same : (place : Place) (request : Message) (old new : Keeper DiskValue) (before output : List ℕ)
    → added place.entries request ≡ [] → served_with place.served request ≡ place.served → IsAt place old
    → place.bytes + length (frame_of request) ≤ MAX_INPUT → new ≡ old
    → output ≡ before ++ frames_of (says_of place.entries place.served request)
    → GoesTo place old new request before output
goes_same place request old new before output is served at fits same told =
    subst (λ (k : Keeper DiskValue). GoesTo place old k request before output) (sym same)
    (goes_answered place request old old [] before output is at fits tt
    (subst (λ (l : List Entry). Stands file_of files_of old l (served_with place.served request)) (sym (append-nil place.entries))
    (subst (λ (l : List MetaAsk). Stands file_of files_of old place.entries l) (sym served) at.stands))
    (reach_same (disk_of old)) refl refl told)

-- ---- a request that the service answers

pub one_framed : (say : MetaSay) → IsFramedSay say → All IsFramedSay (say ∷ [])
one_framed say framed = All-cons IsFramedSay say [] framed (All-nil IsFramedSay)

pub fired_framed : (watches : List Watcher) → All IsFramedSay (map fired watches)
fired_framed [] = All-nil IsFramedSay
fired_framed (w ∷ watches) = All-cons IsFramedSay (fired w) (map fired watches) tt (fired_framed watches)

pub choice_framed : (b : Bool) (these those : List MetaSay) → All IsFramedSay these → All IsFramedSay those → All IsFramedSay (if b then these else those)
choice_framed true these those these_are those_are = these_are
choice_framed false these those these_are those_are = those_are

-- a frame carries what is answered to what a frame carries
pub answers_framed : (before : List MetaAsk) (ask : MetaAsk) → IsAsk ask → All IsFramedSay (service_answers before ask)
unfolding service_answers
answers_framed before (asks.Read client op key) known = one_framed (says.Has client op key (record_after before key)) tt
answers_framed before (asks.Update client op key r) known =
    let told = map fired (fired_watches before key r.stamp) in
    choice_framed _ (says.Applied client op key r.stamp ∷ told) (says.Kept client op key (record_stamp before key) ∷ [])
    (All-cons IsFramedSay (says.Applied client op key r.stamp) told tt (fired_framed (fired_watches before key r.stamp)))
    (one_framed (says.Kept client op key (record_stamp before key)) tt)
answers_framed before (asks.Watch client op key stamp) known =
    choice_framed _ (says.Fired client op key stamp ∷ []) [] (one_framed (says.Fired client op key stamp) tt) (All-nil IsFramedSay)
answers_framed before (asks.Olds client op key) known = one_framed (says.OldList client op key (old_list before key)) tt
answers_framed before (asks.Forget client op key stamps) known = one_framed (says.Forgot client op key) tt
answers_framed before (asks.Swap client op key expected r) known = absurd known

pub by_kept : (b : Bool) (ask : MetaAsk) (entries : List Entry) → is_kept ask ≡ b → IsAsk ask
    → Weighs entries (messages.Ask ask) (if b then Ask ask ∷ [] else [])
by_kept true ask entries kept known = weighs_ask entries ask known kept
by_kept false ask entries kept known = tt

pub weighs_served : (entries : List Entry) (ask : MetaAsk) → IsAsk ask → Weighs entries (messages.Ask ask) (entries_of ask)
weighs_served entries ask known = by_kept (is_kept ask) ask entries refl known

pub calls_by : (b : Bool) (ask : MetaAsk) (count : ℕ) → (if b then min (count + 4) (2 ^ 64 - 1) else count) ≡ calls_for (if b then Ask ask ∷ [] else []) count
calls_by true ask count = refl
calls_by false ask count = refl

pub calls_served : (ask : MetaAsk) (count : ℕ) → calls_with ask count ≡ calls_for (entries_of ask) count
calls_served ask count = calls_by (is_kept ask) ask count
