-- What every metadata service does: its answers, and what it stands for, follow from the requests that it served.
use Rattle.std.specs.Prelude.{◌≡◌, ℕ, Bool, true, nat_lt, ◌&&◌, ◌==◌, List, [], ◌∷◌, map, Option, Some, None, Result, IfOk, MatchResult, if◌then◌else◌}
use Rattle.std.specs.Global.{Vec}
use Rattle.hy_base.specs.declared.failure.NoMemory.{NoMemory}
use Rattle.hy_record.specs.declared.message.MetaAsk.{MetaAsk}
use Rattle.hy_record.specs.declared.message.MetaAsk.TheVariants as asks
use Rattle.hy_record.specs.declared.message.MetaSay.{MetaSay}
use Rattle.hy_record.specs.declared.message.MetaSay.TheVariants as says
use Rattle.hy_record.specs.Stamp.{Timestamp, stamp_lt}
use Rattle.hy_record.specs.Record.{RecordValue}
use Rattle.hy_meta.specs.declared.watcher.Watcher.{Watcher}
use Rattle.hy_meta.specs.Service.{Attempt, is_judged, applies, record_after, record_stamp, is_old, old_list}
use Rattle.hy_meta.specs.Watches.{fired_watches, waiting_watches, watches_on, fired}

-- what a swap is answered that is judged: what it made the record, or the record that it left
unfoldable pub judged_answer : List MetaAsk → Attempt → MetaSay
judged_answer before a =
    if applies (record_after before a.key) a
    then says.Swapped a.client a.op a.key a.rec.stamp
    else says.Changed a.client a.op a.key (record_stamp before a.key)

-- a swap that was judged: the operation that asked, and what it was answered
pub record Judged : Type 0 where
  pub op : ℕ
  pub say : MetaSay

-- the last swap of the client that was judged, where that is the one of this request or one before it
abbrev pub last_by : MetaAsk → List MetaAsk → ℕ → Option Judged → Option Judged
last_by (asks.Swap c o k expected r) before client last =
    if c == client && is_judged before c o
    then Some (record { op = o; say = judged_answer before (record { client = c; op = o; key = k; rec = r; expected = Some expected }) })
    else last
last_by (asks.Read c o k) before client last = last
last_by (asks.Update c o k r) before client last = last
last_by (asks.Watch c o k stamp) before client last = last
last_by (asks.Olds c o k) before client last = last
last_by (asks.Forget c o k stamps) before client last = last

-- the last swap of the client that was judged
unfoldable pub last_swap : List MetaAsk → ℕ → Option Judged
last_swap [] client = None
last_swap (ask ∷ before) client = last_by ask before client (last_swap before client)

-- an operation is newer than the last swap of its client that was judged
abbrev pub is_after_last : ℕ → Option Judged → Bool
is_after_last op None = true
is_after_last op (Some last) = nat_lt last.op op

-- what a swap is answered that is not judged: the same again where it is the last one; nothing where a later one was judged
abbrev pub repeated_answer : Option Judged → ℕ → List MetaSay
repeated_answer None op = []
repeated_answer (Some last) op = if last.op == op then last.say ∷ [] else []

-- the watches that an attempt over this record fires
abbrev pub fired_by : List MetaAsk → Attempt → List MetaSay
fired_by before a = if applies (record_after before a.key) a then map fired (fired_watches before a.key a.rec.stamp) else []

-- what the service answers to a request, after those that it served
unfoldable pub service_answers : List MetaAsk → MetaAsk → List MetaSay
service_answers before (asks.Read client op key) = says.Has client op key (record_after before key) ∷ []
service_answers before (asks.Update client op key r) =
    if stamp_lt (record_stamp before key) r.stamp
    then says.Applied client op key r.stamp ∷ map fired (fired_watches before key r.stamp)
    else says.Kept client op key (record_stamp before key) ∷ []
service_answers before (asks.Watch client op key stamp) =
    if stamp_lt stamp (record_stamp before key) then says.Fired client op key stamp ∷ [] else []
service_answers before (asks.Olds client op key) = says.OldList client op key (old_list before key) ∷ []
service_answers before (asks.Forget client op key stamps) = says.Forgot client op key ∷ []
service_answers before (asks.Swap client op key expected r) =
    if is_judged before client op
    then judged_answer before (record { client = client; op = op; key = key; rec = r; expected = Some expected })
    ∷ fired_by before (record { client = client; op = op; key = key; rec = r; expected = Some expected })
    else repeated_answer (last_swap before client) op

-- the parts of a service, each seen as a function of what it is asked for, are those after these requests
pub record StandsFor (record_at : List ℕ → Option RecordValue)
    (lists : List ℕ → Timestamp → Bool)
    (waiting : List ℕ → List Watcher)
    (served : List MetaAsk) : Type 0 where
  pub records : (key : List ℕ) → record_at key ≡ record_after served key
  pub olds : (key : List ℕ) (stamp : Timestamp) → lists key stamp ≡ is_old served key stamp
  pub watches : (key : List ℕ) → waiting key ≡ watches_on key (waiting_watches served)

-- what was answered is what the definition gives, after any requests that the service stood for
abbrev pub Says : (List MetaAsk → Type 0) → MetaAsk → Result (Vec MetaSay) NoMemory → Type 0
Says stood_for ask result =
    IfOk result (λ sent. (before : List MetaAsk) → stood_for before → sent.items ≡ service_answers before ask)

-- the service stands for one request more; after want of memory for those that it stood for
abbrev pub GoesOn : (List MetaAsk → Type 0)
    → (List MetaAsk → Type 0)
    → MetaAsk
    → Result (Vec MetaSay) NoMemory
    → Type 0
GoesOn stood_for stands_for ask result =
    MatchResult result (λ _. (before : List MetaAsk) → stood_for before → stands_for (ask ∷ before))
    (λ _. (before : List MetaAsk) → stood_for before → stands_for before)
