-- What a request weighs, and that the room suffices for it.
use Rattle.std.proofs.Common.{◌≡◌, ℕ, ◌+◌, ◌-◌, ◌*◌, ◌/◌, ◌^◌, ◌<◌, ◌≤◌, true, List, [], ◌∷◌, ◌++◌, length, Contains, refl, sym, ◌∙◌, ap, subst, arith, length-append}
use Rattle.std.specs.Prelude.{IsTrue}
use Rattle.std.proofs.lemmas.Bool.Decides.{nat_tests}
use Rattle.std.proofs.lemmas.List.Elements.{All-nil, All-cons, All-contains, Contains-get_or}
use Rattle.byteorder.specs.Endian.{big_bytes}
use Rattle.hy_base.specs.Faults.{Rose}
use Rattle.hy_base.specs.declared.limits.TheConstants.{MAX_INPUT, MAX_SESSIONS}
use Rattle.hy_record.specs.Key.{is_key}
use Rattle.hy_record.specs.Record.{RecordValue}
use Rattle.hy_record.specs.Spelling.{record_bytes, stamp_bytes, value_bytes}
use Rattle.hy_record.specs.declared.message.MetaAsk.{MetaAsk}
use Rattle.hy_record.specs.declared.message.MetaAsk.TheVariants as asks
use Rattle.hy_meta.specs.Sessions.{sessions_after}
use Rattle.hy_mwire.specs.declared.message.Message.{Message}
use Rattle.hy_mwire.specs.declared.message.Message.TheVariants as messages
use Rattle.hy_mwire.specs.Message.{IsAsk}
use Rattle.hy_mwire.specs.Frames.{stamps_bytes, frame_of}
use Rattle.hy_disk.specs.MemDisk.{DiskValue, Suffices, AreSmall, FailsWithin}
use Rattle.hy_journal.specs.declared.entry.Entry.{Entry}
use Rattle.hy_journal.specs.declared.entry.Entry.TheVariants.{Join, Ask}
use Rattle.hy_journal.specs.Entry.{is_kept, entry_bytes}
use Rattle.hy_journal.specs.Fold.{sessions_of, sessions_after_all}
use Rattle.hy_journal.specs.Keeper.{end_with}
use Rattle.hy_journal.specs.Playing.{Place, IsUsed, IsFew}
use Rattle.hy_journal.proofs.Folding.{sessions-push}
use Rattle.hy_journal.proofs.Adding.{session_more}

-- ---- the number of the call that fails

pub is_stop : (stop n : ℕ) → Contains (stop ∷ []) n → n ≡ stop
is_stop stop n is = All-contains (λ (m : ℕ). m ≡ stop) (stop ∷ []) n (All-cons (λ (m : ℕ). m ≡ stop) stop [] refl (All-nil (λ (m : ℕ). m ≡ stop))) is

pub small_stop : (failing : List ℕ) (stop : ℕ) → failing ≡ stop ∷ [] → stop < 2 ^ 32 → AreSmall failing
small_stop failing stop is small =
    subst AreSmall (sym is) (All-cons (λ (n : ℕ). n < 2 ^ 64 - 1) stop [] (omega arith) (All-nil (λ (n : ℕ). n < 2 ^ 64 - 1)))

pub stop_within : (failing : List ℕ) (stop from to : ℕ) → failing ≡ stop ∷ [] → FailsWithin failing from to → (from < stop) × (stop ≤ to)
stop_within failing stop from to is within =
    let one = is_stop stop within.0 (subst (λ (l : List ℕ). Contains l within.0) is within.1) in
    let above = within.2 in
    let below = within.3 in
    (omega (arith, one), omega (arith, one))

pub within_stop : (failing : List ℕ) (stop from to : ℕ) → failing ≡ stop ∷ [] → from < stop → stop ≤ to → FailsWithin failing from to
within_stop failing stop from to is above below =
    (stop, subst (λ (l : List ℕ). Contains l stop) (sym is) (Contains-get_or (stop ∷ []) 0 0 (omega arith)), above, below)

pub not_risen : (a b : ℕ) → b ≡ a → a ≤ 4 → Rose a b → ⊥
not_risen a b same few rose = omega arith

-- ---- what a request weighs

-- of the requests that add one entry
pub record Weight (entries : List Entry) (request : Message) (entry : Entry) : Type 0 where
  pub bytes : length (entry_bytes entry) ≤ length (frame_of request)
  pub some : 5 ≤ length (frame_of request)
  pub paid : 17 + 12 * sessions_of entries ≤ length (frame_of request) + 12 * sessions_of (entries ++ entry ∷ [])

abbrev pub Weighs : List Entry → Message → List Entry → Type 0
Weighs entries request [] = Unit {0}
Weighs entries request (entry ∷ []) = Weight entries request entry
Weighs entries request (entry ∷ next ∷ more) = ⊥

pub frame_size : (request : Message) (fields : List ℕ) (kind : ℕ) → frame_of request ≡ big_bytes 4 (length (kind ∷ fields)) ++ (kind ∷ fields)
    → length (frame_of request) ≡ 5 + length fields
frame_size request fields kind is = ap (length {A = ℕ}) is ∙ omega arith

pub join_size : length (frame_of messages.Join) ≡ 5
unfolding frame_of
join_size = refl

pub key_some : (key : List ℕ) → IsTrue (is_key key) → 1 ≤ length key
key_some key spelled = grind (arith, nat_tests)

pub record_some : (rec : RecordValue) → 10 ≤ length (record_bytes rec)
record_some rec = omega (arith, length-append (stamp_bytes rec.stamp) (value_bytes rec.kind rec))

pub kept_size : (ask : MetaAsk) → IsAsk ask → is_kept ask ≡ true → 17 ≤ length (frame_of (messages.Ask ask))
unfolding frame_of is_kept
kept_size (asks.Read client op key) known kept = absurd (cc)
kept_size (asks.Update client op key rec) known kept =
    omega (arith, length-append key (record_bytes rec), record_some rec, key_some key known.0.spelled)
kept_size (asks.Watch client op key stamp) known kept = absurd (cc)
kept_size (asks.Olds client op key) known kept = absurd (cc)
kept_size (asks.Forget client op key stamps) known kept = omega (arith, length-append key (stamps_bytes stamps), key_some key known.0.spelled)
kept_size (asks.Swap client op key expected rec) known kept = absurd known

pub ask_bytes_are : (ask : MetaAsk) → IsAsk ask → entry_bytes (Ask ask) ≡ frame_of (messages.Ask ask)
unfolding entry_bytes
ask_bytes_are (asks.Read client op key) known = refl
ask_bytes_are (asks.Update client op key rec) known = refl
ask_bytes_are (asks.Watch client op key stamp) known = refl
ask_bytes_are (asks.Olds client op key) known = refl
ask_bytes_are (asks.Forget client op key stamps) known = refl
ask_bytes_are (asks.Swap client op key expected rec) known = absurd known

pub weighs_join : (entries : List Entry) → sessions_of entries < MAX_SESSIONS → Weighs entries messages.Join (Join ∷ [])
unfolding entry_bytes
weighs_join entries left =
    let next = sessions-push 0 entries Join ∙ sym (session_more (sessions_of entries) left) in
    record { bytes = omega arith; some = omega (arith, join_size); paid = omega (arith, join_size, next) }

pub weighs_ask : (entries : List Entry) (ask : MetaAsk) → IsAsk ask → is_kept ask ≡ true → Weighs entries (messages.Ask ask) (Ask ask ∷ [])
weighs_ask entries ask known kept =
    let size = kept_size ask known kept in
    record {
      bytes = omega (arith, ap (length {A = ℕ}) (ask_bytes_are ask known));
      some = omega (arith, size);
      paid = omega (arith, size, sessions-push 0 entries (Ask ask));
    }

pub few_after : (given : ℕ) → given ≤ MAX_SESSIONS → sessions_after given ≤ MAX_SESSIONS
few_after given few = grind (arith, nat_tests)

pub few_from : (given : ℕ) (entries : List Entry) → given ≤ MAX_SESSIONS → sessions_after_all given entries ≤ MAX_SESSIONS
unfolding sessions_after_all
few_from given [] few = few
few_from given (Join ∷ entries) few = few_from (sessions_after given) entries (few_after given few)
few_from given (Ask ask ∷ entries) few = few_from given entries few

pub few_sessions : (entries : List Entry) → sessions_of entries ≤ MAX_SESSIONS
few_sessions entries = few_from 0 entries (omega arith)

-- ---- the room

pub room_for : (place : Place) (disk : DiskValue) (request : Message) (entry : Entry) → IsUsed place disk → IsFew place
    → Weight place.entries request entry → place.bytes + length (frame_of request) ≤ MAX_INPUT
    → Suffices disk 4 (length (entry_bytes entry) + 2) (end_with place.entries (entry_bytes entry))
room_for place disk request entry used few weight fits =
    let eighth = ap (λ (n : ℕ). n / 8) used.room in
    let sessions = few_sessions place.entries in
    record {
      file = omega (arith, used.room, few.file, few.five, weight.bytes, fits);
      written = omega (arith, used.room, used.written, used.once, few.five, weight.bytes, fits);
      marks = omega (arith, eighth, used.steps, used.once, few.many, sessions, fits);
    }
