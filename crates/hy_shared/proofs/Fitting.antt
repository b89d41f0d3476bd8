-- An event of a session fits every log of which the session has seen a beginning.
use Rattle.std.proofs.Common.{◌≡◌, ℕ, ◌+◌, ◌-◌, ◌*◌, ◌/◌, ◌<◌, ◌≤◌, Bool, true, List, Option, Some, None, is_some, refl, sym, ap, ◌∙◌, subst, inl, inr, arith, eq-eqb, true≢false}
use Rattle.std.specs.Prelude.{◌⊎◌}
use Rattle.std.specs.Option.{option_map}
use Rattle.std.specs.List.{AllByRecursion}
use Rattle.std.proofs.lemmas.Option.{none-some, same_Some}
use Rattle.std.proofs.lemmas.Nat.{div-mul-add, same_from_place}
use Rattle.hy_record.specs.Stamp.{Timestamp, stamp_lt, next_stamp}
use Rattle.hy_points.specs.declared.point.ActKind.{ActKind}
use Rattle.hy_points.specs.declared.point.ActKind.TheVariants.{Put, Get, Delete, Swap}
use Rattle.hy_points.specs.declared.point.Point.TheVariants as point
use Rattle.hy_points.specs.declared.telling.Asking.{Asking}
use Rattle.hy_points.specs.declared.telling.Setting.{Setting}
use Rattle.hy_record.specs.declared.action.Reply.{Reply}
use Rattle.hy_record.specs.declared.action.Reply.TheVariants as reply
use Rattle.hy_points.specs.Lookups.{Beginning, asking_at, beginning, asking, last_asking, setting, ending}
use Rattle.hy_points.specs.Atomic.{IsAtomicLog, Fits, FitsBegin, FitsAsk, FitsSet, FitsEnd, MayEnd, logged_stamp, writes}
use Rattle.hy_points.specs.Atomic as atomic
use Rattle.hy_points.proofs.Places.{begun-there, first-upto}
use Rattle.hy_points.proofs.RunLog.{of-map, map-at}
use Rattle.hy_shared.specs.declared.layout.Layout.{Layout}
use Rattle.hy_shared.specs.declared.running.Running.{Running}
use Rattle.hy_shared.specs.declared.event.Event.{Event}
use Rattle.hy_shared.specs.declared.event.Event.TheVariants.{Begin, Ask, Set, End}
use Rattle.hy_shared.specs.declared.view.View.{View}
use Rattle.hy_shared.specs.Layout.{client_of, row_of}
use Rattle.hy_shared.specs.Events.{point_of, points_of, key_name}
use Rattle.hy_shared.specs.Rule.{IsWithin, IsOther, IsSeen}
use Rattle.hy_shared.specs.Sessions.{IsRunning, IsSession, HasRead, MayReply}
use Rattle.hy_shared.proofs.Lists.{all-at}
use Rattle.hy_shared.proofs.LogMore.{none-tried, beginning-stays, asking-stays, last-asking-stays, setting-stays, ending-stays}

-- the rows of a client are its own
pub row-owner : (z : Layout) (client i : ℕ) → 1 ≤ client → i < z.ops → client_of z (row_of z client i) ≡ client
row-owner z client i some_ less = let e : ((client - 1) * z.ops + i) / z.ops ≡ client - 1 = div-mul-add (client - 1) z.ops i less in omega (arith, e, some_)

-- different operations have different rows
pub rows-apart : (z : Layout) (client i j : ℕ) → i < z.ops → j < z.ops → row_of z client i ≡ row_of z client j → i ≡ j
rows-apart z client i j less less' same = (same_from_place (client - 1) i (client - 1) j z.ops less less' same).1

-- an operation that a log begins is that of its row's client
pub owner-begun : (z : Layout) (n : ℕ) (log : List Event) → AllByRecursion (IsWithin z n) log → (op : ℕ) (b : Beginning) → beginning (points_of log) op ≡ Some b → client_of z op ≡ b.client
owner-begun z n log within op b is =
    let there = of-map point_of log b.place (point.Begin op b.client b.key b.act) (begun-there (points_of log) op b is) in
    by_event there.0 there.2 (all-at (IsWithin z n) log b.place there.0 within there.1)
  where
    by_event : (e : Event) → point_of e ≡ point.Begin op b.client b.key b.act → IsWithin z n e → client_of z op ≡ b.client
    by_event (Begin row client key act) same made =
        let r : row ≡ op = cc in let c : client ≡ b.client = cc in ap (client_of z) (sym r) ∙ sym made.made.0 ∙ c
    by_event (Ask row found) same made = absurd cc
    by_event (Set row key stamp applied words) same made = absurd cc
    by_event (End row stamp) same made = absurd cc

module _ (z : Layout) (client begun : ℕ) (running : Option Running) (v : View) (session : IsSession z client begun running v.seen) (number : v.number ≡ client)
    (log : List Event) (within : AllByRecursion (IsWithin z z.clients) log) (seen : IsSeen z log v) where
  others : AllByRecursion (IsOther z client) seen.rest
  others = subst (λ c. AllByRecursion (IsOther z c) seen.rest) number seen.others

  -- the client's operations are in the log as the session has seen them
  pub same-beginning : (op : ℕ) → client_of z op ≡ client → beginning (points_of log) op ≡ beginning (points_of v.seen) op
  same-beginning op own = ap (λ l. beginning (points_of l) op) seen.begins ∙ beginning-stays z client op own v.seen seen.rest others

  pub same-asking : (op : ℕ) → client_of z op ≡ client → asking (points_of log) op ≡ asking (points_of v.seen) op
  same-asking op own = ap (λ l. asking (points_of l) op) seen.begins ∙ asking-stays z client op own v.seen seen.rest others

  pub same-last-asking : (op : ℕ) → client_of z op ≡ client → last_asking (points_of log) op ≡ last_asking (points_of v.seen) op
  same-last-asking op own = ap (λ l. last_asking (points_of l) op) seen.begins ∙ last-asking-stays z client op own v.seen seen.rest others

  pub same-setting : (op : ℕ) → client_of z op ≡ client → setting (points_of log) op ≡ setting (points_of v.seen) op
  same-setting op own = ap (λ l. setting (points_of l) op) seen.begins ∙ setting-stays z client op own v.seen seen.rest others

  pub same-ending : (op : ℕ) → client_of z op ≡ client → ending (points_of log) op ≡ ending (points_of v.seen) op
  same-ending op own = ap (λ l. ending (points_of l) op) seen.begins ∙ ending-stays z client op own v.seen seen.rest others

  -- a session that runs nothing may begin its next operation
  pub may-begin : running ≡ None → begun < z.ops → FitsBegin (points_of log) (row_of z client begun) client
  may-begin idle room =
      let own = row-owner z client begun session.client_some room in
      record {
        is_new = same-beginning (row_of z client begun) own ∙ (session.fresh begun (omega arith) room).beginning;
        is_free = λ other b is of.
            let own' : client_of z other ≡ client = owner-begun z z.clients log within other b is ∙ of in
            ap is_some (same-ending other own') ∙ session.ended other b own' (sym (same-beginning other own') ∙ is) (λ now. none-some now.0 (sym idle ∙ now.1));
      }

-- ---- options

pub map-none : {A B : Type 0} (f : A → B) (o : Option A) → option_map f o ≡ None → o ≡ None
map-none f None e = refl
map-none f (Some x) e = absurd (none-some (f x) (sym e))

pub map-some : {A B : Type 0} (f : A → B) (o : Option A) (y : B) → option_map f o ≡ Some y → (x : A) × (o ≡ Some x) × (f x ≡ y)
map-some f None y e = absurd (none-some y e)
map-some f (Some x) y e = (x, refl, same_Some (f x) y e)

-- an operation that read is told of a first reading
pub has-asked : (log : List Event) (row : ℕ) (stamp : Timestamp) → HasRead log row stamp → (ask : Asking) × (asking (points_of log) row ≡ Some ask)
unfolding asking
has-asked log row stamp read =
    let there = map-at point_of log read.0 (Ask row stamp) read.1 in
    let told : asking_at row (0 + read.0) (point.Ask row stamp) ≡ Some (record { place = 0 + read.0; found = stamp }) = rw (eq-eqb row row refl) refl in
    let first = first-upto (asking_at row) 0 (points_of log) read.0 (point.Ask row stamp) (record { place = 0 + read.0; found = stamp }) there told in
    (first.0, first.1)

module _ (z : Layout) (client begun : ℕ) (running : Option Running) (v : View) (session : IsSession z client begun running v.seen) (number : v.number ≡ client)
    (log : List Event) (within : AllByRecursion (IsWithin z z.clients) log) (seen : IsSeen z log v) (r : Running) (now : running ≡ Some r) where
  abbrev run : IsRunning z client begun v.seen r
  run = session.runs r now

  -- the row of the running operation is the client's
  pub own-row : client_of z r.row ≡ client
  own-row =
      let room = session.begun_in in let some_ = run.begun_some in let row = run.row in
      let is : r.row ≡ row_of z client (begun - 1) = omega (arith, row, some_) in
      ap (client_of z) is ∙ row-owner z client (begun - 1) session.client_some (omega (arith, room, some_))

  abbrev log-beginning : beginning (points_of log) r.row ≡ Some run.beginning
  log-beginning = same-beginning z client begun running v session number log within seen r.row own-row ∙ run.begins

  abbrev pub runs-on : atomic.IsRunning (points_of log) r.row
  runs-on = record {
    begun = run.beginning;
    is_begun = log-beginning;
    not_ended = ap is_some (same-ending z client begun running v session number log within seen r.row own-row) ∙ run.not_ended;
  }

  not-set : r.set ≡ None → setting (points_of log) r.row ≡ None
  not-set none = same-setting z client begun running v session number log within seen r.row own-row ∙ map-none (λ (s : Setting). s.stamp) (setting (points_of v.seen) r.row) (run.set ∙ none)

  -- it may read the record of its key
  pub may-ask : r.set ≡ None → (found : Timestamp) → found ≡ logged_stamp (points_of log) (key_name r.key) → FitsAsk (points_of log) r.row found
  may-ask none found finds = record { runs = runs-on; finds = finds ∙ ap (logged_stamp (points_of log)) (sym run.key_is); not_set = not-set none; not_tried = none-tried log r.row }

  -- a write may write the next timestamp of what it found
  pub may-set : writes r.act ≡ true → r.set ≡ None → (found stamp : Timestamp) → r.found ≡ Some found → next_stamp found client ≡ Some stamp → (applied : Bool)
      → applied ≡ stamp_lt (logged_stamp (points_of log) (key_name r.key)) stamp → FitsSet (points_of log) r.row stamp applied
  may-set write none found stamp has next applied applies =
      let a = map-some (λ (a : Asking). a.found) (last_asking (points_of v.seen) r.row) found (run.found ∙ has) in
      record {
        runs = runs-on;
        is_write = ap writes run.act_is ∙ write;
        not_set = not-set none;
        ask = a.0;
        asked = same-last-asking z client begun running v session number log within seen r.row own-row ∙ a.1;
        next = ap (λ (p : Timestamp × ℕ). next_stamp p.0 p.1) (λ i. (a.2 i, run.client_is i)) ∙ next;
        none_tried = λ op _. none-tried log op;
        applies = applies ∙ ap (λ k. stamp_lt (logged_stamp (points_of log) k) stamp) (sym run.key_is);
      }

  -- it may return with such a reply
  pub may-end : (answer : Reply) → MayReply client v.seen r answer → FitsEnd (points_of log) r.row
  may-end answer may = record { runs = runs-on; may = subst (MayEnd (points_of log) r.row run.beginning.client) (sym run.act_is) (by_reply answer may) }
    where
      of-write : (act : ActKind) → writes act ≡ true
          → ((set : Setting) × (setting (points_of log) r.row ≡ Some set)) ⊎ ((ask : Asking) × (last_asking (points_of log) r.row ≡ Some ask) × (next_stamp ask.found run.beginning.client ≡ None))
          → MayEnd (points_of log) r.row run.beginning.client act
      of-write Get write ends = absurd (true≢false (sym write))
      of-write Put write ends = ends
      of-write Delete write ends = ends
      of-write (Swap expected) write ends = absurd (true≢false (sym write))

      of-read : (act : ActKind) → act ≡ Get → (ask : Asking) × (asking (points_of v.seen) r.row ≡ Some ask) → MayEnd (points_of log) r.row run.beginning.client act
      of-read act is ask = subst (MayEnd (points_of log) r.row run.beginning.client) (sym is) (ask.0, same-asking z client begun running v session number log within seen r.row own-row ∙ ask.1)

      by_reply : (answer : Reply) → MayReply client v.seen r answer → MayEnd (points_of log) r.row run.beginning.client r.act
      by_reply (reply.Done stamp) may =
          let s = map-some (λ (s : Setting). s.stamp) (setting (points_of v.seen) r.row) stamp (run.set ∙ may.1) in
          of-write r.act may.0 (inl (s.0, same-setting z client begun running v session number log within seen r.row own-row ∙ s.1))
      by_reply (reply.Exhausted stamp) may =
          let a = map-some (λ (a : Asking). a.found) (last_asking (points_of v.seen) r.row) stamp (run.found ∙ may.2) in
          of-write r.act may.0 (inr (a.0, same-last-asking z client begun running v session number log within seen r.row own-row ∙ a.1, ap (λ (p : Timestamp × ℕ). next_stamp p.0 p.1) (λ i. (a.2 i, run.client_is i)) ∙ may.3))
      by_reply (reply.Value bytes stamp) may = of-read r.act may.0 (has-asked v.seen r.row stamp may.1)
      by_reply (reply.Absent stamp) may = of-read r.act may.0 (has-asked v.seen r.row stamp may.1)
      by_reply (reply.Collected count) may = absurd may
      by_reply (reply.Swapped stamp) may = absurd may
      by_reply (reply.Changed stamp) may = absurd may
