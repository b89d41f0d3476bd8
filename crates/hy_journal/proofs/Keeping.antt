-- A request that was answered, and one that was lost.
use Rattle.std.proofs.Common.{◌≡◌, ◌⊎◌, inl, inr, ℕ, ◌+◌, ◌-◌, ◌*◌, ◌/◌, ◌^◌, ◌<◌, ◌≤◌, min, List, [], ◌∷◌, ◌++◌, length, Contains, refl, sym, ◌∙◌, ap, subst, arith}
use Rattle.std.proofs.lemmas.List.{append-nil}
use Rattle.hy_base.specs.Faults.{Rose}
use Rattle.hy_base.specs.declared.limits.TheConstants.{MAX_INPUT}
use Rattle.hy_journal.specs.declared.limits.TheConstants.{MAX_JOURNAL}
use Rattle.hy_mwire.specs.declared.message.Message.{Message}
use Rattle.hy_mwire.specs.Frames.{frame_of, frames_of}
use Rattle.hy_disk.specs.Crash.{LeavesOnly}
use Rattle.hy_disk.specs.Laws.{counts_now}
use Rattle.hy_disk.specs.MemDisk.{DiskValue, Reach, Suffices, AreSmall, FailsWithin, LeftSince}
use Rattle.hy_journal.specs.declared.entry.Entry.{Entry}
use Rattle.hy_journal.specs.declared.keeper.Keeper.{Keeper}
use Rattle.hy_journal.specs.Entry.{entry_bytes}
use Rattle.hy_journal.specs.File.{blocks, HasOrLacks, Holds, IsWithOrWithout}
use Rattle.hy_journal.specs.Fold.{asks_of, sessions_of}
use Rattle.hy_journal.specs.Keeper.{Stands, FindsSome, AddsAtMost, EndsAt, end_with, disk_of}
use Rattle.hy_journal.specs.Kept.{added, served_with, says_of, IsStop, left_after}
use Rattle.hy_journal.specs.Playing.{file_of, files_of, Place, left_at, IsAt, CanReopen, GoesTo}
use Rattle.hy_journal.proofs.Blocks.{length-push}
use Rattle.hy_journal.proofs.Weighing.{is_stop, small_stop, stop_within, within_stop, not_risen, Weight, Weighs, few_sessions, room_for}

-- ---- a request that was answered

abbrev pub calls_for : List Entry → ℕ → ℕ
calls_for [] count = count
calls_for (entry ∷ more) count = min (count + 4) (2 ^ 64 - 1)

-- what is known of the next place
pub record Comes (place next : Place) (old new : Keeper DiskValue) (more : List Entry) : Type 0 where
  pub at : IsAt next new
  pub other : ¬ IsStop (left_at place (disk_of old)) more
  pub left : left_at next (disk_of new) ≡ left_after (left_at place (disk_of old)) more

abbrev pub next_place : Place → Message → List Entry → Place
next_place place request more = record {
  stop = place.stop;
  entries = place.entries ++ more;
  served = served_with place.served request;
  count = place.count + length more;
  bytes = place.bytes + length (frame_of request);
  again = place.again;
}

pub comes : (place : Place) (request : Message) (old new : Keeper DiskValue) (more : List Entry) → IsAt place old
    → place.bytes + length (frame_of request) ≤ MAX_INPUT → Weighs place.entries request more
    → Stands file_of files_of new (place.entries ++ more) (served_with place.served request)
    → AddsAtMost Reach (disk_of old) (disk_of new) place.entries more
    → (disk_of new).faults ≡ (disk_of old).faults → (disk_of new).calls ≡ calls_for more (disk_of old).calls
    → Comes place (next_place place request more) old new more
comes place request old new [] at fits weighs stands reach same calls =
    let used = at.used in
    let few = at.few in
    let nil = append-nil place.entries in
    record {
      at = record {
        stands = stands;
        used = record {
          room = reach.room ∙ used.room;
          failing = reach.failing ∙ used.failing;
          small = used.small;
          steps = omega (arith, used.steps, reach.marks);
          written = omega (arith, used.written, reach.written);
          faults = omega (arith, same, used.faults);
          once = used.once;
          waits = λ some. used.waits (omega (arith, some, calls));
        };
        few = record {
          file = omega (arith, few.file, ap (λ (l : List Entry). length (blocks l)) nil);
          five = omega (arith, few.five);
          many = omega (arith, few.many, ap sessions_of nil);
          within = fits;
        };
      };
      other = λ stop. stop.adds refl;
      left = ap (λ (n : ℕ). place.stop - n) calls;
    }
comes place request old new (entry ∷ []) at fits weighs stands reach same calls =
    let used = at.used in
    let few = at.few in
    record {
      at = record {
        stands = stands;
        used = record {
          room = reach.room ∙ used.room;
          failing = reach.failing ∙ used.failing;
          small = used.small;
          steps = omega (arith, used.steps, reach.marks);
          written = omega (arith, used.written, reach.written, weighs.bytes);
          faults = omega (arith, same, used.faults);
          once = used.once;
          waits = λ some. used.waits (omega (arith, some, calls));
        };
        few = record {
          file = omega (arith, few.file, length-push place.entries entry, weighs.bytes);
          five = omega (arith, few.five, weighs.some);
          many = omega (arith, few.many, weighs.paid);
          within = fits;
        };
      };
      other = λ stop.
          let within = within_stop (disk_of old).failing place.stop (disk_of old).calls (disk_of new).calls used.failing
          (omega (arith, stop.some)) (omega (arith, stop.near, calls, used.small)) in
          not_risen (disk_of old).faults (disk_of new).faults same (omega (arith, used.faults, used.once)) (reach.faulty within);
      left = omega (arith, calls, used.small);
    }
comes place request old new (entry ∷ next ∷ more) at fits weighs stands reach same calls = absurd weighs

pub goes_answered : (place : Place) (request : Message) (old new : Keeper DiskValue) (more : List Entry) (before output : List ℕ)
    → added place.entries request ≡ more → IsAt place old
    → place.bytes + length (frame_of request) ≤ MAX_INPUT → Weighs place.entries request more
    → Stands file_of files_of new (place.entries ++ more) (served_with place.served request)
    → AddsAtMost Reach (disk_of old) (disk_of new) place.entries more
    → (disk_of new).faults ≡ (disk_of old).faults → (disk_of new).calls ≡ calls_for more (disk_of old).calls
    → output ≡ before ++ frames_of (says_of place.entries place.served request)
    → GoesTo place old new request before output
goes_answered place request old new more before output is at fits weighs stands reach same calls told =
    let next = comes place request old new more at fits weighs stands reach same calls in
    record {
      next = next_place place request more;
      at = next.at;
      same = refl;
      longer = refl;
      moved = inl (record {
        other = subst (λ (l : List Entry). ¬ IsStop (left_at place (disk_of old)) l) (sym is) next.other;
        output_is = told;
        entries_are = ap (λ (l : List Entry). place.entries ++ l) (sym is);
        served_are = refl;
        left_is = next.left ∙ ap (left_after (left_at place (disk_of old))) (sym is);
      });
    }

-- ---- a request that was lost

-- the call that failed is in the request's
pub record Loses (place : Place) (old new : Keeper DiskValue) (more : List Entry) : Type 0 where
  pub stop : IsStop (left_at place (disk_of old)) more
  pub fresh : place.again ≡ 0
  pub past : place.stop ≤ (disk_of new).calls
  pub few : (disk_of new).faults ≤ 4

pub loses : (place : Place) (request : Message) (old new : Keeper DiskValue) (more : List Entry) (end : ℕ) → IsAt place old
    → place.bytes + length (frame_of request) ≤ MAX_INPUT → Weighs place.entries request more → EndsAt place.entries more end
    → AddsAtMost Reach (disk_of old) (disk_of new) place.entries more → (disk_of new).calls ≤ (disk_of old).calls + 4
    → Rose (disk_of old).faults (disk_of new).faults → Loses place old new more
loses place request old new [] end at fits weighs ends reach near rose = absurd ends
loses place request old new (entry ∷ next ∷ more) end at fits weighs ends reach near rose = absurd weighs
loses place request old new (entry ∷ []) end at fits weighs ends reach near rose =
    let used = at.used in
    let suffices = room_for place (disk_of old) request entry used at.few weighs fits in
    let small = small_stop (disk_of old).failing place.stop used.failing used.small in
    either suffices small (reach.sound suffices small)
  where
    by : Suffices (disk_of old) 4 (length (entry_bytes entry) + 2) (end_with place.entries (entry_bytes entry)) → AreSmall (disk_of old).failing
        → ((disk_of old).calls < place.stop) × (place.stop ≤ (disk_of new).calls) → Loses place old new (entry ∷ [])
    by suffices small within =
        let some : 0 < left_at place (disk_of old) = let above = within.0 in omega arith in
        let fresh = at.used.waits some in
        let below = within.1 in
        record {
          stop = record { adds = λ no. absurd (cc); some = some; near = omega (arith, near) };
          fresh = fresh;
          past = below;
          few = omega (arith, reach.slow suffices small, at.used.faults, fresh, near);
        }

    either : Suffices (disk_of old) 4 (length (entry_bytes entry) + 2) (end_with place.entries (entry_bytes entry)) → AreSmall (disk_of old).failing
        → ((disk_of new).faults ≡ (disk_of old).faults) ⊎ FailsWithin (disk_of old).failing (disk_of old).calls (disk_of new).calls
        → Loses place old new (entry ∷ [])
    either suffices small (inl same) =
        absurd (not_risen (disk_of old).faults (disk_of new).faults same (omega (arith, at.used.faults, at.used.once)) rose)
    either suffices small (inr within) =
        by suffices small (stop_within (disk_of old).failing place.stop (disk_of old).calls (disk_of new).calls at.used.failing within)

-- the disk can be opened again
pub can_reopen : (place : Place) (request : Message) (old new : Keeper DiskValue) (more : List Entry) (end : ℕ) → IsAt place old
    → place.bytes + length (frame_of request) ≤ MAX_INPUT → Weighs place.entries request more → EndsAt place.entries more end
    → AddsAtMost Reach (disk_of old) (disk_of new) place.entries more → (disk_of new).calls ≤ (disk_of old).calls + 4
    → Rose (disk_of old).faults (disk_of new).faults
    → Holds place.entries more (files_of (disk_of new))
    → CanReopen (disk_of new)
can_reopen place request old new [] end at fits weighs ends reach near rose holds = absurd ends
can_reopen place request old new (entry ∷ next ∷ more) end at fits weighs ends reach near rose holds = absurd weighs
can_reopen place request old new (entry ∷ []) end at fits weighs ends reach near rose holds =
    let lost = loses place request old new (entry ∷ []) end at fits weighs ends reach near rose in
    let used = at.used in
    let few = at.few in
    let eighth = ap (λ (n : ℕ). n / 8) (reach.room ∙ used.room) in
    let failing = reach.failing ∙ used.failing in
    record {
      entries = place.entries;
      more = entry ∷ [];
      holds = holds;
      suffices = record {
        file = omega (arith, reach.room, used.room);
        written = omega (arith, reach.room, used.room, reach.written, used.written, used.once, few.five, weighs.bytes, fits);
        marks = omega (arith, eighth, reach.marks, used.steps, used.once, few.many, few_sessions place.entries, fits);
      };
      few = lost.few;
      small = small_stop (disk_of new).failing place.stop failing used.small;
      past = λ n is.
          let one = is_stop place.stop n (subst (λ (l : List ℕ). Contains l n) failing is) in
          omega (arith, one, lost.past);
    }

pub holds_after : (entries more : List Entry) (old new : DiskValue)
    → LeavesOnly (λ (disk : DiskValue). length disk.steps) (λ (disk : DiskValue). LeftSince disk.steps) old new (HasOrLacks entries more)
    → Holds entries more (files_of new)
holds_after entries more old new leaves file left =
    leaves.each file (counts_now new.steps (length old.steps) file leaves.later left)

-- where no number of a call that fails is to come, none fails
pub not_failing : (old new : DiskValue) (steps bytes end : ℕ) → Suffices old steps bytes end → AreSmall old.failing
    → ((n : ℕ) → Contains old.failing n → n ≤ old.calls) → old.faults ≤ 4 → Reach old new steps bytes end → Rose old.faults new.faults → ⊥
not_failing old new steps bytes end suffices small past few reach rose = either (reach.sound suffices small)
  where
    either : (new.faults ≡ old.faults) ⊎ FailsWithin old.failing old.calls new.calls → ⊥
    either (inl same) = not_risen old.faults new.faults same few rose
    either (inr within) =
        let above = within.2 in
        omega (arith, past within.0 within.1)

-- the journal has room
pub not_full : (place : Place) (request : Message) (keeper : Keeper DiskValue) (more : List Entry) (end : ℕ) → IsAt place keeper
    → place.bytes + length (frame_of request) ≤ MAX_INPUT → Weighs place.entries request more → EndsAt place.entries more end
    → MAX_JOURNAL < end → ⊥
not_full place request keeper [] end at fits weighs ends over = ends
not_full place request keeper (entry ∷ next ∷ more) end at fits weighs ends over = weighs
not_full place request keeper (entry ∷ []) end at fits weighs ends over =
    let few = at.few in
    omega (arith, ends, few.file, few.five, weighs.bytes, fits)

pub lost_file : (entries : List Entry) (entry : Entry) (found : List Entry) → IsWithOrWithout entries (entry ∷ []) found
    → length (blocks found) ≤ length (blocks entries) + length (entry_bytes entry) + 1
lost_file entries entry found (inl same) = omega (arith, ap (λ (l : List Entry). length (blocks l)) same)
lost_file entries entry found (inr longer) = omega (arith, ap (λ (l : List Entry). length (blocks l)) longer, length-push entries entry)

pub lost_paid : (entries : List Entry) (request : Message) (entry : Entry) (found : List Entry) → Weight entries request entry
    → IsWithOrWithout entries (entry ∷ []) found → 17 + 12 * sessions_of entries ≤ length (frame_of request) + 12 * sessions_of found + 12
lost_paid entries request entry found weight (inl same) = omega (arith, weight.some, ap sessions_of same)
lost_paid entries request entry found weight (inr longer) = omega (arith, weight.paid, ap sessions_of longer)

abbrev pub lost_place : Place → Message → List Entry → Place
lost_place place request found = record {
  stop = place.stop;
  entries = found;
  served = asks_of found;
  count = place.count + 1;
  bytes = place.bytes + length (frame_of request);
  again = 1;
}

pub goes_lost : (place : Place) (request : Message) (old new again : Keeper DiskValue) (more : List Entry) (end : ℕ) (before : List ℕ)
    → added place.entries request ≡ more → IsAt place old
    → place.bytes + length (frame_of request) ≤ MAX_INPUT → Weighs place.entries request more → EndsAt place.entries more end
    → AddsAtMost Reach (disk_of old) (disk_of new) place.entries more → (disk_of new).calls ≤ (disk_of old).calls + 4
    → Rose (disk_of old).faults (disk_of new).faults
    → FindsSome file_of files_of place.entries more again → Reach (disk_of new) (disk_of again) 3 1 1
    → (disk_of again).faults ≡ (disk_of new).faults
    → GoesTo place old again request before before
goes_lost place request old new again [] end before is at fits weighs ends reach near rose finds more same = absurd ends
goes_lost place request old new again (entry ∷ next ∷ rest) end before is at fits weighs ends reach near rose finds more same = absurd weighs
goes_lost place request old new again (entry ∷ []) end before is at fits weighs ends reach near rose finds more same =
    let lost = loses place request old new (entry ∷ []) end at fits weighs ends reach near rose in
    let used = at.used in
    let few = at.few in
    let none : left_at (lost_place place request finds.found) (disk_of again) ≡ 0 = omega (arith, lost.past, more.calls) in
    record {
      next = lost_place place request finds.found;
      at = record {
        stands = finds.stands;
        used = record {
          room = more.room ∙ reach.room ∙ used.room;
          failing = more.failing ∙ reach.failing ∙ used.failing;
          small = used.small;
          steps = omega (arith, used.steps, reach.marks, more.marks, lost.fresh);
          written = omega (arith, used.written, reach.written, more.written, lost.fresh, weighs.bytes);
          faults = omega (arith, same, lost.few);
          once = omega arith;
          waits = λ some. omega (arith, some, none);
        };
        few = record {
          file = omega (arith, few.file, lost_file place.entries entry finds.found finds.is, weighs.bytes);
          five = omega (arith, few.five, weighs.some);
          many = omega (arith, few.many, lost.fresh, lost_paid place.entries request entry finds.found weighs finds.is);
          within = fits;
        };
      };
      same = refl;
      longer = refl;
      moved = inr (record {
        stop = subst (λ (l : List Entry). IsStop (left_at place (disk_of old)) l) (sym is) lost.stop;
        output_is = refl;
        found = subst (λ (l : List Entry). IsWithOrWithout place.entries l finds.found) (sym is) finds.is;
        served_are = refl;
        left_is = none;
      });
    }

-- the disk that is opened again is that of the keeper
pub goes_reopened : (place : Place) (request : Message) (old new again : Keeper DiskValue) (disk : DiskValue) (more : List Entry) (end : ℕ) (before : List ℕ)
    → added place.entries request ≡ more → IsAt place old
    → place.bytes + length (frame_of request) ≤ MAX_INPUT → Weighs place.entries request more → EndsAt place.entries more end
    → AddsAtMost Reach (disk_of old) (disk_of new) place.entries more → (disk_of new).calls ≤ (disk_of old).calls + 4
    → Rose (disk_of old).faults (disk_of new).faults → Holds place.entries more (files_of (disk_of new)) → disk ≡ disk_of new
    → ((entries more : List Entry) → Holds entries more (files_of disk) → FindsSome file_of files_of entries more again)
    → Reach disk (disk_of again) 3 1 1 × ((disk_of again).faults ≡ disk.faults)
    → GoesTo place old again request before before
goes_reopened place request old new again disk more end before is at fits weighs ends reach near rose holds same finds opened =
    goes_lost place request old new again more end before is at fits weighs ends reach near rose
    (finds place.entries more (subst (λ (d : DiskValue). Holds place.entries more (files_of d)) (sym same) holds))
    (subst (λ (d : DiskValue). Reach d (disk_of again) 3 1 1) same opened.0)
    (opened.1 ∙ ap (λ (d : DiskValue). d.faults) same)
