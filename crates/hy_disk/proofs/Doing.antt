-- What each call of a disk in memory does, by its steps.
use Rattle.std.proofs.Common.{◌≡◌, inl, inr, ℕ, ◌+◌, ◌-◌, ◌^◌, ◌<◌, ◌≤◌, true, false, Contains, List, ◌∷◌, length, refl, sym, ap, subst, arith}
use Rattle.std.proofs.lemmas.Bool.Decides.{nat_tests}
use Rattle.std.proofs.lemmas.List.Elements.{All-contains}
use Rattle.hy_base.specs.Faults.{next_count, FailsNext}
use Rattle.hy_disk.specs.Disk.{written, OnlyFile, TornFrom}
use Rattle.hy_disk.specs.Crash.{Elapses}
use Rattle.hy_disk.specs.MemDisk.{Step, wrote, synced, contents_after, MayLeave, LeftSince, total_written, DiskValue, FailsByNumber, FailsWithin, Suffices, Reach, after_fault, has_room}
use Rattle.hy_disk.proofs.Time.{Torn-same, elapses_step}

pub elapses_to : (step : Step) (steps new : List Step) → new ≡ step ∷ steps
    → Elapses (length steps) (length new) (LeftSince steps) (LeftSince new) (MayLeave new)
elapses_to step steps new is = subst (λ (l : List Step). Elapses (length steps) (length l) (LeftSince steps) (LeftSince l) (MayLeave l)) (sym is)
    (elapses_step step steps)

pub synced_contents : (steps new : List Step) → new ≡ synced ∷ steps → contents_after new ≡ contents_after steps
unfolding contents_after
synced_contents steps new is = ap contents_after is

pub synced_leaves : (steps new : List Step) → new ≡ synced ∷ steps → OnlyFile (contents_after steps) (MayLeave new)
unfolding MayLeave
synced_leaves steps new is c = (
  λ left. subst (λ (l : List Step). MayLeave l c) is left,
  λ same. subst (λ (l : List Step). MayLeave l c) (sym is) same,
)

pub wrote_leaves : (place : ℕ) (bytes : List ℕ) (steps new : List Step) → new ≡ wrote place bytes ∷ steps
    → (c : List ℕ) → (MayLeave new c → TornFrom place (length bytes) (MayLeave steps) c) × (TornFrom place (length bytes) (MayLeave steps) c → MayLeave new c)
unfolding MayLeave
wrote_leaves place bytes steps new is c = (
  λ left. subst (λ (l : List Step). MayLeave l c) is left,
  λ torn. subst (λ (l : List Step). MayLeave l c) (sym is) torn,
)

pub failed_leaves : (place n : ℕ) (steps new : List Step) → new ≡ steps → (c : List ℕ) → MayLeave new c → TornFrom place n (MayLeave steps) c
failed_leaves place n steps new is c left = (c, subst (λ (l : List Step). MayLeave l c) is left, Torn-same place n c)

-- the one number of a call
only_next : (failing : List ℕ) (calls : ℕ) → FailsWithin failing calls (next_count calls) → FailsNext failing calls
only_next failing calls within =
    let above = within.2 in
    let below = within.3 in
    let is : within.0 ≡ next_count calls = omega arith in
    subst (λ (n : ℕ). Contains failing n) is within.1

-- a call that failed, by its number where the room suffices
pub reach_failed : (old new : DiskValue) (steps bytes end : ℕ) → (Suffices old steps bytes end → FailsByNumber old) → new ≡ after_fault old
    → old.calls ≤ new.calls → old.faults ≤ new.faults
    → Reach old new steps bytes end
reach_failed old new steps bytes end fails is later grows = subst (λ (d : DiskValue). Reach old d steps bytes end) (sym is) (record {
  room = refl;
  failing = refl;
  calls = subst (λ (d : DiskValue). old.calls ≤ d.calls) is later;
  stays = subst (λ (d : DiskValue). old.faults ≤ d.faults) is grows;
  marks = omega arith;
  written = omega arith;
  sound = λ suffices small. inr (
    next_count old.calls,
    fails suffices,
    (let below = All-contains (λ n. n < 2 ^ 64 - 1) old.failing (next_count old.calls) small (fails suffices) in omega arith),
    omega arith,
  );
  faulty = λ within. omega arith;
  slow = λ suffices small.
      let below = All-contains (λ n. n < 2 ^ 64 - 1) old.failing (next_count old.calls) small (fails suffices) in
      omega (arith, below);
})

-- a call that did not fail
pub reach_done : (old new : DiskValue) (steps bytes end : ℕ) → (FailsByNumber old → ⊥) → new.room ≡ old.room → new.failing ≡ old.failing
    → new.calls ≡ next_count old.calls → new.faults ≡ old.faults → old.calls ≤ new.calls
    → length new.steps ≤ length old.steps + steps → total_written new.steps ≤ total_written old.steps + bytes → Reach old new steps bytes end
reach_done old new steps bytes end works room failing calls faults later marks written = record {
  room = room;
  failing = failing;
  calls = later;
  stays = omega arith;
  marks = marks;
  written = written;
  sound = λ suffices small. inl faults;
  faulty = λ within. absurd (works (only_next old.failing old.calls (subst (λ (n : ℕ). FailsWithin old.failing old.calls n) calls within)));
  slow = λ suffices small. omega (arith, faults, later);
}

pub no_room : (disk : DiskValue) (place n : ℕ) → has_room disk place n ≡ false → Suffices disk 1 n (place + n) → ⊥
no_room disk place n lacks suffices =
    let file = suffices.file in
    let bytes = suffices.written in
    let marks = suffices.marks in
    grind (arith, nat_tests)

pub room_for : (disk : DiskValue) (place n : ℕ) → has_room disk place n ≡ true → Suffices disk 1 n (place + n)
room_for disk place n has = record { file = grind (arith, nat_tests); written = grind (arith, nat_tests); marks = grind (arith, nat_tests) }

pub wrote_contents : (place : ℕ) (bytes : List ℕ) (steps new : List Step) → new ≡ wrote place bytes ∷ steps
    → contents_after new ≡ written place bytes (contents_after steps)
unfolding contents_after
wrote_contents place bytes steps new is = ap contents_after is
