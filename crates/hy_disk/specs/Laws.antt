-- Laws of a disk in memory.
use Rattle.std.proofs.Common.{◌≡◌, ◌⊎◌, inl, inr, ℕ, ◌+◌, ◌-◌, ◌≤◌, min, max, List, [], ◌∷◌, ◌++◌, length, take, drop, replicate, ◌<◌, ◌/◌, Contains, refl, sym, ◌∙◌, ap, subst, arith, length-append, length-take, length-drop, append_assoc}
use Rattle.std.proofs.lemmas.Bool.{cases_order}
use Rattle.std.proofs.lemmas.List.{take_at, drop_at, length-replicate}
use Rattle.hy_disk.specs.Disk.{written, Torn}
use Rattle.hy_base.specs.Faults.{Rose}
use Rattle.hy_disk.specs.MemDisk.{Step, wrote, synced, contents_after, MayLeave, LeftSince, DiskValue, FailsWithin, AreSmall, Suffices, Reach}

-- what the write put before the bytes behind its range
abbrev front : ℕ → List ℕ → List ℕ → List ℕ
front place bytes old = take place old ++ (replicate (place - length old) 0 ++ bytes)

length-front : (place : ℕ) (bytes old : List ℕ)
    → length (front place bytes old) ≡ place + length bytes
length-front place bytes old =
    let a = length-append (take place old) (replicate (place - length old) 0 ++ bytes) in
    let b = length-append (replicate (place - length old) 0) bytes in
    omega (arith, a, b, length-take place old, length-replicate {A = ℕ} (place - length old) 0)

written-front : (place : ℕ) (bytes old : List ℕ)
    → written place bytes old ≡ front place bytes old ++ drop (place + length bytes) old
written-front place bytes old = simp append_assoc

pub length-written : (place : ℕ) (bytes old : List ℕ)
    → length (written place bytes old) ≡ max (length old) (place + length bytes)
length-written place bytes old =
    let whole = ap length (written-front place bytes old)
    ∙ length-append (front place bytes old) (drop (place + length bytes) old) in
    omega (arith, whole, length-front place bytes old, length-drop (place + length bytes) old)

-- a write that was cut short may also have done all
pub Torn-written : (place : ℕ) (bytes old : List ℕ)
    → Torn place (length bytes) old (written place bytes old)
Torn-written place bytes old = record {
  before = take_at (take place old)
      (replicate (place - length old) 0 ++ (bytes ++ drop (place + length bytes) old))
      (min place (length old)) (length-take place old);
  after = ap (λ (l : List ℕ). drop (place + length bytes) l) (written-front place bytes old)
      ∙ drop_at (front place bytes old) (drop (place + length bytes) old) (place + length bytes)
      (length-front place bytes old);
  no_shorter = omega (arith, length-written place bytes old);
  no_longer = omega (arith, length-written place bytes old);
}

pub contents_left : (steps : List Step) → MayLeave steps (contents_after steps)
unfolding MayLeave contents_after
contents_left [] = refl
contents_left (wrote place bytes ∷ before) =
    (contents_after before, contents_left before, Torn-written place bytes (contents_after before))
contents_left (synced ∷ before) = refl

pub counts_now : (steps : List Step) (t : ℕ) (c : List ℕ) → t ≤ length steps → MayLeave steps c
    → LeftSince steps t c
unfolding LeftSince
counts_now [] t c within now = now
counts_now (step ∷ before) t c within now = inl now

pub only_now : (steps : List Step) (c : List ℕ) → LeftSince steps (length steps) c
    → MayLeave steps c
unfolding LeftSince
only_now [] c left = left
only_now (step ∷ before) c (inl now) = now
only_now (step ∷ before) c (inr past) = let too_long = past.0 in absurd (omega arith)

none_within : (failing : List ℕ) (n : ℕ) → FailsWithin failing n n → ⊥
none_within failing n within = let above = within.2 in let below = within.3 in omega arith

pub reach_same : (disk : DiskValue) → Reach disk disk 0 0 0
reach_same disk = record {
  room = refl;
  failing = refl;
  calls = omega arith;
  stays = omega arith;
  marks = omega arith;
  written = omega arith;
  sound = λ _ _. inl refl;
  faulty = λ within. absurd (none_within disk.failing disk.calls within);
  slow = λ _ _. omega arith;
}

pub reach_more : (a b : DiskValue) (steps more bytes others end last : ℕ) → steps ≤ more
    → bytes ≤ others → end ≤ last → Reach a b steps bytes end → Reach a b more others last
reach_more a b steps more bytes others end last s w e reach = record {
  room = reach.room;
  failing = reach.failing;
  calls = reach.calls;
  stays = reach.stays;
  marks = omega (arith, reach.marks);
  written = omega (arith, reach.written);
  sound = λ suffices small. reach.sound (record {
    file = omega (arith, suffices.file);
    written = omega (arith, suffices.written);
    marks = omega (arith, suffices.marks);
  }) small;
  faulty = reach.faulty;
  slow = λ suffices small. reach.slow (record {
    file = omega (arith, suffices.file);
    written = omega (arith, suffices.written);
    marks = omega (arith, suffices.marks);
  }) small;
}

le_or_lt : (n m : ℕ) → (n ≤ m) ⊎ (m < n)
le_or_lt n m = elim (cases_order n m) [
  | inl same ↦ inl (omega arith)
  | inr (inl below) ↦ inl (omega arith)
  | inr (inr above) ↦ inr above
]

rose_then : (a b c : ℕ) → a ≤ b → b ≤ c → Rose a b ⊎ Rose b c → Rose a c
rose_then a b c le too (inl rose) = omega arith
rose_then a b c le too (inr rose) = omega arith

pub reach_then : (a b c : DiskValue) (steps more bytes others end last : ℕ)
    → Reach a b steps bytes end → Reach b c more others last
    → Reach a c (steps + more) (bytes + others) (max end last)
reach_then a b c steps more bytes others end last first second = record {
  room = second.room ∙ first.room;
  failing = second.failing ∙ first.failing;
  calls = omega (arith, first.calls, second.calls);
  stays = omega (arith, first.stays, second.stays);
  marks = omega (arith, first.marks, second.marks);
  written = omega (arith, first.written, second.written);
  sound = sound;
  faulty = faulty;
  slow = slow;
}
  where
    slow : Suffices a (steps + more) (bytes + others) (max end last) → AreSmall a.failing
        → c.faults + a.calls ≤ a.faults + c.calls
    slow suffices small =
        let one = first.slow (record {
          file = omega (arith, suffices.file);
          written = omega (arith, suffices.written);
          marks = omega (arith, suffices.marks);
        }) small in
        let two = second.slow (record {
          file = omega (arith, suffices.file, first.room);
          written = omega (arith, suffices.written, first.written, first.room);
          marks = omega (arith, suffices.marks, first.marks, ap (λ (n : ℕ). n / 8) first.room);
        }) (subst AreSmall (sym first.failing) small) in
        omega (arith, one, two)

    earlier : FailsWithin a.failing a.calls b.calls → FailsWithin a.failing a.calls c.calls
    earlier within =
        let above = within.2 in
        let below = within.3 in
        (within.0, within.1, within.2, omega (arith, second.calls))

    later : FailsWithin b.failing b.calls c.calls → FailsWithin a.failing a.calls c.calls
    later within =
        let above = within.2 in
        let is = subst (λ (l : List ℕ). Contains l within.0) first.failing within.1 in
        (within.0, is, omega (arith, first.calls), within.3)

    joined : (b.faults ≡ a.faults) ⊎ FailsWithin a.failing a.calls b.calls
        → (c.faults ≡ b.faults) ⊎ FailsWithin b.failing b.calls c.calls
        → (c.faults ≡ a.faults) ⊎ FailsWithin a.failing a.calls c.calls
    joined (inl same) (inl too) = inl (too ∙ same)
    joined (inl same) (inr within) = inr (later within)
    joined (inr within) rest = inr (earlier within)

    sound : Suffices a (steps + more) (bytes + others) (max end last) → AreSmall a.failing
        → (c.faults ≡ a.faults) ⊎ FailsWithin a.failing a.calls c.calls
    sound suffices small =
        joined (first.sound (record {
          file = omega (arith, suffices.file);
          written = omega (arith, suffices.written);
          marks = omega (arith, suffices.marks);
        }) small)
        (second.sound (record {
          file = omega (arith, suffices.file, first.room);
          written = omega (arith, suffices.written, first.written, first.room);
          marks = omega (arith, suffices.marks, first.marks, ap (λ (n : ℕ). n / 8) first.room);
        }) (subst AreSmall (sym first.failing) small))

    split : (n : ℕ) → Contains a.failing n → a.calls < n → n ≤ c.calls
        → (n ≤ b.calls) ⊎ (b.calls < n)
        → FailsWithin a.failing a.calls b.calls ⊎ FailsWithin b.failing b.calls c.calls
    split n is above below (inl here) = inl (n, is, above, here)
    split n is above below (inr there) =
        inr (n, subst (λ (l : List ℕ). Contains l n) (sym first.failing) is, there, below)

    rose : FailsWithin a.failing a.calls b.calls ⊎ FailsWithin b.failing b.calls c.calls
        → Rose a.faults b.faults ⊎ Rose b.faults c.faults
    rose (inl within) = inl (first.faulty within)
    rose (inr within) = inr (second.faulty within)

    faulty : FailsWithin a.failing a.calls c.calls → Rose a.faults c.faults
    faulty within = rose_then a.faults b.faults c.faults first.stays second.stays
        (rose (split within.0 within.1 within.2 within.3 (le_or_lt within.0 b.calls)))
