-- How the steps lie in memory.
use Rattle.std.proofs.Common.{◌≡◌, ℕ, ◌+◌, ◌≤◌, List, [], ◌∷◌, ◌++◌, length, take, drop, refl, ◌∙◌, ap, arith, length-drop}
use Rattle.std.proofs.lemmas.List.{take-append-le, drop-append-le, take_all, length-take-le}
use Rattle.hy_disk.specs.MemDisk.{Step, wrote, synced, total_written, marked, laid}
use Rattle.hy_disk.specs.declared.past.Mark.{Mark}
use Rattle.hy_disk.specs.declared.past.Mark.TheVariants.{Write, Sync}

pub marked-append : (a b : List Mark) → marked (a ++ b) ≡ marked a + marked b
unfolding marked
marked-append [] b = omega arith
marked-append (Write place size ∷ a) b = omega (arith, marked-append a b)
marked-append (Sync ∷ a) b = marked-append a b

pub laid-write : (marks : List Mark) (bytes : List ℕ) (before : List Step) (place : ℕ) (new : List ℕ) → marked marks ≡ length bytes
    → laid (marks ++ Write place (length new) ∷ []) (bytes ++ new) before ≡ wrote place new ∷ laid marks bytes before
unfolding marked laid
laid-write [] [] before place new total = ap (λ (l : List ℕ). wrote place l ∷ before) (take_all (length new) new (omega arith))
laid-write [] (b ∷ bytes) before place new total = absurd (omega arith)
laid-write (Write at size ∷ marks) bytes before place new total =
    let fits : size ≤ length bytes = omega arith in
    let more = marks ++ Write place (length new) ∷ [] in
    ap (λ (l : List ℕ). laid more (drop size (bytes ++ new)) (wrote at l ∷ before)) (take-append-le size bytes new fits)
    ∙ ap (λ (l : List ℕ). laid more l (wrote at (take size bytes) ∷ before)) (drop-append-le size bytes new fits)
    ∙ laid-write marks (drop size bytes) (wrote at (take size bytes) ∷ before) place new (omega (arith, length-drop size bytes))
laid-write (Sync ∷ marks) bytes before place new total = laid-write marks bytes (synced ∷ before) place new total

pub laid-sync : (marks : List Mark) (bytes : List ℕ) (before : List Step) → laid (marks ++ Sync ∷ []) bytes before ≡ synced ∷ laid marks bytes before
unfolding laid
laid-sync [] bytes before = refl
laid-sync (Write at size ∷ marks) bytes before = laid-sync marks (drop size bytes) (wrote at (take size bytes) ∷ before)
laid-sync (Sync ∷ marks) bytes before = laid-sync marks bytes (synced ∷ before)

pub length-laid : (marks : List Mark) (bytes : List ℕ) (before : List Step) → length (laid marks bytes before) ≡ length marks + length before
unfolding laid
length-laid [] bytes before = omega arith
length-laid (Write at size ∷ marks) bytes before = omega (arith, length-laid marks (drop size bytes) (wrote at (take size bytes) ∷ before))
length-laid (Sync ∷ marks) bytes before = omega (arith, length-laid marks bytes (synced ∷ before))

pub total-laid : (marks : List Mark) (bytes : List ℕ) (before : List Step) → marked marks ≡ length bytes
    → total_written (laid marks bytes before) ≡ length bytes + total_written before
unfolding marked laid total_written
total-laid [] [] before total = omega arith
total-laid [] (b ∷ bytes) before total = absurd (omega arith)
total-laid (Write at size ∷ marks) bytes before total =
    omega (
      arith,
      total-laid marks (drop size bytes) (wrote at (take size bytes) ∷ before)
          (omega (arith, length-drop size bytes)),
      length-drop size bytes,
      length-take-le size bytes (omega arith),
    )
total-laid (Sync ∷ marks) bytes before total = total-laid marks bytes (synced ∷ before) total
