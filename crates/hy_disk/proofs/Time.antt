-- How the files that a crash may leave grow by one step.
use Rattle.std.proofs.Common.{◌⊎◌, inl, inr, ℕ, ◌≤◌, List, ◌∷◌, length, refl, arith}
use Rattle.std.proofs.lemmas.List.{take_min}
use Rattle.hy_disk.specs.Disk.{Torn, SameFiles}
use Rattle.hy_disk.specs.Crash.{Elapses}
use Rattle.hy_disk.specs.MemDisk.{Step, MayLeave, LeftSince}

-- nothing may have been written yet
pub Torn-same : (place n : ℕ) (file : List ℕ) → Torn place n file file
Torn-same place n file = record {
  before = take_min place file;
  after = refl;
  no_shorter = omega arith;
  no_longer = omega arith;
}

pub same_files : (steps : List Step) → SameFiles (MayLeave steps) (MayLeave steps)
same_files steps c = (λ left. left, λ left. left)

pub elapses_same : (steps : List Step) → Elapses (length steps) (length steps) (LeftSince steps) (LeftSince steps) (MayLeave steps)
elapses_same steps = record { later = omega arith; nothing_else = λ t c within left. inl left; keeps = λ t c within left. left }

pub elapses_step : (step : Step) (steps : List Step)
    → Elapses (length steps) (length (step ∷ steps)) (LeftSince steps) (LeftSince (step ∷ steps)) (MayLeave (step ∷ steps))
unfolding LeftSince
elapses_step step steps = record {
  later = omega arith;
  nothing_else = nothing;
  keeps = λ t c within left. inr (within, left);
}
  where
    nothing : (t : ℕ) (c : List ℕ) → t ≤ length steps → LeftSince (step ∷ steps) t c → LeftSince steps t c ⊎ MayLeave (step ∷ steps) c
    nothing t c within (inl now) = inr now
    nothing t c within (inr past) = inl past.1
