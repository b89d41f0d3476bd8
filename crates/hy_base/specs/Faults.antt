-- Counts of faults: the only ground on which a failure of the outside is answered.
use Rattle.std.specs.Prelude.{◌≡◌, ℕ, ◌+◌, ◌-◌, ◌^◌, ◌≤◌, min, List, Contains, Result, Ok, Err, OnOk, OnErr}

-- a count rose in a call; at its last value it stands still
abbrev pub Rose : ℕ → ℕ → Type 0
Rose old new = min (old + 1) (2 ^ 64 - 1) ≤ new

-- a count of faults did not fall in a call: it rose where the call failed, and is as before where it did not
pub record HasCause {A E : Type 0} (old new : ℕ) (result : Result A E) : Type 0 where
  pub stays : old ≤ new
  pub rose : OnErr result (Rose old new)
  pub kept : OnOk result (new ≡ old)

-- a count after one more; at its last value it stands still
abbrev pub next_count : ℕ → ℕ
next_count count = min (count + 1) (2 ^ 64 - 1)

-- a count of faults after a call: one more where the call failed, and as before where it did not
abbrev pub faults_after : {A E : Type 0} → ℕ → Result A E → ℕ
faults_after old (Ok value) = old
faults_after old (Err error) = next_count old

-- the next call is one of those that are to fail
abbrev pub FailsNext : List ℕ → ℕ → Type 0
FailsNext failing calls = Contains failing (next_count calls)
