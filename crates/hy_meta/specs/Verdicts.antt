-- What a service keeps of the swaps that were judged.
use Rattle.std.specs.Prelude.{◌≡◌, ℕ, true, ◌==◌, Option, Some, None, is_some, if◌then◌else◌}
use Rattle.std.specs.BTreeMap.{is_at}
use Rattle.std.specs.Map.{lookup}
use Rattle.std.specs.Ordering.{nat_cmp}
use Rattle.hy_record.specs.declared.message.MetaSay.{MetaSay}
use Rattle.hy_record.specs.declared.message.MetaSay.TheVariants as says
use Rattle.hy_meta.specs.declared.verdicts.Verdict.{Verdict}
use Rattle.hy_meta.specs.declared.verdicts.Verdicts.{Verdicts}
use Rattle.hy_meta.specs.Meta.{Judged}

-- what was answered
abbrev pub verdict_say : Verdict → MetaSay
verdict_say v =
    if v.swapped then says.Swapped v.client v.op v.key v.stamp else says.Changed v.client v.op v.key v.stamp

-- the swap that was judged so
abbrev pub judged : Verdict → Judged
judged v = record { op = v.op; say = verdict_say v }

-- what is kept of a client: nothing, room alone, or a verdict
abbrev pub judged_there : Option (Option Verdict) → Option Judged
judged_there None = None
judged_there (Some None) = None
judged_there (Some (Some v)) = Some (judged v)

-- what is kept of the client
abbrev pub kept_of : Verdicts → ℕ → Option (Option Verdict)
kept_of verdicts client = lookup (is_at (nat_cmp client)) verdicts.last.entries

-- the last swap of the client that was judged
unfoldable pub last_in : Verdicts → ℕ → Option Judged
last_in verdicts client = judged_there (kept_of verdicts client)

-- there is room for a verdict on a swap of the client
unfoldable pub IsKnown : Verdicts → ℕ → Type 0
IsKnown verdicts client = is_some (kept_of verdicts client) ≡ true

-- no client has a swap that was judged
abbrev pub nothing_judged : ℕ → Option Judged
nothing_judged client = None

-- each client has the last swap that it had
abbrev pub SameLasts : (ℕ → Option Judged) → (ℕ → Option Judged) → Type 0
SameLasts old new = (client : ℕ) → new client ≡ old client

-- this is the last swap of the client now, and each other client has the one that it had
abbrev pub NotesLast : (ℕ → Option Judged) → (ℕ → Option Judged) → ℕ → Judged → Type 0
NotesLast old new client last = (c : ℕ) → new c ≡ (if client == c then Some last else old c)
