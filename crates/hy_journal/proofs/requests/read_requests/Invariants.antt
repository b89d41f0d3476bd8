use Rattle.std.proofs.Common.{◌-◌, length}
use Rattle.hy_journal.specs.Requests.{IsReadTo}
use Rattle.hy_journal.proofs.requests.read_requests.Given as goal

abbrev pub invariant-loop-place : goal.invariant-loop-place
invariant-loop-place l = record { so_far : IsReadTo l.bytes l.messages.items l.place }

abbrev pub decreases-loop-place : goal.decreases-loop-place
decreases-loop-place l = length l.bytes - l.place
