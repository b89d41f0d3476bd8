use Rattle.std.proofs.Common.{List, ℕ, subst, ◌∙◌, arith}
use Rattle.hy_journal.specs.Keeper.{IsReplayed, OpensAs}
use Rattle.hy_journal.proofs.Reaching.{both}
use Rattle.hy_journal.proofs.Results.{if_ok_map}
use Rattle.hy_journal.proofs.Found.{opens_journal, still_only}
use Rattle.hy_journal.proofs.opening.prepare.Goals as goal

pub returns-clause-opens : goal.returns-clause-opens
returns-clause-opens g c =
    let found = g.D.Disk.contents c.args.disk.now in
    let now = g.D.Disk.contents c.read_file.new.disk in
    let leaves = g.D.Disk.may_leave c.read_file.new.disk in
    let sized = c.size.ensures.contents ∙ c.sync.ensures.contents in
    let read = c.deref.ensures.value ∙ c.in_ok-bytes.ensures.bytes ∙ sized in
    let synced = still_only found (g.D.Disk.may_leave c.sync.new.self)
    (g.D.Disk.may_leave c.size.new.self) c.in_ok-sync.ensures.leaves c.size.ensures.leaves in
    let durable = still_only found (g.D.Disk.may_leave c.size.new.self) leaves synced c.read_file.ensures.leaves in
    if_ok_map c.replay.result (IsReplayed c.deref.result.now) (OpensAs found now leaves) (λ state is.
    opens_journal found now leaves state.service state.given state.end (subst (λ (f : List ℕ). IsReplayed f state) read is)
    (c.read_file.ensures.contents ∙ sized) durable)
    c.replay.ensures.replayed

pub returns-in_err-size-clause-reach : goal.returns-in_err-size-clause-reach
returns-in_err-size-clause-reach g c =
    both g.D.Disk.reach g.met.D.Disk.reach_then g.met.D.Disk.reach_more c.args.disk.now c.sync.new.self c.size.new.self 1 0 0 0 0 0 3 1 1 c.sync.ensures.reach c.size.ensures.reach (omega arith) (omega arith) (omega arith)

pub returns-then-size-gt-MAX_JOURNAL-clause-reach : goal.returns-then-size-gt-MAX_JOURNAL-clause-reach
returns-then-size-gt-MAX_JOURNAL-clause-reach g c =
    both g.D.Disk.reach g.met.D.Disk.reach_then g.met.D.Disk.reach_more c.args.disk.now c.sync.new.self c.size.new.self 1 0 0 0 0 0 3 1 1 c.sync.ensures.reach c.size.ensures.reach (omega arith) (omega arith) (omega arith)

pub returns-then-size-le1-clause-reach : goal.returns-then-size-le1-clause-reach
returns-then-size-le1-clause-reach g c =
    let looked = both g.D.Disk.reach g.met.D.Disk.reach_then g.met.D.Disk.reach_more c.args.disk.now c.sync.new.self c.size.new.self 1 0 0 0 0 0 1 0 0 c.sync.ensures.reach c.size.ensures.reach (omega arith) (omega arith) (omega arith) in
    both g.D.Disk.reach g.met.D.Disk.reach_then g.met.D.Disk.reach_more c.args.disk.now c.size.new.self c.begin.new.disk 1 2 0 1 0 1 3 1 1 looked c.begin.ensures.reach (omega arith) (omega arith) (omega arith)

pub returns-in_err-bytes-clause-reach : goal.returns-in_err-bytes-clause-reach
returns-in_err-bytes-clause-reach g c =
    let looked = both g.D.Disk.reach g.met.D.Disk.reach_then g.met.D.Disk.reach_more c.args.disk.now c.sync.new.self c.size.new.self 1 0 0 0 0 0 1 0 0 c.sync.ensures.reach c.size.ensures.reach (omega arith) (omega arith) (omega arith) in
    both g.D.Disk.reach g.met.D.Disk.reach_then g.met.D.Disk.reach_more c.args.disk.now c.size.new.self c.read_file.new.disk 1 0 0 0 0 0 3 1 1 looked c.read_file.ensures.reach (omega arith) (omega arith) (omega arith)

pub returns-clause-reach : goal.returns-clause-reach
returns-clause-reach g c =
    let looked = both g.D.Disk.reach g.met.D.Disk.reach_then g.met.D.Disk.reach_more c.args.disk.now c.sync.new.self c.size.new.self 1 0 0 0 0 0 1 0 0 c.sync.ensures.reach c.size.ensures.reach (omega arith) (omega arith) (omega arith) in
    both g.D.Disk.reach g.met.D.Disk.reach_then g.met.D.Disk.reach_more c.args.disk.now c.size.new.self c.read_file.new.disk 1 0 0 0 0 0 3 1 1 looked c.read_file.ensures.reach (omega arith) (omega arith) (omega arith)
