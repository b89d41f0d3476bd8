use Rattle.std.proofs.Common.{◌+◌, max, length, arith}
use Rattle.hy_disk.specs.Disk.{TornFrom}
use Rattle.hy_journal.proofs.Moments.{started, goes_on, torn_same, sync_leaves}
use Rattle.hy_journal.proofs.store.store.Goals as goal

pub returns-in_err-write_at-clause-any_moment : goal.returns-in_err-write_at-clause-any_moment
returns-in_err-write_at-clause-any_moment g c =
    let n = length c.args.bytes.now in
    let P = TornFrom c.args.place n (g.D.Disk.may_leave c.args.disk.now) in
    let at_start = started g.D.Disk.moment g.D.Disk.left_since c.args.disk.now P
    (λ f left. (f, g.met.D.Disk.only_now c.args.disk.now f left, torn_same c.args.place n f)) in
    goes_on g.D.Disk.moment g.D.Disk.left_since c.args.disk.now c.args.disk.now c.write_at.new.self P _ at_start c.write_at.ensures.time
    (λ f now. c.in_err-write_at.ensures.leaves f now)

pub returns-clause-any_moment : goal.returns-clause-any_moment
returns-clause-any_moment g c =
    let n = length c.args.bytes.now in
    let P = TornFrom c.args.place n (g.D.Disk.may_leave c.args.disk.now) in
    let at_start = started g.D.Disk.moment g.D.Disk.left_since c.args.disk.now P
    (λ f left. (f, g.met.D.Disk.only_now c.args.disk.now f left, torn_same c.args.place n f)) in
    let wrote = goes_on g.D.Disk.moment g.D.Disk.left_since c.args.disk.now c.args.disk.now c.write_at.new.self P _ at_start c.write_at.ensures.time
    (λ f now. (c.in_ok-write_at.ensures.leaves f).0 now) in
    goes_on g.D.Disk.moment g.D.Disk.left_since c.args.disk.now c.write_at.new.self c.sync.new.self P _ wrote c.sync.ensures.time (λ f now.
    (c.in_ok-write_at.ensures.leaves f).0
    (sync_leaves (g.D.Disk.contents c.write_at.new.self) (g.D.Disk.may_leave c.write_at.new.self)
    (g.D.Disk.may_leave c.sync.new.self) c.sync.result c.sync.ensures.leaves
    (g.met.D.Disk.contents_left c.write_at.new.self) f now))

pub returns-in_err-write_at-clause-reach : goal.returns-in_err-write_at-clause-reach
returns-in_err-write_at-clause-reach g c =
    let n = length c.args.bytes.now in
    g.met.D.Disk.reach_more c.args.disk.now c.write_at.new.self 1 2 n n (c.args.place + n) (c.args.place + n) (omega arith) (omega arith)
    (omega arith) c.write_at.ensures.reach

pub returns-clause-reach : goal.returns-clause-reach
returns-clause-reach g c =
    let n = length c.args.bytes.now in
    g.met.D.Disk.reach_more c.args.disk.now c.sync.new.self (1 + 1) 2 (n + 0) n (max (c.args.place + n) 0) (c.args.place + n) (omega arith) (omega arith)
    (omega arith)
    (g.met.D.Disk.reach_then c.args.disk.now c.write_at.new.self c.sync.new.self 1 1 n 0 (c.args.place + n) 0 c.write_at.ensures.reach c.sync.ensures.reach)
