use Rattle.std.proofs.Common.{arith}
use Rattle.hy_operation.specs.Marks.{is_marked}
use Rattle.hy_operation.proofs.Filters.{filter-few}
use Rattle.hy_get.proofs.fetch.Fetch.attempts.Goals as goal

pub overflow_add-result : goal.overflow_add-result
overflow_add-result c =
    let few = filter-few (λ cloud. is_marked c.args.failed.now cloud) c.deref.result.now in
    let room = c.args.self.now.holders.small in
    omega (arith, few, c.count_among.ensures, c.deref.ensures.len, c.args.self.now.holders.ok.0, c.args.self.now.holders.ok.1, room)

pub returns-clause-small : goal.returns-clause-small
returns-clause-small c =
    let few = filter-few (λ cloud. is_marked c.args.failed.now cloud) c.deref.result.now in
    let room = c.args.self.now.holders.small in
    omega (arith, few, c.count_among.ensures, c.deref.ensures.len, c.args.self.now.holders.ok.0, c.args.self.now.holders.ok.1, room)
