use Rattle.std.proofs.Common.{◌≡◌, ◌∙◌, sym, ap, subst, false, arith, rules}
use Rattle.std.proofs.lemmas.List.{get_or_default}
use Rattle.std.proofs.lemmas.Bool.{ltb-true}
use Rattle.std.proofs.lemmas.List.Sorted.{IsPartitionPoint-from_clause}
use Rattle.hy_record.specs.Stamp.{stamp_lt, stamp_eq}
use Rattle.hy_record.proofs.Order.{stamp_eq-true}
use Rattle.hy_client.specs.declared.target.Target.{Target}
use Rattle.hy_client.proofs.Targets.{is_partitioned, none-at}
use Rattle.hy_client.proofs.deletion.place_of.Goals as goal

pub returns-then-is_same-clause-found : goal.returns-then-is_same-clause-found
returns-then-is_same-clause-found c = λ d.
    sym (stamp_eq-true c.in-Some.target.now.stamp c.args.stamp.now (sym c.is_same.ensures ∙ c.if-is_same.true))
    ∙ ap (λ (t : Target). t.stamp) (c.in-Some.ensures.lookup.1 ∙ get_or_default c.args.targets.now c.partition_point-place.result c.in-Some.target.now d (ltb-true _ _ (sym c.in-Some.ensures.lookup.0)))

pub returns-else-is_same-clause-none : goal.returns-else-is_same-clause-none
returns-else-is_same-clause-none c =
    let parted = is_partitioned c.args.targets.now c.args.stamp.now c.requires in
    let point = IsPartitionPoint-from_clause (λ target. stamp_lt target.stamp c.args.stamp.now) _ _ c.partition_point-place.ensures.partitioned parted (λ a r q k. search rules) in
    none-at c.args.targets.now c.args.stamp.now c.partition_point-place.result c.in-Some.target.now c.requires point
    (λ within. subst (λ (t : Target). stamp_eq t.stamp c.args.stamp.now ≡ false) c.in-Some.ensures.lookup.1 (sym c.is_same.ensures ∙ c.if-is_same.false))

pub returns-in-None-clause-none : goal.returns-in-None-clause-none
returns-in-None-clause-none c =
    let parted = is_partitioned c.args.targets.now c.args.stamp.now c.requires in
    let point = IsPartitionPoint-from_clause (λ target. stamp_lt target.stamp c.args.stamp.now) _ _ c.partition_point-place.ensures.partitioned parted (λ a r q k. search rules) in
    let end = c.in-None.ensures.lookup.3 in
    λ k d. none-at c.args.targets.now c.args.stamp.now c.partition_point-place.result d c.requires point (λ within. absurd (omega (arith, end, within))) k d
