use Rattle.std.proofs.Common.{◌≡◌, None, Some, sym, ap, ◌∙◌, rules, arith}
use Rattle.std.specs.Prelude.{not}
use Rattle.std.specs.List.{find, slice_get}
use Rattle.std.specs.Option.{option_map}
use Rattle.std.proofs.lemmas.List.Sorted.{IsPartitionPoint-from_clause}
use Rattle.std.proofs.lemmas.Grind.{common_steps}
use Rattle.std.proofs.lemmas.Option.{gets}
use Rattle.hy_record.specs.Stamp.{stamp_lt}
use Rattle.hy_points.specs.declared.peaks.Peak.{Peak}
use Rattle.hy_points.proofs.Raising.{find-partition}
use Rattle.hy_points.proofs.peaks.first_above.Goals as goal

pub returns-in_err-peak : goal.returns-in_err-peak
returns-in_err-peak c =
    let point = IsPartitionPoint-from_clause (λ (peak : Peak). not (stamp_lt c.args.stamp.now peak.stamp)) _ _ c.partition_point-below.ensures.partitioned (c.requires c.args.stamp.now) (λ a r q k. search rules) in
    let e : find (λ (peak : Peak). stamp_lt c.args.stamp.now peak.stamp) c.args.peaks.now ≡ slice_get c.args.peaks.now c.partition_point-below.result =
    find-partition (λ (peak : Peak). stamp_lt c.args.stamp.now peak.stamp) c.args.peaks.now c.partition_point-below.result c.partition_point-below.ensures.bound point in
    c.from_residual.ensures ∙ sym (ap (option_map (λ (peak : Peak). peak.place)) (e ∙ missed))
  where
    missed : slice_get c.args.peaks.now c.partition_point-below.result ≡ None
    missed = grind (arith, common_steps, gets)

pub returns : goal.returns
returns c =
    let point = IsPartitionPoint-from_clause (λ (peak : Peak). not (stamp_lt c.args.stamp.now peak.stamp)) _ _ c.partition_point-below.ensures.partitioned (c.requires c.args.stamp.now) (λ a r q k. search rules) in
    let e : find (λ (peak : Peak). stamp_lt c.args.stamp.now peak.stamp) c.args.peaks.now ≡ slice_get c.args.peaks.now c.partition_point-below.result =
    find-partition (λ (peak : Peak). stamp_lt c.args.stamp.now peak.stamp) c.args.peaks.now c.partition_point-below.result c.partition_point-below.ensures.bound point in
    sym (ap (option_map (λ (peak : Peak). peak.place)) (e ∙ hit))
  where
    hit : slice_get c.args.peaks.now c.partition_point-below.result ≡ Some c.in_ok-peak.peak.now
    hit = grind (arith, common_steps, gets)
