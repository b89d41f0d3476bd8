-- The orders of marks are total.
use Rattle.std.specs.Cmp.{IsTotalOrder, nat_cmp_total, bool_cmp_total, then_total, on_total}
use Rattle.hy_record.specs.Stamp.{Timestamp, stamp_cmp}
use Rattle.hy_points.specs.declared.mark.Mark.{Mark}
use Rattle.hy_points.specs.Marks.{moment_cmp, stamp_first_cmp}

pub stamp_total : IsTotalOrder stamp_cmp
stamp_total = then_total (on_total (λ (s : Timestamp). s.sn) nat_cmp_total) (on_total (λ (s : Timestamp). s.cid) nat_cmp_total)

pub moment_total : IsTotalOrder moment_cmp
moment_total =
    then_total (on_total (λ (m : Mark). m.place) nat_cmp_total)
    (then_total (on_total (λ (m : Mark). m.is_at) bool_cmp_total)
    (then_total (on_total (λ (m : Mark). m.stamp) stamp_total)
    (then_total (on_total (λ (m : Mark). m.reads) bool_cmp_total) (on_total (λ (m : Mark). m.op) nat_cmp_total))))

pub stamp_first_total : IsTotalOrder stamp_first_cmp
stamp_first_total =
    then_total (on_total (λ (m : Mark). m.stamp) stamp_total)
    (then_total (on_total (λ (m : Mark). m.reads) bool_cmp_total)
    (then_total (on_total (λ (m : Mark). m.place) nat_cmp_total)
    (then_total (on_total (λ (m : Mark). m.is_at) bool_cmp_total) (on_total (λ (m : Mark). m.op) nat_cmp_total))))
