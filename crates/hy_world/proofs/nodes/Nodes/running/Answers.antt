use Rattle.std.proofs.Common.{◌≡◌, ℕ, List, map, length, ap, ◌∙◌, arith}
use Rattle.std.specs.List.{range_with_len}
use Rattle.hy_world.specs.declared.seat.Seat.{Seat}
use Rattle.hy_world.proofs.Progressing.{progress_at, running-more, told-at, are-running}
use Rattle.hy_world.proofs.nodes.Nodes.running.Goals as goal

pub loop-seat-preserved : goal.loop-seat-preserved
loop-seat-preserved c = λ p t r.
    running-more p t c.loop-seat.seat-index c.loop-seat.running.items c.push.new.self.items c.progress-progress.result c.in_ok-push.ensures.items
    (told-at p t c.args.self.now c.loop-seat.seat-index c.seat-item.result c.deref-seat-items.result.now c.progress-progress.result r c.deref-seat-items.ensures.value c.loop-seat-test.true c.seat-item.is c.progress-progress.ensures)
    (c.loop-seat.invariant p t r)

pub returns : goal.returns
returns c =
    let last : c.loop-seat.seat-index ≡ length c.args.self.now.seats.items = omega (arith, ap (λ (xs : List Seat). length xs) c.deref-seat-items.ensures.value) in
    λ p t r. are-running p t c.args.self.now c.loop-seat.running.items r (c.loop-seat.invariant p t r ∙ ap (λ (n : ℕ). map (progress_at p t) (range_with_len 0 n)) last)
