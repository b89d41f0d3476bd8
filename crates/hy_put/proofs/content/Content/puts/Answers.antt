use Rattle.std.proofs.Common.{◌∙◌, sym, ap}
use Rattle.std.specs.Prelude.{not}
use Rattle.hy_operation.specs.Marks.{is_marked}
use Rattle.hy_put.proofs.Fragments.{puts-more, puts-same}
use Rattle.hy_put.proofs.content.Content.puts.Goals as goal
use Rattle.hy_put.proofs.content.Content.puts.Goals.{then-not-has+in_ok-bytes+in_ok-push, else-not-has}

pub loop-cloud-preserved : goal.loop-cloud-preserved
loop-cloud-preserved c = elim c.if-not-has.branch [
  | then-not-has+in_ok-bytes+in_ok-push w ↦ rw w.sends-is (puts-more c.args.issuer.now c.args.self.now.fragments c.args.stamp (λ cloud. not (is_marked c.args.acked.now cloud)) c.loop-cloud.cloud c.loop-cloud.sends.items _ w.wish.result w.in_ok-bytes.bytes
      (ap not (sym c.has.ensures ∙ w.if-not-has.true)) c.loop-cloud.invariant (w.in_ok-bytes.ensures ∙ w.get.ensures) w.wish.ensures w.in_ok-push.ensures.items)
  | else-not-has w ↦ rw w.sends-is (puts-same c.args.issuer.now c.args.self.now.fragments c.args.stamp (λ cloud. not (is_marked c.args.acked.now cloud)) c.loop-cloud.cloud c.loop-cloud.sends.items (ap not (sym c.has.ensures ∙ w.if-not-has.false)) c.loop-cloud.invariant)
]
